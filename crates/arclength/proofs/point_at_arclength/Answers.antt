-- `point_at_arclength`: the step found, and the point on it.
use lib.ListN.{length}
use Rattle.arclength.proofs.Walk as walk
use Rattle.arclength.proofs.point_at_arclength.Goals as goal

pub returns : goal.returns
returns c =
    let r = c.step_at-i in
    walk.at_length c.args.chain.now c.args.arc.now c.requires.0 c.requires.1 c.args.s (length c.args.arc.now) r.result
    (walk.as_long c.args.chain.now c.args.arc.now c.requires.1) r.ensures.1 r.ensures.0 _ c.between.ensures
