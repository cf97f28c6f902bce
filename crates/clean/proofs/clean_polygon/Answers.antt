-- `clean_polygon`: the passes start from all places, and what they leave is copied.
use mathlib.Core.Path.{ap}
use lib.Ieee.{Float, of_bits, mul}
use Rattle.laws.specs.Double.{lit, ◌*f◌}
use Rattle.nearness.specs.Nearness.{tolerance}
use Rattle.clean.proofs.Answer.{start-valid, cleaned}
use Rattle.clean.proofs.clean_polygon.Goals as goal

pub invariant_of-start : goal.invariant_of-start
invariant_of-start c = record { valid = start-valid c.args.ring.now c.all.result c.requires c.all.ensures }

pub returns : goal.returns
unfolding tolerance lit of_bits mul
returns c =
    let p = c.passes in
    cleaned c.args.size _ c.all.ensures (ap (λ (t : Float). lit 1 7 *f t) c.from-tol.ensures) p.result c.cleared.result p.ensures c.cleared.ensures
