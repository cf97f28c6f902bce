use lib.ListN.{length, take, drop}
use Prim.Native.Nat.{◌-◌}
use mathlib.Core.Path.{ap, ◌∙◌}
use Rattle.std.specs.Option.{unwrap_or}
use Rattle.arclength.proofs.Walk as walk
use Rattle.arclength.proofs.step_at.Goals as goal

pub returns : goal.returns
returns c =
    let a = c.args.arc.now in
    walk.first_end c.args.s a c.requires c.unwrap_or.result
    (c.unwrap_or.ensures ∙ ap (λ o. unwrap_or o (length (take (length a - 1 - 1) (drop 1 a)))) c.reached.ensures)
