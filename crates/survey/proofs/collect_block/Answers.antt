-- `collect_block`: where none of the 8 is in the box, nothing goes in.
use Prim.Native.Nat.{◌+◌, ◌≤◌}
use native.Mathlib.Omega.{arith}
use Rattle.survey.proofs.Gathering as gathering
use Rattle.survey.proofs.collect_block.Goals as goal

pub returns-then-not-any_near : goal.returns-then-not-any_near
returns-then-not-any_near c =
    let x = c.args in
    let m : x.from ≤ x.from + 8 = omega arith in
    λ a b p q g. gathering.past_all x.nodes.now x.w a b x.from (x.from + 8) x.n _ _ m (
    gathering.none-seen x.nodes.now x.w x.from x.block.now c.requires.3 (c.any_near.ensures c.if-not-any_near.true)
    ) g
