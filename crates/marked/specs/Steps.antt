-- The tests of the call before those of the lists. Definitions only.
use Rattle.std.specs.Prelude.{ℕ, ◌/◌, ◌||◌, List, [], ◌∷◌, ℤ, length}
use Rattle.limits.specs.declared.Limits.{Limits}
use Rattle.table.specs.Refusals.{◌when◌, first_of}
use Rattle.limits.specs.Sets.{limits_out}
use Rattle.call.specs.Call.{counts_out, units_out}
use Rattle.call.specs.Lent.{odd}
use Rattle.call.specs.Marked.{Marking, all_points, marks_out, outline_out}

-- the first refusal of the tests before those of the lists, or 0: 1, 2, 13, 14 and 15
unfoldable pub early_refusal : Limits → List ℤ → Marking → ℕ → ℕ
early_refusal L ring g size =
    let n = length ring / 2 in
    first_of
    (1 when (odd ring || counts_out n 0)
    ∷ 2 when units_out (all_points ring) [] size
    ∷ 13 when marks_out g.kinds g.snaps n
    ∷ 14 when outline_out g.kinds g.outline g.loops
    ∷ 15 when limits_out L
    ∷ [])
