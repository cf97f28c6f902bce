-- `split_polygon_at`: no diagonal where the cuts are spent or the worst corner is not bad.
use Rattle.std.proofs.Common.{ℕ, ◌-◌, List, length, sym, ap, ◌∙◌}
use Rattle.vector.specs.declared.GridPoint.{GridPoint}
use Rattle.laws.proofs.Table.{length_tab}
use Rattle.diagonal.specs.Diagonal.{best_to}
use borrow.Author.Tests.{lt-ltb, le-ltb}
use Rattle.split.proofs.Popped as Popped
use Rattle.split.proofs.split_polygon_at.Goals as goal
use Rattle.split.proofs.split_polygon_at.Goals.{else-cuts-limits-via-then-cuts-limits+else-is_bad, else-cuts-limits-via-else-cuts-limits}

pub returns-then-is_bad : goal.returns-then-is_bad
returns-then-is_bad c =
    let a = c.args in
    let ps = c.as_slice.result.now in
    let e = c.as_slice.ensures.0 ∙ c.rotated_points.ensures.0 in
    let n = ap (λ (l : List GridPoint). length l) e ∙ length_tab _ (length a.part.now.corners.now) in
    Popped.sought a.limits a.part.now.ring.now a.part.now.corners.now (length a.part.now.corners.now) a.cuts a.worst.at c.requires.1 a.worst.measure
    c.requires.2 (sym c.is_bad.ensures ∙ c.if-is_bad.true) (lt-ltb a.cuts a.limits.cuts c.if-cuts-limits.true) _ ps e
    (c.best_diagonal.ensures ∙ ap (λ (k : ℕ). best_to a.limits ps (k - 3)) n)

pub returns : goal.returns
returns c =
    let a = c.args in
    elim c.else-cuts-limits.branch [
      | else-cuts-limits-via-then-cuts-limits+else-is_bad w ↦
          Popped.not-bad a.limits a.part.now.ring.now a.part.now.corners.now (length a.part.now.corners.now) a.cuts a.worst.at c.requires.1 a.worst.measure
          c.requires.2 (sym w.is_bad.ensures ∙ w.if-is_bad.false)
      | else-cuts-limits-via-else-cuts-limits w ↦
          Popped.spent a.limits a.part.now.ring.now a.part.now.corners.now (length a.part.now.corners.now) a.cuts a.worst.at c.requires.1 a.worst.measure
          c.requires.2 (le-ltb a.cuts a.limits.cuts w.if-cuts-limits.false)
    ]
