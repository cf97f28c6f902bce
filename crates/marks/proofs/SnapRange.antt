-- The marks of a ring are as many as its points (`marks-many`), and for a chain on the sheet each snap point that a mark
-- carries is finite and within 1,024 mm (`marked_in_range`).
use Prim.Native.Nat.{ℕ, zero, suc}
use native.Mathlib.Omega.{arith}
use mathlib.Core.Path.{◌≡◌, refl, subst}
use mathlib.Core.Bool.{Bool, true, false, cond}
use mathlib.Core.List.{List, [], ◌∷◌, ◌++◌}
use lib.ListN.{length, get_or, length-append}
use lib.Dec.{ltb}
use borrow.Author.Tests.{ltb-true}
use Rattle.laws.specs.Bounded.{first}
use Rattle.vector.specs.declared.GridPoint.{GridPoint}
use Rattle.vector.specs.declared.Point.{Point}
use Rattle.vector.specs.Grid.{at}
use Rattle.vector.specs.Size.{InRange}
use Rattle.chain.specs.Chain.{Stretch, no_stretch, simplify_chain}
use Rattle.chain.specs.Range.{ChainOnSheet, SnapsInRange}
use Rattle.chain.proofs.Snaps.{snaps_in_range}
use Rattle.marks.specs.declared.EdgeMark.{EdgeMark}
use Rattle.marks.specs.declared.EdgeMark.TheVariants.{Straight, Snap}
use Rattle.marks.specs.Marks.{joins, mark, marks_to, marked}

-- ---- as many as the points
pub marks-many : (ss : List Stretch) (r : List GridPoint) (n : ℕ) → length (marks_to ss r n) ≡ n
unfolding marks_to
marks-many ss r zero = refl
marks-many ss r (suc n) = simp (length-append, marks-many ss r n) (omega arith)

pub marked-many : (ss : List Stretch) (r : List GridPoint) → length (marked ss r).edges ≡ length (marked ss r).points
unfolding marked
marked-many ss r = marks-many ss r (length r)

-- ---- in range
abbrev pub InSheetEdge : EdgeMark → Type 0
InSheetEdge m = (q : Point) → m ≡ Snap q → InRange q

pub straight_in : InSheetEdge Straight
straight_in q e = let z : ◌≡◌ {A = ℕ} 0 1 = cc in absurd (omega arith)

pub snap_in : (p : Point) → InRange p → InSheetEdge (Snap p)
snap_in p h q e = let z : p ≡ q = cc in subst InRange z h

mark_in : (ss : List Stretch) (a b : GridPoint) → SnapsInRange ss → InSheetEdge (mark ss a b)
unfolding mark
mark_in ss a b h = go (ltb j (length ss)) refl
  where
    j : ℕ
    j = first (λ i. joins a b (get_or ss i no_stretch)) (length ss) 0

    go : (t : Bool) → ltb j (length ss) ≡ t → InSheetEdge (cond t (Snap (get_or ss j no_stretch).snap) Straight)
    go true e = snap_in (get_or ss j no_stretch).snap (h j (ltb-true j (length ss) e))
    go false e = straight_in

marks_in_lem : (ss : List Stretch) (r : List GridPoint) → SnapsInRange ss → (n i : ℕ) → InSheetEdge (get_or (marks_to ss r n) i Straight)
unfolding marks_to
marks_in_lem ss r h zero i = straight_in
marks_in_lem ss r h (suc n) i = last (marks_to ss r n) (mark ss (at r n) (at r (suc n))) (marks_in_lem ss r h n) (mark_in ss (at r n) (at r (suc n)) h) i
  where
    last : (es : List EdgeMark) (e : EdgeMark) → ((i : ℕ) → InSheetEdge (get_or es i Straight)) → InSheetEdge e → (i : ℕ)
        → InSheetEdge (get_or (es ++ (e ∷ [])) i Straight)
    last [] e f g zero = g
    last [] e f g (suc i) = straight_in
    last (d ∷ es) e f g zero = f zero
    last (d ∷ es) e f g (suc i) = last es e (λ j. f (suc j)) g i

pub marked_in_range : (c : List GridPoint) → ChainOnSheet c → (r : List GridPoint) (i : ℕ) (q : Point)
    → get_or (marked (simplify_chain c) r).edges i Straight ≡ Snap q → InRange q
unfolding marked
marked_in_range c h r i = marks_in_lem (simplify_chain c) r (snaps_in_range c h) (length r) i
