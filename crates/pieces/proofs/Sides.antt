-- Which edges of a piece are ring edges, as the code reads it: the number of the edge is one of the ring's, below 60. It is what the split says of the ring
-- with every edge marked (`sides-are`).
use Prim.Native.Nat.{ℕ, ◌+◌, ◌≤◌, ◌<◌}
use native.Mathlib.Decide.{dec_lt}
use native.Mathlib.Omega.{arith}
use mathlib.Core.Path.{◌≡◌, sym, ap, ◌∙◌}
use mathlib.Core.Bool.{Bool, false}
use mathlib.Core.List.{List}
use borrow.Author.Tests.{lt-ltb, le-ltb}
use lib.ListN.{length, get_or, take, replicate, length-replicate, get_or-replicate, get_or-eq_default}
use lib.Dec.{ltb}
use Rattle.laws.specs.Table.{tab}
use Rattle.laws.proofs.Table.{length_tab, get_d_tab, read_tab}
use Rattle.vector.specs.declared.GridPoint.{GridPoint}
use Rattle.marks.specs.declared.EdgeMark.{EdgeMark}
use Rattle.marks.specs.declared.EdgeMark.TheVariants.{Straight}
use Rattle.marks.specs.Part.{Part}
use Rattle.parts.specs.declared.list.PartList.{PartList}
use Rattle.parts.specs.Vertices.{vertex, edge_at}
use Rattle.parts.specs.Layout.{end, size, nth}
use Rattle.parts.specs.Pieces.{piece_in}
use Rattle.parts.proofs.Pieces.{piece-nth}
use Rattle.cells.specs.Asks.{label, is_marked, of_ring}
use Rattle.pieces.specs.Flat.{every_mark}

-- edge k of the part from place a on is the ring's
abbrev pub side_of : PartList → ℕ → ℕ → Bool
side_of p a k = ltb (vertex p.corners (a + k)).edge 60

pub every_length : length every_mark ≡ 60
unfolding every_mark
every_length = length-replicate 60 label

mark-at : (e : ℕ) → ltb e 60 ≡ is_marked (get_or every_mark e Straight)
unfolding every_mark
mark-at e = go (dec_lt e 60)
  where
    go : Dec (e < 60) → ltb e 60 ≡ is_marked (get_or (replicate 60 label) e Straight)
    go (yes h) = lt-ltb e 60 h ∙ ap is_marked (sym (get_or-replicate 60 e label Straight h))
    go (no h) =
        le-ltb e 60 (omega arith)
        ∙ ap is_marked (sym (get_or-eq_default (replicate 60 label) Straight {n = e} (omega (arith, h, length-replicate 60 label))))

pub sides-are : (p : PartList) (i : ℕ) → i < p.count → (out : List Bool) → take (size p i) out ≡ tab (side_of p (end p i)) (size p i)
    → ((k : ℕ) → size p i ≤ k → get_or out k false ≡ false)
    → (ring : List GridPoint) (j : ℕ) → get_or out j false ≡ of_ring (piece_in ring every_mark p i) j
sides-are p i l out e f ring j = go (dec_lt j (size p i)) ∙ ap (λ (q : Part). of_ring q j) (sym (piece-nth p i l ring every_mark))
  where
    marks : List EdgeMark
    marks = (nth ring every_mark p i).edges

    many : length marks ≡ size p i
    many = length_tab (λ k. edge_at every_mark p.corners (end p i + k)) (size p i)

    go : Dec (j < size p i) → get_or out j false ≡ is_marked (get_or marks j Straight)
    go (yes h) =
        read_tab out (side_of p (end p i)) (size p i) j false e h
        ∙ mark-at (vertex p.corners (end p i + j)).edge
        ∙ ap is_marked (sym (get_d_tab (λ k. edge_at every_mark p.corners (end p i + k)) (size p i) j Straight h))
    go (no h) = f j (omega arith) ∙ ap is_marked (sym (get_or-eq_default marks Straight (omega (arith, h, many))))
