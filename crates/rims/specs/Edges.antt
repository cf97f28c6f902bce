-- 02, Card 12: the "ring edge" of "the middle of a ring edge". An edge of the cleaned ring, whichever part it is in; the diagonal of a cut is none, even
-- where it lies along one. What `of_ring` of cells' specs/Asks tells of an edge of a piece. Definitions only.
use Rattle.std.specs.Prelude.{ℕ, suc, ◌<◌, ◌≡◌, Bool, true, false, length, get_or}
use mathlib.Core.List.{List, Memᴰ}
use Rattle.vector.specs.declared.GridPoint.{GridPoint}
use Rattle.vector.specs.Grid.{at}
use Rattle.marks.specs.declared.EdgeMark.{EdgeMark}
use Rattle.marks.specs.declared.EdgeMark.TheVariants.{Straight}
use Rattle.marks.specs.Part.{Part, no_part}
use Rattle.limits.specs.declared.Limits.{Limits}
use Rattle.split.specs.Split.{Cut, split_bad_vertices}
use Rattle.cuts.specs.Provenance.{diagonal}
use Rattle.cells.specs.Stages.{mark_at}
use Rattle.cells.specs.Cover.{SameEnds}
use Rattle.cells.specs.Asks.{all_marked, of_ring}

-- the edge from p to q, marked e, by what is told of it: an edge of the ring, in one sense or the other; or the diagonal of a cut, and straight
pub data Source (ring : Part) (log : List Cut) (p q : GridPoint) (e : EdgeMark) : Bool → Type 0 where
  side : (j : ℕ) → j < length ring.points → SameEnds p q (at ring.points j) (at ring.points (suc j)) → Source ring log p q e true
  across : (c : Cut) → Memᴰ c log → SameEnds p q (diagonal c).a (diagonal c).b → e ≡ Straight → Source ring log p q e false

-- piece i of the ring, and the same piece of the ring with each edge marked
abbrev pub piece_of : Limits → Part → ℕ → Part
piece_of L ring i = get_or (split_bad_vertices L ring).pieces i no_part

abbrev pub labels_of : Limits → Part → ℕ → Part
labels_of L ring i = get_or (split_bad_vertices L (all_marked ring)).pieces i no_part

-- the ring with each edge marked is split into the same pieces, and the mark of each edge tells where it comes from
pub record Labelled (L : Limits) (ring : Part) : Type 0 where
  pub many : length (split_bad_vertices L (all_marked ring)).pieces ≡ length (split_bad_vertices L ring).pieces
  pub points : (i : ℕ) → (labels_of L ring i).points ≡ (piece_of L ring i).points
  pub from : (i k : ℕ) → i < length (split_bad_vertices L ring).pieces → k < length (piece_of L ring i).points
      → Source ring (split_bad_vertices L ring).log (at (piece_of L ring i).points k) (at (piece_of L ring i).points (suc k)) (mark_at (piece_of L ring i) k)
      (of_ring (labels_of L ring i) k)
