-- Where the corners and edges of pieces come from: a ring with its marks, and straight diagonals. The bound on new nodes asks no more of a split. Definitions
-- only.
use Rattle.std.specs.Prelude.{ℕ, suc, ◌+◌, ◌≤◌, ◌<◌, ◌≡◌, ◌⊎◌, List, length, get_or}
use Rattle.vector.specs.declared.GridPoint.{GridPoint}
use Rattle.vector.specs.Grid.{origin, at}
use Rattle.marks.specs.declared.EdgeMark.{EdgeMark}
use Rattle.marks.specs.declared.EdgeMark.TheVariants.{Straight}
use Rattle.marks.specs.Part.{Part, no_part}
use Rattle.cells.specs.Stages.{mark_at}

-- a to b is c to d, in either sense
abbrev pub SameEnds : GridPoint → GridPoint → GridPoint → GridPoint → Type 0
SameEnds a b c d = ((a ≡ c) × (b ≡ d)) ⊎ ((a ≡ d) × (b ≡ c))

pub record CutLine : Type 0 where
  pub a : GridPoint
  pub b : GridPoint

abbrev pub no_cut_line : CutLine
no_cut_line = record { a = origin; b = origin }

-- the edge from a to b, marked e, is an edge of the ring with its mark, or a diagonal and straight
pub data EdgeFrom (ring : Part) (ds : List CutLine) (a b : GridPoint) (e : EdgeMark) : Type 0 where
  side : (j : ℕ) → j < length ring.points → SameEnds a b (at ring.points j) (at ring.points (suc j)) → e ≡ mark_at ring j → EdgeFrom ring ds a b e
  across : (j : ℕ) → j < length ds → SameEnds a b (get_or ds j no_cut_line).a (get_or ds j no_cut_line).b → e ≡ Straight → EdgeFrom ring ds a b e

-- the corners of a piece are corners of the ring, and its edges such edges
pub record PieceFrom (ring : Part) (ds : List CutLine) (p : Part) : Type 0 where
  pub some : 0 < length p.points
  pub corner : (i : ℕ) → i < length p.points → (j : ℕ) × (j < length ring.points) × (get_or p.points i origin ≡ get_or ring.points j origin)
  pub edge : (i : ℕ) → i < length p.points → EdgeFrom ring ds (at p.points i) (at p.points (suc i)) (mark_at p i)

-- so are those of each of the pieces ps, which are at most one more than the diagonals
pub record CutFrom (ring : Part) (ds : List CutLine) (ps : List Part) : Type 0 where
  pub pieces : length ps ≤ length ds + 1
  pub from : (i : ℕ) → i < length ps → PieceFrom ring ds (get_or ps i no_part)
