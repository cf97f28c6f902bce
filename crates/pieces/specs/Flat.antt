-- The pieces of a split ring over the lent lists of nodes and of cells: what is asked of these, what is answered, and what is left in them. Definitions only.
use Rattle.std.specs.Prelude.{ℕ, ◌+◌, ◌*◌, ◌≤◌, ◌<◌, List, ◌++◌, length, take, drop, replicate, Result, Ok, Err, Float}
use Rattle.vector.specs.declared.GridPoint.{GridPoint}
use Rattle.vector.specs.Size.{AllOnSheet}
use Rattle.vector.specs.Rings.{most_points}
use Rattle.marks.specs.declared.EdgeMark.{EdgeMark}
use Rattle.marks.specs.Part.{Part}
use Rattle.parts.specs.declared.list.PartList.{PartList}
use Rattle.parts.specs.Layout.{list_of}
use Rattle.parts.specs.Pieces.{piece_in}
use Rattle.nodes.specs.Nodes.{most_places}
use Rattle.nodes.specs.Flat.{nodes_in, Usable}
use Rattle.quads.specs.declared.Cell.{Cell}
use Rattle.quads.specs.Quads.{no_cell}
use Rattle.cells.specs.Pieces.{Outcome, done, failed, pieces_to}
use Rattle.cells.specs.Stages.{nodes_of}
use Rattle.cells.specs.Claims.{ValidPiece, corners_to}
use Rattle.cells.specs.Asks.{Ask, label, asks_to}
use Rattle.quads.specs.Flat.{over_cells}
use Rattle.pieces.specs.declared.Laid.{Laid}
use Rattle.pieces.specs.declared.FailedPiece.{FailedPiece}

-- the pieces that p holds, of the ring's points and the marks of its edges
abbrev pub pieces_in : List GridPoint → List EdgeMark → PartList → List Part
pieces_in ring es p = list_of ring es p p.count

-- what they come to, over the first u nodes of l
abbrev pub outcome_in : Float → List Float → ℕ → List GridPoint → List EdgeMark → PartList → Outcome
outcome_in share l u ring es p = pieces_to share (pieces_in ring es p) (nodes_in l u) p.count

-- ---- the ring edges among theirs
-- every edge of the ring marked; the pieces so marked; and what the pieces ask for
unfoldable pub every_mark : List EdgeMark
every_mark = replicate most_points label

abbrev pub labelled_in : List GridPoint → PartList → List Part
labelled_in ring p = list_of ring every_mark p p.count

abbrev pub asks_in : Float → List Float → ℕ → List GridPoint → List EdgeMark → PartList → List Ask
asks_in share l u ring es p = asks_to share (pieces_in ring es p) (labelled_in ring p) (nodes_in l u) p.count

-- ---- what is asked
-- the pieces are valid, and there is room for all their nodes, and for a cell a corner in the reserve of places from `first` on
pub record CanSubdivide (share : Float) (l : List Float) (u : ℕ) (q : List ℕ) (first reserve : ℕ) (ring : List GridPoint) (es : List EdgeMark) (p : PartList) :
    Type 0 where
  pub usable : Usable l u
  pub sheet : AllOnSheet ring
  pub valid : (i : ℕ) → i < p.count → ValidPiece (piece_in ring es p i)
  pub fits : length (nodes_of (outcome_in share l u ring es p)) ≤ most_places
  pub room : length (nodes_of (outcome_in share l u ring es p)) * 2 ≤ length l
  pub corners : corners_to (pieces_in ring es p) p.count ≤ reserve
  pub places : (first + reserve) * 4 ≤ length q

-- ---- the answer
-- 01, What is returned: the number of a row, its values, the count of nodes and the number of new cells
pub record PiecesRow : Type 0 where
  pub code : ℕ
  pub corners : ℕ
  pub k : ℕ
  pub nodes : ℕ
  pub cells : ℕ

-- the row of each case. 0: "new counts"; 8: "corners of the piece, k", and "the new node count"
abbrev pub row : Result Laid FailedPiece → PiecesRow
row (Ok d) = record { code = 0; corners = 0; k = 0; nodes = d.nodes; cells = d.cells }
row (Err f) = record { code = 8; corners = f.corners; k = f.k; nodes = f.nodes; cells = 0 }

-- the row of what pieces come to
abbrev pub row_of : Outcome → PiecesRow
row_of (done ns cs) = record { code = 0; corners = 0; k = 0; nodes = length ns; cells = length cs }
row_of (failed ns n k) = record { code = 8; corners = n; k = k; nodes = length ns; cells = 0 }

-- ---- the cell list
-- l with the cells cs over its places from place i on, all else as found
unfoldable pub over_from : List ℕ → ℕ → List Cell → List ℕ
over_from l i cs = take (i * 4) l ++ over_cells (drop (i * 4) l) cs

-- the cells that are left there: those of the pieces; after a failure "the r + 2m cell places .. zero"
abbrev pub cells_left_of : ℕ → Outcome → List Cell
cells_left_of reserve (done ns cs) = cs
cells_left_of reserve (failed ns n k) = replicate reserve no_cell
