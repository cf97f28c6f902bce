-- What is claimed of a piece, and of pieces one after the other: words for the theorems of proofs/. Definitions only.
use Rattle.std.specs.Prelude.{ℕ, zero, suc, ◌+◌, ◌≤◌, ◌<◌, ◌≡◌, List, [], ◌∷◌, length, get_or, Float}
use Rattle.laws.specs.All.{All}
use Rattle.vector.specs.declared.Point.{Point}
use Rattle.vector.specs.Grid.{origin}
use Rattle.vector.specs.Size.{OnSheet}
use Rattle.vector.specs.Rings.{most_points}
use Rattle.marks.specs.declared.EdgeMark.TheVariants.{Snap}
use Rattle.marks.specs.Part.{Part, no_part}
use Rattle.nodes.specs.Growth.{InRange}
use Rattle.quads.specs.Quads.{middle, mean}
use Rattle.quads.specs.Flat.{Listed}
use Rattle.cells.specs.Cells.{Attempt, subdivide}
use Rattle.cells.specs.Pieces.{Outcome, done, failed, nodes_over, cells_over}
use Rattle.cells.specs.Stages.{end, mark_at, first_nodes}

-- ---- what a piece brings: at most 60 corners, on the sheet, and snap points that are finite and within 1,024 mm
pub record ValidPiece (p : Part) : Type 0 where
  pub some : 0 < length p.points
  pub few : length p.points ≤ most_points
  pub corner : (i : ℕ) → i < length p.points → OnSheet (get_or p.points i origin)
  pub snap : (i : ℕ) (q : Point) → i < length p.points → mark_at p i ≡ Snap q → InRange q

-- ---- the second attempt at a piece, over the nodes that the first left, has the first one's corners, straight middles and centre
pub record SameStart (share : Float) (ns : List Point) (p : Part) : Type 0 where
  pub corner : (i : ℕ) → end (first_nodes share ns p) p.points i ≡ end ns p.points i
  pub middle : (i : ℕ)
      → middle (end (first_nodes share ns p) p.points i) (end (first_nodes share ns p) p.points (suc i)) ≡ middle (end ns p.points i)
      (end ns p.points (suc i))
  pub centre : mean (end (first_nodes share ns p) p.points) (length p.points) ≡ mean (end ns p.points) (length p.points)

-- ---- cells
-- an attempt at n corners gives n cells, of listed nodes
pub record Celled (n : ℕ) (t : Attempt) : Type 0 where
  pub many : length t.cells ≡ n
  pub listed : All (Listed (length t.nodes)) t.cells

-- "a piece of k corners has the next k new cells", and none of them fails
abbrev pub CellsPerPiece : Float → List Point → List Part → Type 0
CellsPerPiece share ns [] = Unit {0}
CellsPerPiece share ns (p ∷ ps) =
    (length (subdivide share ns p).cells ≡ length p.points) × ((subdivide share ns p).fails ≡ length p.points)
    × CellsPerPiece share (subdivide share ns p).nodes ps

-- the corners of the first i pieces
abbrev pub corners_to : List Part → ℕ → ℕ
corners_to ps zero = 0
corners_to ps (suc i) = corners_to ps i + length (get_or ps i no_part).points

-- pieces of n corners in all that are done have n cells, of listed nodes
abbrev pub CellsOf : ℕ → Outcome → Type 0
CellsOf n (done ns cs) = (length cs ≡ n) × All (Listed (length ns)) cs
CellsOf n (failed ns m k) = Unit {0}

-- the pieces ps over ns, all of them done, leave what subdivide gives of each over the nodes that the one before left
abbrev pub Over : Float → List Point → List Part → Outcome → Type 0
Over share ns ps (done ms cs) = (ms ≡ nodes_over share ns ps) × (cs ≡ cells_over share ns ps) × CellsPerPiece share ns ps
Over share ns ps (failed ms n k) = Unit {0}
