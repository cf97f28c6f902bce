-- The nodes that the attempts at a piece leave, and those that pieces leave. Definitions only.
use Rattle.std.specs.Prelude.{List, Float}
use Rattle.vector.specs.declared.Point.{Point}
use Rattle.marks.specs.Part.{Part}
use Rattle.cells.specs.Cells.{attempt}
pub use Rattle.cells.specs.Cells.{corners, end, middles, centre, mark_at, straight}
use Rattle.cells.specs.Pieces.{Outcome, done, failed}

-- the nodes that the first attempt at a piece leaves, and the second after it
abbrev pub first_nodes : Float → List Point → Part → List Point
first_nodes share ns p = (attempt share ns p.points (mark_at p)).nodes

abbrev pub second_nodes : Float → List Point → Part → List Point
second_nodes share ns p = (attempt share (first_nodes share ns p) p.points straight).nodes

-- the nodes that pieces leave, all of them done or one failed
abbrev pub nodes_of : Outcome → List Point
nodes_of (done ns cs) = ns
nodes_of (failed ns n k) = ns
