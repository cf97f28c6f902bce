-- A piece as the code has it; the lent node list of nodes' Flat, and a lent list that holds a
-- cell as four numbers; what the functions ask of these, and what they answer. Definitions only.
use Rattle.std.specs.Prelude.{ℕ, ◌*◌, ◌≤◌, Bool, false, List, length, get_or, take, Float}
use Rattle.marks.specs.Part.{Part}
use Rattle.nodes.specs.Nodes.{most_places}
use Rattle.nodes.specs.Flat.{nodes_in, Usable}
use Rattle.laws.specs.Bounded.{below}
use Rattle.cells.specs.declared.Piece.{Piece}
use Rattle.cells.specs.declared.Tried.{Tried}
use Rattle.cells.specs.Cells.{Attempt, attempt, subdivide}
use Rattle.cells.specs.Stages.{mark_at}
use Rattle.cells.specs.Claims.{ValidPiece}
use Rattle.cells.specs.Asks.{Ask, attempt_asks, subdivide_asks}

-- ---- a piece: its points and the marks of its edges
abbrev pub part_of : Piece → Part
part_of p = record { points = p.points.now; edges = take (length p.points.now) p.edges.now }

-- ---- which edges of a piece are ring edges, as a list says
abbrev pub side_at : List Bool → ℕ → Bool
side_at bs i = get_or bs i false

-- ---- an attempt
abbrev pub attempt_in : Float → List Float → ℕ → Part → Attempt
attempt_in share l u p = attempt share (nodes_in l u) p.points (mark_at p)

-- its answer: the cell that fails is one of its cells
abbrev pub tried_of : Attempt → Tried
tried_of t = record { used = length t.nodes; fails = below (length t.cells) t.fails; far = t.far }

-- what it asks for, bs saying which edges are ring edges
abbrev pub attempt_asks_in : Float → List Float → ℕ → Part → List Bool → List Ask
attempt_asks_in share l u p bs = attempt_asks share (nodes_in l u) p.points (mark_at p) (side_at bs)

-- a valid piece, with room for the nodes of one attempt
pub record CanTry (share : Float) (l : List Float) (u : ℕ) (p : Part) : Type 0 where
  pub usable : Usable l u
  pub valid : ValidPiece p
  pub fits : length (attempt_in share l u p).nodes ≤ most_places
  pub room : length (attempt_in share l u p).nodes * 2 ≤ length l

-- ---- a piece
abbrev pub subdivide_in : Float → List Float → ℕ → Part → Attempt
subdivide_in share l u p = subdivide share (nodes_in l u) p

abbrev pub subdivide_asks_in : Float → List Float → ℕ → Part → List Bool → List Ask
subdivide_asks_in share l u p bs = subdivide_asks share (nodes_in l u) p (side_at bs)

-- a valid piece, with room for the nodes of all attempts that are made
pub record CanSubdividePiece (share : Float) (l : List Float) (u : ℕ) (p : Part) : Type 0 where
  pub usable : Usable l u
  pub valid : ValidPiece p
  pub fits : length (subdivide_in share l u p).nodes ≤ most_places
  pub room : length (subdivide_in share l u p).nodes * 2 ≤ length l
