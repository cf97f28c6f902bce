-- 02, Card 10, No loose middle: "Cells on either side of a cut must meet along it, or the score wanders. For every accepted ring and every cut made in it,
-- show one node number that is the middle of that cut in the cells of both parts beside it, through all later cuts of those parts." Definitions only.
use Rattle.std.specs.Prelude.{ℕ, suc, ◌+◌, ◌-◌, ◌%◌, ◌<◌, ◌≡◌, List, length, get_or, take}
use Rattle.laws.specs.All.{All}
use Rattle.vector.specs.declared.Point.{Point}
use Rattle.vector.specs.Grid.{at}
use Rattle.vector.specs.Plane.{in_mm}
use Rattle.marks.specs.declared.EdgeMark.TheVariants.{Straight}
use Rattle.marks.specs.Part.{Part, no_part}
use Rattle.limits.specs.declared.Limits.{Limits}
use Rattle.split.specs.Split.{Cut}
use Rattle.cuts.specs.Provenance.{Side, first_part_of, second_part_of, diagonal, Under}
use Rattle.nodes.specs.Nodes.{node_at, number}
use Rattle.nodes.specs.Growth.{◌≈◌}
use Rattle.quads.specs.declared.Cell.{Cell}
use Rattle.quads.specs.Quads.{middle, no_cell}
use Rattle.cells.specs.Stages.{mark_at}
use Rattle.cells.specs.Claims.{corners_to}
use Rattle.cells.specs.Cover.{SameEnds}
use Rattle.call.specs.Call.{Lists}
use Rattle.call.specs.Divide.{CallAnswer}
use Rattle.call.specs.Demand.{pieces_of, log_of}

-- ---- a piece q, and cell k of its own, counted from 0
-- the place before e, of n that are counted round
abbrev pub before : ℕ → ℕ → ℕ
before n e = (e + (n - 1)) % n

-- edge e of the piece q is straight, and joins the ends of the side s, in one sense or the other
pub record Joins (q : Part) (s : Side) (e : ℕ) : Type 0 where
  pub of_piece : e < length q.points
  pub straight : mark_at q e ≡ Straight
  pub ends : SameEnds (at q.points e) (at q.points (suc e)) s.a s.b

-- "Cell k is centre, middle k, corner k + 1, middle k + 1": so two cells of a piece of n corners lie along its edge e, the cell before and cell e. In these
-- two the edge's first end has the number u, its middle m and its other end v
pub record Along (cell : ℕ → Cell) (n e u m v : ℕ) : Type 0 where
  pub end_before : (cell (before n e)).c ≡ u
  pub middle_before : (cell (before n e)).d ≡ m
  pub middle_after : (cell e).b ≡ m
  pub end_after : (cell e).c ≡ v

-- the two cells along an edge between the ends of s have the number u for s.a, m for the middle and v for s.b, whichever way the edge goes
pub data Meets (q : Part) (cell : ℕ → Cell) (s : Side) (u m v e : ℕ) : Type 0 where
  onward : at q.points e ≡ s.a → at q.points (suc e) ≡ s.b → Along cell (length q.points) e u m v → Meets q cell s u m v e
  backward : at q.points e ≡ s.b → at q.points (suc e) ≡ s.a → Along cell (length q.points) e v m u → Meets q cell s u m v e

-- ---- the ring p over the lists x, answered by a
-- the nodes that an answer lists
abbrev pub listed_in : CallAnswer → List Point
listed_in a = take a.row.nodes a.nodes

-- piece i, in the order they go out
abbrev pub piece : Limits → Part → ℕ → Part
piece L p i = get_or (pieces_of L p) i no_part

-- "In the order they go out, a piece of k corners has the next k new cells": cell k of piece i, as the answer's own list has it
abbrev pub cell_of : Limits → Part → Lists → CallAnswer → ℕ → ℕ → Cell
cell_of L p x a i k = get_or a.cells (x.cell_count_of + (corners_to (pieces_of L p) i + k)) no_cell

-- the cut t has one middle: the number m
pub record OneMiddle (L : Limits) (p : Part) (x : Lists) (a : CallAnswer) (t : Cut) : Type 0 where
  pub u : ℕ
  pub m : ℕ
  pub v : ℕ
  -- u and v are the numbers of the cut's two ends
  pub u_is : u ≡ number (listed_in a) (in_mm (diagonal t).a)
  pub v_is : v ≡ number (listed_in a) (in_mm (diagonal t).b)
  -- m is that of "0.5 × (a + b) in each coordinate, a and b the two listed ends": the first listed node with its key
  pub m_is : m ≡ number (listed_in a) (middle (node_at a.nodes u) (node_at a.nodes v))
  pub m_key : middle (node_at a.nodes u) (node_at a.nodes v) ≈ node_at a.nodes m
  -- all three are listed
  pub u_listed : u < a.row.nodes
  pub m_listed : m < a.row.nodes
  pub v_listed : v < a.row.nodes
  -- "both parts beside it, through all later cuts of those parts": piece i has come of the first part that the cut made, piece j of the second, and they are
  -- two
  pub i : ℕ
  pub j : ℕ
  pub i_low : i < length (pieces_of L p)
  pub j_low : j < length (pieces_of L p)
  pub apart : ¬ (i ≡ j)
  pub of_first : Under (log_of L p) (first_part_of t) (piece L p i)
  pub of_second : Under (log_of L p) (second_part_of t) (piece L p j)
  -- the cut is edge e of the one and edge f of the other, and there the middle is m
  pub e : ℕ
  pub f : ℕ
  pub in_first : Joins (piece L p i) (diagonal t) e
  pub in_second : Joins (piece L p j) (diagonal t) f
  pub meets_first : Meets (piece L p i) (cell_of L p x a i) (diagonal t) u m v e
  pub meets_second : Meets (piece L p j) (cell_of L p x a j) (diagonal t) u m v f
  -- and so it is in each piece, whichever, that has a straight edge between the cut's two ends
  pub meets : (k g : ℕ) → k < length (pieces_of L p) → Joins (piece L p k) (diagonal t) g → Meets (piece L p k) (cell_of L p x a k) (diagonal t) u m v g

-- no cut of the ring has a loose middle
abbrev pub NoLooseMiddle : Limits → Part → Lists → CallAnswer → Type 0
NoLooseMiddle L p x a = All (OneMiddle L p x a) (log_of L p)
