-- Points added one by one to the lent node list of nodes' Flat: what a function that does so asks of the list, and what it
-- leaves. Then the points that a piece adds: its corners, and the middles of its edges. Definitions only.
use Rattle.std.specs.Prelude.{ℕ, suc, ◌*◌, ◌%◌, ◌≤◌, ◌<◌, Bool, ◌≡◌, List, length, get_or, take, drop, Float}
use Rattle.vector.specs.declared.GridPoint.{GridPoint}
use Rattle.vector.specs.declared.Point.{Point}
use Rattle.vector.specs.Grid.{origin}
use Rattle.vector.specs.Plane.{in_mm}
use Rattle.vector.specs.Rings.{most_points}
use Rattle.marks.specs.declared.EdgeMark.{EdgeMark}
use Rattle.marks.specs.declared.EdgeMark.TheVariants.{Straight}
use Rattle.nodes.specs.Nodes.{most_places, node_at, add_nodes}
use Rattle.nodes.specs.Growth.{InRange}
use Rattle.nodes.specs.Flat.{nodes_in, over, Usable}
use Rattle.quads.specs.Quads.{too_far, edge_middle}

-- ---- points added to the list l of u nodes
-- p 0 .. p (n - 1) are in range, and there is room for those that are new
pub record CanAdd (l : List Float) (u : ℕ) (p : ℕ → Point) (n : ℕ) : Type 0 where
  pub usable : Usable l u
  pub some : 0 < n
  pub few : n ≤ most_points
  pub ranged : (j : ℕ) → j < n → InRange (p j)
  pub fits : length (add_nodes (nodes_in l u) p n).nodes ≤ most_places
  pub room : length (add_nodes (nodes_in l u) p n).nodes * 2 ≤ length l

-- they have been added: the list is now m, with v nodes, and their numbers stand over the first n of os, which is now ks, all else
-- in it as found
pub record Adds (l : List Float) (u : ℕ) (p : ℕ → Point) (n : ℕ) (os : List ℕ) (m : List Float) (v : ℕ) (ks : List ℕ) : Type 0 where
  pub numbers : take n ks ≡ (add_nodes (nodes_in l u) p n).numbers
  pub rest : drop n ks ≡ drop n os
  pub long : length ks ≡ most_points
  pub used : v ≡ length (add_nodes (nodes_in l u) p n).nodes
  pub nodes : m ≡ over l (add_nodes (nodes_in l u) p n).nodes

-- ---- corner i of a piece, in mm
abbrev pub corner_at : List GridPoint → ℕ → Point
corner_at ps i = in_mm (get_or ps i origin)

-- ---- edges, the corners' numbers being vs
-- the listed node of corner i, counted on past the last to the first
abbrev pub end_at : List Float → ℕ → List ℕ → ℕ → ℕ → Point
end_at l u vs n i = node_at (nodes_in l u) (get_or (take n vs) (i % n) 0)

abbrev pub middle_at : Float → List Float → ℕ → List ℕ → List EdgeMark → ℕ → ℕ → Point
middle_at share l u vs es n i = edge_middle share (get_or (take n es) i Straight) (end_at l u vs n i) (end_at l u vs n (suc i))

abbrev pub far_at : Float → List Float → ℕ → List ℕ → List EdgeMark → ℕ → ℕ → Bool
far_at share l u vs es n i = too_far share (get_or (take n es) i Straight) (end_at l u vs n i) (end_at l u vs n (suc i))
