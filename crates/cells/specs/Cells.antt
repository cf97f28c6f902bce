-- 01, Cells: subdivide, subdivide_unsnapped, quad_positive, all_distinct.
use Rattle.std.specs.Prelude.{ℕ, suc, ◌%◌, Bool, ◌||◌, not, cond, List, length, get_or, eqb, Float}
use Rattle.laws.specs.Bounded.{any, first}
use Rattle.vector.specs.declared.GridPoint.{GridPoint}
use Rattle.vector.specs.declared.Point.{Point}
use Rattle.vector.specs.Grid.{origin}
use Rattle.vector.specs.Plane.{in_mm}
use Rattle.marks.specs.declared.EdgeMark.{EdgeMark}
use Rattle.marks.specs.declared.EdgeMark.TheVariants.{Straight}
use Rattle.marks.specs.Part.{Part}
use Rattle.nodes.specs.Nodes.{node_at, Added, add_nodes}
use Rattle.quads.specs.declared.Cell.{Cell}
use Rattle.quads.specs.Quads.{too_far, edge_middle, mean, holds, cells_to, no_cell}

-- what one attempt at a piece leaves: the nodes, the cells, the first cell that fails or their number, and whether a snap was too far
pub record Attempt : Type 0 where
  pub nodes : List Point
  pub cells : List Cell
  pub fails : ℕ
  pub far : Bool

-- ---- the stages of an attempt
-- the nodes ns with the corners ps added, and the corners' numbers
abbrev pub corners : List Point → List GridPoint → Added
corners ns ps = add_nodes ns (λ i. in_mm (get_or ps i origin)) (length ps)

-- the listed node of corner i, counted on past the last to the first: where edge i starts
abbrev pub end : List Point → List GridPoint → ℕ → Point
end ns ps i = node_at (corners ns ps).nodes (get_or (corners ns ps).numbers (i % length ps) 0)

-- then the middles of the edges, edge k marked e k
abbrev pub middles : Float → List Point → List GridPoint → (ℕ → EdgeMark) → Added
middles share ns ps e = add_nodes (corners ns ps).nodes (λ i. edge_middle share (e i) (end ns ps i) (end ns ps (suc i))) (length ps)

-- then the centre
abbrev pub centre : Float → List Point → List GridPoint → (ℕ → EdgeMark) → Added
centre share ns ps e = add_nodes (middles share ns ps e).nodes (λ i. mean (end ns ps) (length ps)) 1

-- one attempt at the corners ps over the nodes ns, edge k marked e k: "corners, then edge middles, then the mean of the corners, all taken from listed nodes,
-- become nodes in that order"
unfoldable pub attempt : Float → List Point → List GridPoint → (ℕ → EdgeMark) → Attempt
attempt share ns ps e =
    let n = length ps in
    let cs = centre share ns ps e in
    let qs = cells_to (get_or cs.numbers 0 0) (middles share ns ps e).numbers (corners ns ps).numbers n in
    record {
      nodes = cs.nodes;
      cells = qs;
      fails = first (λ k. not (holds cs.nodes (get_or qs k no_cell))) n 0;
      far = any (λ i. too_far share (e i) (end ns ps i) (end ns ps (suc i))) n;
    }

-- the marks of a piece's edges, and those of the second attempt
abbrev pub mark_at : Part → ℕ → EdgeMark
mark_at p k = get_or p.edges k Straight

abbrev pub straight : ℕ → EdgeMark
straight k = Straight

-- subdivide. "After a failure with no snap judged too far, the piece is done again on straight middles"; "Nodes of the abandoned attempt stay"
unfoldable pub subdivide : Float → List Point → Part → Attempt
subdivide share ns p =
    let t = attempt share ns p.points (mark_at p) in
    cond (eqb t.fails (length p.points) || t.far) t (attempt share t.nodes p.points straight)
