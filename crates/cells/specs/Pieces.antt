-- 01, Words of demand 3: the pieces one after the other, each over the nodes that the one before left. "In the order they go out, a piece of k corners has
-- the next k new cells."
use Rattle.std.specs.Prelude.{ℕ, zero, suc, cond, List, [], ◌∷◌, ◌++◌, length, get_or, eqb, Float}
use Rattle.vector.specs.declared.Point.{Point}
use Rattle.marks.specs.Part.{Part, no_part}
use Rattle.quads.specs.declared.Cell.{Cell}
use Rattle.cells.specs.Cells.{subdivide}

-- what pieces come to: their nodes and cells; or, where "a cell fails and no retry is left", the nodes, "corners of the piece, k"
pub data Outcome : Type 0 where
  done : List Point → List Cell → Outcome
  failed : List Point → ℕ → ℕ → Outcome

-- one piece more; after a failure, none
unfoldable pub onward : Float → Outcome → Part → Outcome
onward share (failed ns n k) p = failed ns n k
onward share (done ns cs) p =
    let t = subdivide share ns p in
    cond (eqb t.fails (length p.points)) (done t.nodes (cs ++ t.cells)) (failed t.nodes (length p.points) t.fails)

-- the first i pieces
unfoldable pub pieces_to : Float → List Part → List Point → ℕ → Outcome
pieces_to share ps ns zero = done ns []
pieces_to share ps ns (suc i) = onward share (pieces_to share ps ns i) (get_or ps i no_part)

-- what subdivide makes of pieces that all hold: the nodes at the end, and the cells in order
abbrev pub nodes_over : Float → List Point → List Part → List Point
nodes_over share ns [] = ns
nodes_over share ns (p ∷ ps) = nodes_over share (subdivide share ns p).nodes ps

abbrev pub cells_over : Float → List Point → List Part → List Cell
cells_over share ns [] = []
cells_over share ns (p ∷ ps) = (subdivide share ns p).cells ++ cells_over share (subdivide share ns p).nodes ps
