-- 02, Card 12, Rim and inside: what nodes are asked for, attempt by attempt and piece by piece, in that order. "A middle made in an abandoned attempt counts
-- the same." Definitions only.
use Rattle.std.specs.Prelude.{ℕ, zero, suc, Bool, true, false, ◌||◌, cond, List, [], ◌∷◌, ◌++◌, map, length, get_or, eqb, Float}
use Rattle.laws.specs.Double.{nat}
use Rattle.laws.specs.Table.{tab}
use Rattle.vector.specs.declared.GridPoint.{GridPoint}
use Rattle.vector.specs.declared.Point.{Point}
use Rattle.marks.specs.declared.EdgeMark.{EdgeMark}
use Rattle.marks.specs.declared.EdgeMark.TheVariants.{Straight, Snap}
use Rattle.marks.specs.Part.{Part, no_part}
use Rattle.cells.specs.Cells.{attempt}
use Rattle.cells.specs.Pieces.{Outcome, done, failed, pieces_to}
use Rattle.cells.specs.Stages.{corners, middles, centre, mark_at, straight}

-- what a node is asked for as: "a corner or the middle of a ring edge", or "a centre or the middle of a cut"
pub data Role : Type 0 where
  as_corner : Role
  as_ring_middle : Role
  as_cut_middle : Role
  as_centre : Role

abbrev pub on_rim_of : Role → Bool
on_rim_of as_corner = true
on_rim_of as_ring_middle = true
on_rim_of as_cut_middle = false
on_rim_of as_centre = false

-- the node by its number, which it keeps
pub record Ask : Type 0 where
  pub node : ℕ
  pub role : Role

abbrev pub ask : ℕ → Role → Ask
ask k r = record { node = k; role = r }

abbrev pub as_middle : Bool → Role
as_middle o = cond o as_ring_middle as_cut_middle

-- ---- ring edges: "an edge of the cleaned ring, whichever part it is in; the diagonal of a cut is none, even where it lies along one". The split looks
-- at no mark. So an edge of a piece is a ring edge exactly if it is marked where the same ring is split with every edge marked
abbrev pub label : EdgeMark
label = Snap (record { x = nat 0; y = nat 0 })

unfoldable pub all_marked : Part → Part
all_marked p = record { points = p.points; edges = map (λ (e : EdgeMark). label) p.edges }

abbrev pub is_marked : EdgeMark → Bool
is_marked Straight = false
is_marked (Snap p) = true

-- of the piece r, so marked: edge k is a ring edge
abbrev pub of_ring : Part → ℕ → Bool
of_ring r k = is_marked (mark_at r k)

-- ---- the asks of n corners with the numbers vs, n middles with the numbers ms, edge i a ring edge if o i, and the centre c
unfoldable pub asks_for : List ℕ → List ℕ → ℕ → (ℕ → Bool) → ℕ → List Ask
asks_for vs ms c o n = tab (λ i. ask (get_or vs i 0) as_corner) n ++ tab (λ i. ask (get_or ms i 0) (as_middle (o i))) n ++ (ask c as_centre ∷ [])

-- one attempt at the corners ps over the nodes ns, edge k marked e k: "corners, then edge middles, then the mean of the corners"
unfoldable pub attempt_asks : Float → List Point → List GridPoint → (ℕ → EdgeMark) → (ℕ → Bool) → List Ask
attempt_asks share ns ps e o = asks_for (corners ns ps).numbers (middles share ns ps e).numbers (get_or (centre share ns ps e).numbers 0 0) o (length ps)

-- a piece: its first attempt, and the second if "the piece is done again on straight middles"
unfoldable pub subdivide_asks : Float → List Point → Part → (ℕ → Bool) → List Ask
subdivide_asks share ns p o =
    let t = attempt share ns p.points (mark_at p) in
    attempt_asks share ns p.points (mark_at p) o
    ++ cond (eqb t.fails (length p.points) || t.far) [] (attempt_asks share t.nodes p.points straight o)

-- one piece more; after a failure, none. r is the piece with each ring edge marked
unfoldable pub onward_asks : Float → Outcome → Part → Part → List Ask
onward_asks share (failed ns n k) p r = []
onward_asks share (done ns cs) p r = subdivide_asks share ns p (of_ring r)

-- the first i of the pieces ps; rs are these with each ring edge marked
unfoldable pub asks_to : Float → List Part → List Part → List Point → ℕ → List Ask
asks_to share ps rs ns zero = []
asks_to share ps rs ns (suc i) = asks_to share ps rs ns i ++ onward_asks share (pieces_to share ps ns i) (get_or ps i no_part) (get_or rs i no_part)
