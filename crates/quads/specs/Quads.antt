-- 01, Cells: the middle of an edge and the mean of the corners; quad_positive, all_distinct; the cells round a centre.
use Rattle.std.specs.Prelude.{ℕ, zero, suc, ◌%◌, Bool, false, ◌&&◌, ◌||◌, not, cond, List, [], ◌∷◌, ◌++◌, length, get_or, eqb, Float}
use Rattle.laws.specs.Double.{nat, lit, ◌+f◌, ◌*f◌, ◌/f◌, ◌≤f◌}
use Rattle.vector.specs.declared.Point.{Point}
use Rattle.vector.specs.Plane.{sub, cross}
use Rattle.root.specs.Norm.{dist}
use Rattle.marks.specs.declared.EdgeMark.{EdgeMark}
use Rattle.marks.specs.declared.EdgeMark.TheVariants.{Straight, Snap}
use Rattle.nodes.specs.Nodes.{node_at}
use Rattle.quads.specs.declared.Cell.{Cell}

-- "A straight middle is 0.5 × (a + b) in each coordinate, a and b the two listed ends"
unfoldable pub middle : Point → Point → Point
middle a b = record { x = lit 5 1 *f (a.x +f b.x); y = lit 5 1 *f (a.y +f b.y) }

-- "A marked edge takes its snap point if its distance from the middle is <= 0.4 × the chord": it is too far
unfoldable pub too_far : Float → EdgeMark → Point → Point → Bool
too_far share Straight a b = false
too_far share (Snap p) a b = not (dist p (middle a b) ≤f share *f dist a b)

-- where the middle of an edge goes
unfoldable pub edge_middle : Float → EdgeMark → Point → Point → Point
edge_middle share Straight a b = middle a b
edge_middle share (Snap p) a b = cond (too_far share (Snap p) a b) (middle a b) p

-- "the mean of the corners": the sum of a coordinate over the first n corners, from 0.0 on, then divided by their count
unfoldable pub total : (ℕ → Float) → ℕ → Float
total c zero = nat 0
total c (suc i) = total c i +f c i

unfoldable pub mean : (ℕ → Point) → ℕ → Point
mean a n = record { x = total (λ i. (a i).x) n /f nat n; y = total (λ i. (a i).y) n /f nat n }

-- "A cell fails if a corner cross is <= 1.0e-15 or two numbers agree": quad_positive and all_distinct
unfoldable pub turns_left : Point → Point → Point → Bool
turns_left a b c = not (cross (sub b a) (sub c b) ≤f lit 1 15)

unfoldable pub quad_positive : List Point → Cell → Bool
quad_positive ns c =
    let p = node_at ns c.a in
    let q = node_at ns c.b in
    let r = node_at ns c.c in
    let s = node_at ns c.d in
    turns_left p q r && turns_left q r s && turns_left r s p && turns_left s p q

unfoldable pub all_distinct : Cell → Bool
all_distinct c =
    not (eqb c.a c.b || eqb c.a c.c || eqb c.a c.d || eqb c.b c.c || eqb c.b c.d || eqb c.c c.d)

unfoldable pub holds : List Point → Cell → Bool
holds ns c = quad_positive ns c && all_distinct c

-- "Cell k is centre, middle k, corner k + 1, middle k + 1": the first k cells of the centre c, the middles ms and the corners vs
unfoldable pub cells_to : ℕ → List ℕ → List ℕ → ℕ → List Cell
cells_to c ms vs zero = []
cells_to c ms vs (suc k) =
    cells_to c ms vs k
    ++ (record { a = c; b = get_or ms k 0; c = get_or vs (suc k % length vs) 0; d = get_or ms (suc k % length ms) 0 } ∷ [])

abbrev pub no_cell : Cell
no_cell = record { a = 0; b = 0; c = 0; d = 0 }
