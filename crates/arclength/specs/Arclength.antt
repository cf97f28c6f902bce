-- 01, Chain: the lengths along a chain, and point_at_arclength.
use Rattle.std.specs.Prelude.{ℕ, zero, suc, ◌-◌, cond, List, length, get_or, Float}
use Rattle.laws.specs.Double.{nat, clamp, ◌+f◌, ◌-f◌, ◌/f◌, ◌≤f◌}
use Rattle.laws.specs.Bounded.{first}
use Rattle.vector.specs.declared.GridPoint.{GridPoint}
use Rattle.vector.specs.declared.Point.{Point}
use Rattle.vector.specs.Grid.{origin}
use Rattle.vector.specs.Plane.{in_mm, lerp}
use Rattle.root.specs.Norm.{grid_dist}

abbrev pub point_at : List GridPoint → ℕ → GridPoint
point_at c i = get_or c i origin

-- the length of the chain up to its point i
unfoldable pub arc : List GridPoint → ℕ → Float
arc c zero = nat 0
arc c (suc i) = arc c i +f grid_dist (point_at c i) (point_at c (suc i))

-- the length of the step to the point i of the chain c
unfoldable pub step_to : List GridPoint → ℕ → Float
step_to c zero = nat 0
step_to c (suc i) = grid_dist (point_at c (suc i)) (point_at c i)

-- point_at_arclength: the point at the length s; i + 1 is the first point that lies as far, or the last point
unfoldable pub point_at_arclength : List GridPoint → Float → Point
point_at_arclength c s =
    let i = first (λ i. s ≤f arc c (suc i)) (length c - 2) 0 in
    let span = arc c (suc i) -f arc c i in
    cond (span ≤f nat 0) (in_mm (point_at c (suc i)))
    (lerp (in_mm (point_at c i)) (in_mm (point_at c (suc i))) (clamp (nat 0) (nat 1) ((s -f arc c i) /f span)))
