-- 01, Cleaning: the tests of a point, within tolerance of another, and flat between its neighbours.
use Rattle.std.specs.Prelude.{ℕ, Bool, ◌&&◌, cond, pos, Float}
use Rattle.std.specs.Int.Signed.{lt_z}
use Rattle.laws.specs.Double.{nat, int, lit, clamp, ◌*f◌, ◌/f◌, ◌≤f◌}
use Rattle.vector.specs.declared.GridPoint.{GridPoint}
use Rattle.vector.specs.Grid.{sub, dot, same}
use Rattle.vector.specs.Plane.{in_mm, lerp}
use Rattle.root.specs.Norm.{dist, grid_dist}

-- "tolerance 1.0e-7 × sheet size"
unfoldable pub tolerance : ℕ → Float
tolerance size = lit 1 7 *f nat size

-- within tolerance
unfoldable pub near : Float → GridPoint → GridPoint → Bool
near tol a b = grid_dist a b ≤f tol

-- point_segment_distance: how far p is from the segment joining a and b
unfoldable pub point_segment_distance : GridPoint → GridPoint → GridPoint → Float
point_segment_distance p a b =
    let ab = sub b a in
    cond (same a b) (grid_dist p a)
    (dist (in_mm p) (lerp (in_mm a) (in_mm b) (clamp (nat 0) (nat 1) (int (dot (sub p a) ab) /f int (dot ab ab)))))

-- p, between its neighbours a and b: "within tolerance of the segment joining their neighbours for which the step in and the step out have dot > 0"
unfoldable pub is_flat : Float → GridPoint → GridPoint → GridPoint → Bool
is_flat tol a p b = (point_segment_distance p a b ≤f tol) && lt_z (pos 0) (dot (sub p a) (sub b p))
