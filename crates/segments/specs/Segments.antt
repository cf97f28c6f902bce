-- 01, Simple: segments_cross, for two segments by their ends.
use Rattle.std.specs.Prelude.{Bool, ◌&&◌, not, ℤ, pos, Float}
use Rattle.laws.specs.Double.{nat, int, lit, ◌-f◌, ◌/f◌, ◌<f◌}
use Rattle.laws.specs.Integer.{eq_z}
use Rattle.vector.specs.declared.GridPoint.{GridPoint}
use Rattle.vector.specs.Grid.{sub, cross}

-- "The two parameters lie strictly between 1.0e-9 and 1.0 - 1.0e-9"
unfoldable pub interior : Float → Bool
interior t = (lit 1 9 <f t) && (t <f nat 1 -f lit 1 9)

unfoldable pub ratio : ℤ → ℤ → Float
ratio num den = int num /f int den

-- segments_cross, from a to b and from c to d: "parallel is no crossing, touching is no crossing"
unfoldable pub segments_cross : GridPoint → GridPoint → GridPoint → GridPoint → Bool
segments_cross a b c d =
    let den = cross (sub b a) (sub d c) in
    not (eq_z den (pos 0)) && interior (ratio (cross (sub c a) (sub d c)) den) && interior (ratio (cross (sub c a) (sub b a)) den)
