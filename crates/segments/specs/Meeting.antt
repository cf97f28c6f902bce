-- 02, Card 11: how two segments meet, apart, touching or crossing. Crossing is told in doubles by `segments_cross`, touching by exact whole numbers.
use Rattle.std.specs.Prelude.{Bool, ◌&&◌, ◌||◌, cond, pos, ℤ, Option, Some, None}
use Rattle.std.specs.Int.Signed.{lt_z, le_z}
use Rattle.laws.specs.Integer.{eq_z}
use Rattle.vector.specs.declared.GridPoint.{GridPoint}
use Rattle.vector.specs.Grid.{sub, cross, dot}
use Rattle.segments.specs.declared.Crossing.{Crossing}
use Rattle.segments.specs.declared.Crossing.TheVariants as meets
use Rattle.segments.specs.Segments.{segments_cross}

-- p, a and b are on one line
unfoldable pub on_line_of : GridPoint → GridPoint → GridPoint → Bool
on_line_of a b p = eq_z (cross (sub a p) (sub b p)) (pos 0)

-- where p is on the line of a and b: the dot product of the steps from it to them
unfoldable pub place_on_line : GridPoint → GridPoint → GridPoint → Option ℤ
place_on_line a b p = cond (on_line_of a b p) (Some (dot (sub a p) (sub b p))) None

-- p is on the closed segment from a to b: on their line, and a and b are not both on one side of it. A segment of no length has its one point
unfoldable pub on_segment : GridPoint → GridPoint → GridPoint → Bool
on_segment a b p = on_line_of a b p && le_z (dot (sub a p) (sub b p)) (pos 0)

-- p is strictly between a and b on their line: they are on its two sides
unfoldable pub strictly_between : GridPoint → GridPoint → GridPoint → Bool
strictly_between a b p = on_line_of a b p && lt_z (dot (sub a p) (sub b p)) (pos 0)

-- "an end of one segment is exactly on the other, two segments that overlap on one line included"
unfoldable pub touching : GridPoint → GridPoint → GridPoint → GridPoint → Bool
touching a b c d = on_segment a b c || on_segment a b d || on_segment c d a || on_segment c d b

-- "Crossing stays as it was, and apart is all else"
unfoldable pub segments_meet : GridPoint → GridPoint → GridPoint → GridPoint → Crossing
segments_meet a b c d = cond (segments_cross a b c d) meets.Crossing (cond (touching a b c d) meets.Touching meets.Apart)
