-- 02, Card 6: "The doubled area is to be summed as a fan: for each edge, the cross of its two ends taken from the first
-- corner." Definitions only; the area stays `Grid.polygon_area`, and proofs/Fan shows that the two are one.
use Rattle.std.specs.Prelude.{ℕ, zero, suc, List, ℤ, pos, ◌+ℤ◌, length}
use Rattle.vector.specs.declared.GridPoint.{GridPoint}
use Rattle.vector.specs.Grid.{sub, cross, at}

-- of one edge, from a to b, taken from p: the doubled area of the triangle p, a, b
unfoldable pub triangle : GridPoint → GridPoint → GridPoint → ℤ
triangle p a b = cross (sub a p) (sub b p)

-- of the first i edges, and of the ring
unfoldable pub fan_to : List GridPoint → ℕ → ℤ
fan_to r zero = pos 0
fan_to r (suc i) = fan_to r i +ℤ triangle (at r 0) (at r i) (at r (suc i))

unfoldable pub fan_area : List GridPoint → ℤ
fan_area r = fan_to r (length r)
