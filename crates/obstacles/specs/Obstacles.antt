-- 01, Split: what stands in the way of the diagonal of a part whose points are counted from its worst corner: from the corner 0 to the corner k.
use Rattle.std.specs.Prelude.{ℕ, suc, Bool, ◌||◌, ◌&&◌, not, List, length, eqb}
use Rattle.laws.specs.Double.{lit}
use Rattle.laws.specs.Bounded.{any}
use Rattle.vector.specs.declared.GridPoint.{GridPoint}
use Rattle.vector.specs.Grid.{at}
use Rattle.vector.specs.Plane.{in_mm, lerp}
use Rattle.segments.specs.Segments.{segments_cross}
use Rattle.segments.specs.Meeting.{strictly_between}
use Rattle.simple.specs.Simple.{point_in_polygon}

-- edge e of n "touches neither end" of the diagonal, by index
unfoldable pub clear_of : ℕ → ℕ → ℕ → Bool
clear_of n k e = not (eqb e 0 || eqb (suc e) n || eqb e k || eqb (suc e) k)

-- the diagonal crosses edge e, which touches neither end
unfoldable pub crosses_edge : List GridPoint → ℕ → ℕ → Bool
crosses_edge r k e = clear_of (length r) k e && segments_cross (at r 0) (at r k) (at r e) (at r (suc e))

-- 02, Card 11: "a third corner of the part is strictly between its ends on the same line", corner j. No end is, by place or by position:
-- `first-end` and `second-end` of crate segments
unfoldable pub runs_over : List GridPoint → ℕ → ℕ → Bool
runs_over r k j = strictly_between (at r 0) (at r k) (at r j)

-- "its midpoint passes point_in_polygon, it crosses no edge that touches neither end", and by Card 11 it runs over no third corner
unfoldable pub unobstructed : List GridPoint → ℕ → Bool
unobstructed r k =
    point_in_polygon r (lerp (in_mm (at r 0)) (in_mm (at r k)) (lit 5 1))
    && not (any (crosses_edge r k) (length r))
    && not (any (runs_over r k) (length r))
