-- A place of a picture: a whole number of ten-thousandths of a mm, counted from 2,000 mm below the sheet's origin, so that none is negative. Definitions only.
use Rattle.std.specs.Prelude.{ℕ, suc, ◌+◌, ◌-◌, ◌*◌, cond, List, get_or, min, ℤ, pos, negsuc, Float}
use Rattle.nodes.specs.Flat.{on_sheet}
use Rattle.decimals.specs.Rounded.{half_even, ten_thousandths, minus}

-- the place of 0 mm
abbrev pub origin : ℕ
origin = 20000000

-- the place of a listed coordinate: the ten-thousandths that the sheet shows of it, to its side of the origin. A number that no list has is at the origin.
unfoldable pub place_of : Float → ℕ
place_of x = cond (on_sheet x) (cond (minus x) (origin - ten_thousandths x) (origin + ten_thousandths x)) origin

-- m units of 1/8192 mm in ten-thousandths, ties to even as on the sheet: 10000 / 8192 is 625 / 512. Beyond 1,024 mm they are those of
-- 1,024 mm: such a ring is refused and drawn at the limit.
unfoldable pub rounded : ℕ → ℕ
rounded m = half_even (min m 8388608 * 625) 512

-- the place of so many units, to their side of the origin
unfoldable pub unit_place : ℤ → ℕ
unit_place (pos n) = origin + rounded n
unit_place (negsuc n) = origin - rounded (suc n)

-- coordinate k of a ring's points, x and y in turn
unfoldable pub point_place : List ℤ → ℕ → ℕ
point_place ps k = unit_place (get_or ps k (pos 0))
