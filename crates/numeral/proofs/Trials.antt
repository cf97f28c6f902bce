-- Numbers as a person writes them, by computation: what they say, and their units. An exact half needs 14 decimals, since 1/16384 has as many.
use mathlib.Core.Bool.{true, false}
use Rattle.std.specs.Prelude.{Some, None}
use mathlib.Core.Path.{◌≡◌, refl}
use mathlib.Core.List.{[], ◌∷◌}
use lib.IntN.{negsuc}
use Rattle.numeral.specs.Numeral.{scaled, more, scan_to, scanned, whole, has_minus, behind, read, units, within, signed}

-- 12.5 is 125 / 10, -3 is 3 / 1 with a minus, .5 is 5 / 10
pub twelve_and-a-half : read (49 ∷ 50 ∷ 46 ∷ 53 ∷ []) ≡ Some (record { minus = false; value = 125; scale = 10 })
unfolding scaled more scan_to scanned whole has_minus behind read
twelve_and-a-half = refl

pub minus-three : read (45 ∷ 51 ∷ []) ≡ Some (record { minus = true; value = 3; scale = 1 })
unfolding scaled more scan_to scanned whole has_minus behind read
minus-three = refl

pub point_five : read (46 ∷ 53 ∷ []) ≡ Some (record { minus = false; value = 5; scale = 10 })
unfolding scaled more scan_to scanned whole has_minus behind read
point_five = refl

-- "1-2", "1.2.3", "." and "-" are no numbers
pub no_numbers : (read (49 ∷ 45 ∷ 50 ∷ []) ≡ None) × (read (49 ∷ 46 ∷ 50 ∷ 46 ∷ 51 ∷ []) ≡ None) × (read (46 ∷ []) ≡ None)
    × (read (45 ∷ []) ≡ None)
unfolding scaled more scan_to scanned whole has_minus behind read
no_numbers = (refl, refl, refl, refl)

-- 0.00006103515625 mm is half a unit and goes to 1, a hair less to 0; with a minus to -1
pub half_up : units 6103515625 100000000000000 ≡ 1
unfolding units
half_up = refl

pub below_half : units 6103515624 100000000000000 ≡ 0
unfolding units
below_half = refl

pub half_down : signed true (units 6103515625 100000000000000) ≡ negsuc 0
unfolding units signed
half_down = refl

-- 1,024 mm is as it is, the next unit is beyond
pub last : within 1024 1 ≡ Some 8388608
unfolding within units
last = refl

pub past-last : within 10240001 10000 ≡ None
unfolding within units
past-last = refl
