-- A drawing's number, "in mm, decimals allowed and rounded to the nearest 1/8192 mm (halves away from zero)". A word is a list of bytes. Definitions only.
use Rattle.std.specs.Prelude.{ℕ, zero, suc, ◌+◌, ◌-◌, ◌*◌, ◌/◌, ◌^◌, ◌≤◌, ◌<◌, Bool, true, false, ◌&&◌, ◌||◌, not}
use Rattle.std.specs.Prelude.{cond, Option, Some, None, List, length, get_or, drop, ltb, eqb, ℤ, pos, negsuc}
use Rattle.numeral.specs.declared.Said.{Said}
use Rattle.numeral.specs.declared.Met.{Met}

-- a digit is a byte from 48 to 57
abbrev pub no_digit_of : ℕ → Bool
no_digit_of b = ltb b 48 || ltb 57 b

-- ten to the number of decimals, where one more digit comes after so many points
unfoldable pub scaled : ℕ → ℕ → ℕ
scaled scale points = cond (eqb points 0) scale (scale * 10)

-- one byte more: a point is counted, a digit is written behind those before it, and any other byte is passed over
unfoldable pub more : Met → ℕ → Met
more s b =
    cond (eqb b 46) (record { value = s.value; scale = s.scale; digits = s.digits; points = s.points + 1 })
    (cond (no_digit_of b) s
    (record { value = s.value * 10 + (b - 48); scale = scaled s.scale s.points; digits = s.digits + 1; points = s.points }))

-- the first i bytes, and all
unfoldable pub scan_to : List ℕ → ℕ → Met
scan_to w zero = record { value = 0; scale = 1; digits = 0; points = 0 }
scan_to w (suc i) = more (scan_to w i) (get_or w i 0)

unfoldable pub scanned : List ℕ → Met
scanned w = scan_to w (length w)

-- nothing but digits and a point: every byte is one of these. One digit at least, and 14 decimals at most
unfoldable pub whole : Met → ℕ → Bool
whole s n = not (eqb s.digits 0) && not (ltb 1 s.points) && not (ltb (10 ^ 14) s.scale) && eqb (s.digits + s.points) n

-- a minus stands in front or nowhere
unfoldable pub has_minus : List ℕ → Bool
has_minus w = eqb (get_or w 0 0) 45

-- what the bytes behind the sign say; more than 19 are no number
unfoldable pub behind : Bool → List ℕ → Option Said
behind minus b =
    let s = scanned b in
    cond (ltb 19 (length b)) None
    (cond (whole s (length b)) (Some (record { minus = minus; value = s.value; scale = s.scale })) None)

-- what a word says, if it is a number
unfoldable pub read : List ℕ → Option Said
read w = cond (has_minus w) (behind true (drop 1 w)) (behind false w)

-- the sign, the digits and the scale of what stands behind a sign, number or not; of more than 19 bytes, those of nothing
unfoldable pub spelled_behind : Bool → List ℕ → Said
spelled_behind minus b =
    let s = scanned b in
    cond (ltb 19 (length b)) (record { minus = false; value = 0; scale = 1 }) (record { minus = minus; value = s.value; scale = s.scale })

-- and those of a word
unfoldable pub spelled : List ℕ → Said
spelled w = cond (has_minus w) (spelled_behind true (drop 1 w)) (spelled_behind false w)

-- "rounded to the nearest 1/8192 mm (halves away from zero)": n / d mm, its sign aside, are so many units
unfoldable pub units : ℕ → ℕ → ℕ
units n d = (n * 16384 + d) / (2 * d)

-- no coordinate is beyond 1,024 mm, which are 8,388,608 units
unfoldable pub within : ℕ → ℕ → Option ℕ
within n d = cond (ltb 8388608 (units n d)) None (Some (units n d))

-- with its sign
unfoldable pub signed : Bool → ℕ → ℤ
signed m zero = pos 0
signed m (suc n) = cond m (negsuc n) (pos (suc n))

-- what fits 64 bits with one digit more
pub record Small (s : Met) : Type 0 where
  pub value : s.value ≤ 10 ^ 18
  pub scale : s.scale ≤ 10 ^ 18
  pub few : s.digits + s.points ≤ 100

-- a number's scale is no zero, and it has 14 decimals at most
pub record Scaled (n : Said) : Type 0 where
  pub some : 0 < n.scale
  pub few : n.scale ≤ 10 ^ 14
