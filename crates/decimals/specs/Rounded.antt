-- Card 9: "The decimal shown is within half of 0.0001 mm of the node's exact value, ties to the even last digit, and a shown
-- 0.0000 has no minus." Definitions only; specs/Nearest says the same without them, and proofs/NearestDecimal proves it.
use Prim.Native.Nat.{ℕ, ◌*◌, ◌/◌, ◌%◌, compare}
use Rattle.std.specs.Prelude.{Bool, false, ◌&&◌, ltb, Float}
use Rattle.std.specs.Float.{nan, inf, fin}
use Rattle.std.specs.Float.Ieee.{up, down, nearest}

-- n / d to the nearest whole number: the whole part, or one more where twice the remainder is above d, and at a tie the even one
unfoldable pub half_even : ℕ → ℕ → ℕ
half_even n d = nearest (n / d) (compare (n % d * 2) d)

-- how many ten-thousandths of a mm are shown of a coordinate in mm: `fin s m e` is m * 2 ^ e, and 2 ^ e is up e / down e
unfoldable pub ten_thousandths : Float → ℕ
ten_thousandths nan = 0
ten_thousandths (inf s) = 0
ten_thousandths (fin s m e) = half_even (m * up e * 10000) (down e)

-- the sign
abbrev pub negative : Float → Bool
negative nan = false
negative (inf s) = false
negative (fin s m e) = s

-- whether it is shown with a minus: not where the decimal is 0.0000
unfoldable pub minus : Float → Bool
minus x = negative x && ltb 0 (ten_thousandths x)
