-- Card 9: a coordinate "with four decimals", as bytes. Definitions only.
use Rattle.std.specs.Prelude.{ℕ, ◌/◌, ◌%◌, Bool, cond, List, [], ◌∷◌, Float}
use Rattle.text.specs.Text.{bytes, filled}
use Rattle.decimals.specs.Rounded.{ten_thousandths, minus}

-- n ten-thousandths, m with a minus
unfoldable pub decimals : Bool → ℕ → List ℕ
decimals m n = filled (cond m (bytes "-#.####") (bytes "#.####")) (n / 10000 ∷ n / 1000 % 10 ∷ n / 100 % 10 ∷ n / 10 % 10 ∷ n % 10 ∷ [])

unfoldable pub shown : Float → List ℕ
shown x = decimals (minus x) (ten_thousandths x)
