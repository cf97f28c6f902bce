-- The text of a decimal, part by part, and how long it is.
use Prim.Native.Nat.{ℕ, ◌+◌, ◌/◌, ◌%◌, ◌≤◌, ◌<◌}
use mathlib.Core.Path.{◌≡◌, refl, sym, ap, ◌∙◌}
use mathlib.Core.Bool.{Bool, true, false, cond}
use mathlib.Core.List.{List, [], ◌∷◌, ◌++◌}
use native.Mathlib.Omega.{arith}
use lib.ListN.{length, length-append}
use lib.Ieee.{Float}
use Rattle.text.specs.Text.{bytes, decimal, slots, filled_to, filled_by, stands_for, takes, filled}
use Rattle.text.proofs.Decimal.{one-digit, at-most_20}
use Rattle.decimals.specs.Rounded.{ten_thousandths, minus}
use Rattle.decimals.specs.Shown.{decimals, shown}

-- the minus, the whole mm, the point and four digits
abbrev pub sign : Bool → List ℕ
sign m = cond m (45 ∷ []) []

abbrev pub point : List ℕ
point = 46 ∷ []

abbrev pub digit : ℕ → List ℕ
digit n = (48 + n) ∷ []

filled_is : (m : Bool) (a b c d e : ℕ)
    → filled (cond m (bytes "-#.####") (bytes "#.####")) (a ∷ b ∷ c ∷ d ∷ e ∷ [])
    ≡ sign m ++ decimal a ++ point ++ decimal b ++ decimal c ++ decimal d ++ decimal e
unfolding filled_by filled_to slots stands_for takes bytes
filled_is true a b c d e = refl
filled_is false a b c d e = refl

pub decimals-is : (m : Bool) (n : ℕ)
    → decimals m n ≡ sign m ++ decimal (n / 10000) ++ point ++ digit (n / 1000 % 10) ++ digit (n / 100 % 10) ++ digit (n / 10 % 10) ++ digit (n % 10)
unfolding decimals
decimals-is m n =
    filled_is m (n / 10000) (n / 1000 % 10) (n / 100 % 10) (n / 10 % 10) (n % 10)
    ∙ (λ i. sign m ++ decimal (n / 10000) ++ point ++ is (n / 1000 % 10) (omega arith) i ++ is (n / 100 % 10) (omega arith) i
    ++ is (n / 10 % 10) (omega arith) i ++ is (n % 10) (omega arith) i)
  where
    is : (d : ℕ) → d < 10 → decimal d ≡ digit d
    is d h = sym (one-digit d (48 + d) h refl)

long : (s t : List ℕ) (a b c d : ℕ) → length (s ++ t ++ point ++ digit a ++ digit b ++ digit c ++ digit d) ≡ length s + length t + 5
long s t a b c d = simp length-append (omega arith)

pub decimals-long : (m : Bool) (n : ℕ) → length (decimals m n) ≡ cond m 1 0 + length (decimal (n / 10000)) + 5
decimals-long true n = ap length (decimals-is true n) ∙ long (45 ∷ []) (decimal (n / 10000)) (n / 1000 % 10) (n / 100 % 10) (n / 10 % 10) (n % 10)
decimals-long false n = ap length (decimals-is false n) ∙ long [] (decimal (n / 10000)) (n / 1000 % 10) (n / 100 % 10) (n / 10 % 10) (n % 10)

pub decimals-most : (m : Bool) (n : ℕ) → length (decimals m n) ≤ 26
decimals-most true n = omega (arith, decimals-long true n, at-most_20 (n / 10000))
decimals-most false n = omega (arith, decimals-long false n, at-most_20 (n / 10000))

pub shown-most : (x : Float) → length (shown x) ≤ 28
unfolding shown
shown-most x = omega (arith, decimals-most (minus x) (ten_thousandths x))
