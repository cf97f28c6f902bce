-- Rounding half away from zero, by quotient and remainder; and how large the key of a coordinate is.
use Rattle.std.proofs.Common.{◌≡◌, ℕ, zero, suc, ◌+◌, ◌*◌, ◌/◌, ◌%◌, ◌<◌, ◌≤◌, Bool, true, false, cond, not, T, leb, ℤ, pos, ◌+ℤ◌, ◌-ℤ◌, neg_ℤ, nat_abs}
use Rattle.std.proofs.Common.{sym, refl, ap, ◌∙◌, le_trans, le_of_eq, le_of_suc-le-suc, mod-lt, div-lt_iff_lt-mul, div-add-mod', arith, lit≤, leb→le}
use native.Mathlib.Nat.{mul-add-div, div-eq_of_lt, div-eq_of_lt-le}
use lib.Dec.{nleb→lt}
use lib.Ieee.{Float, nan, inf, fin, binary64, up, down, mul, of_int, round}
use lib.Ieee.Fits.{down_pos}
use Rattle.laws.specs.Double.{nat}
use Rattle.laws.specs.Within.{Within}
use Rattle.laws.proofs.Bounds.{mul-within, weaken}
use Rattle.laws.proofs.Integers.{nat_abs_add, nat_abs_sub}
use Rattle.keys.specs.Keys.{rounded, key}

-- n / d, rounded to the nearest whole number, and up at a half
abbrev pub half_up_of : ℕ → ℕ → ℕ
half_up_of n d = (2 * n + d) / (2 * d)

abbrev pub signed : Bool → ℕ → ℤ
signed s n = cond s (neg_ℤ (pos n)) (pos n)

-- by the quotient and the remainder
rest-div : (r d : ℕ) (b : Bool) → r < d → (T b → d ≤ 2 * r) → (T (not b) → 2 * r < d) → (2 * r + d) / (2 * d) ≡ cond b 1 0
rest-div r d true l h k = div-eq_of_lt-le (2 * d) (omega (arith, h tt)) (omega arith)
rest-div r d false l h k = div-eq_of_lt (omega (arith, k tt))

pub half_up-is : (n d : ℕ) → 0 < d → half_up_of n d ≡ n / d + cond (leb d (2 * (n % d))) 1 0
half_up-is n d D =
    ap (λ (z : ℕ). z / (2 * d)) (split (n / d) (n % d) (div-add-mod' n d))
    ∙ mul-add-div (twice D) (n / d) (2 * (n % d) + d)
    ∙ ap (λ (z : ℕ). n / d + z) (rest-div (n % d) d (leb d (2 * (n % d))) (mod-lt n D) (leb→le d (2 * (n % d))) (nleb→lt d (2 * (n % d))))
  where
    split : (q r : ℕ) → q * d + r ≡ n → 2 * n + d ≡ 2 * d * q + (2 * r + d)
    split q r h = omega arith

    twice : 0 < d → 0 < 2 * d
    twice h = omega arith

pub half_up-le : (n d B : ℕ) → 0 < d → n ≤ B * d → half_up_of n d ≤ B
half_up-le n d B D h = le_of_suc-le-suc ((div-lt_iff_lt-mul {k = 2 * d} (omega arith)).1 (omega arith))

pub nat_abs_signed : (s : Bool) (n : ℕ) → nat_abs (signed s n) ≡ n
nat_abs_signed false n = refl
nat_abs_signed true zero = refl
nat_abs_signed true (suc n) = refl

rounded-bound : (B : ℕ) (y : Float) → Within B y → nat_abs (rounded y) ≤ B
unfolding rounded
rounded-bound B nan h = absurd h.0
rounded-bound B (inf s) h = absurd h.0
rounded-bound B (fin s m e) h = le_trans (le_of_eq (nat_abs_signed s (half_up_of (m * up e) (down e)))) (half_up-le (m * up e) (down e) B (down_pos e) h.1)

-- 1.0e8, as the code has it
abbrev pub e8 : Float
e8 = fin false 390625 (pos 8)

e8-is : nat 100000000 ≡ e8
unfolding of_int round
e8-is = refl

pub key-is : (x : Float) → rounded (mul binary64 x e8) ≡ key x
unfolding key
key-is x = ap (λ (z : Float). rounded (mul binary64 x z)) (sym e8-is)

-- of a coordinate in range, and of a side of a box, which may lie a unit beyond it
pub scaled_1025 : (x : Float) → Within 1025 x → Within 102500000000 (mul binary64 x e8)
scaled_1025 x h = mul-within binary64 1025 100000000 x e8 (lit≤ tt) h (tt, lit≤ tt)

pub key-small : (x : Float) → Within 1025 x → nat_abs (key x) ≤ 102500000000
key-small x h = le_trans (le_of_eq (ap nat_abs (sym (key-is x)))) (rounded-bound 102500000000 (mul binary64 x e8) (scaled_1025 x h))

pub wider : (x : Float) → Within 1024 x → Within 1025 x
wider x h = weaken 1024 1025 x (lit≤ tt) h

-- one above such a key, and one below
step : (a b : ℕ) → a ≤ b + 1 → b ≤ 102500000000 → a ≤ 102500000001
step a b h k = omega arith

pub one-above : (k : ℤ) → nat_abs k ≤ 102500000000 → nat_abs (k +ℤ pos 1) ≤ 102500000001
one-above k h = step _ (nat_abs k) (nat_abs_add k (pos 1)) h

pub one_below : (k : ℤ) → nat_abs k ≤ 102500000000 → nat_abs (k -ℤ pos 1) ≤ 102500000001
one_below k h = step _ (nat_abs k) (nat_abs_sub k (pos 1)) h
