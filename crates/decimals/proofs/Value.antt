-- A coordinate's ten-thousandths from the fields of its double: below the field 1008 there are none, and from it on, for
-- a coordinate within 1,024 mm, they are a product of 64 bits over a power of two.
use mathlib.Core.Path.{◌≡◌, refl, sym, ap, ◌∙◌, subst}
use mathlib.Core.Bool.{Bool, true, false, ◌&&◌, cond, true≢false}
use Prim.Native.Nat.{ℕ, zero, suc, ◌+◌, ◌-◌, ◌*◌, ◌/◌, ◌%◌, ◌^◌, ◌≤◌, ◌<◌}
use native.Mathlib.Nat.{le_trans, le_of_eq, lt_of_lt_of_le, suc-mul, mul_assoc, mul_right_comm, mul-le-mul_right, le_of_mul-le-mul_right, zero-mul}
use native.Mathlib.Omega.{arith}
use lib.Dec.{T, leb, ltb, eqb}
use lib.IntN.{pos}
use lib.Arith.{lt_of_le-ne}
use lib.Pow.{pow-add, pow_pos, pow_mono, shl_lt}
use lib.Ieee.{Float, nan, inf, fin, binary64, up, down, odd, lt, fits, of_fields, of_bits, to_bits}
use lib.Ieee.Bits.{of_bits-to_bits}
use lib.Ieee.Fits.{up_pos, down_pos}
use lib.Ieee.Exact.{HasValue}
use lib.Ieee.Scale.{finite}
use lib.Ieee.Positive.{den, den_pos}
use borrow.Author.Tests.{lt-ltb, le-ltb, eq-eqb}
use Rattle.laws.specs.Within.{Within}
use Rattle.laws.proofs.Between.{value_num}
use Rattle.laws.proofs.Booleans.{and-false}
use Rattle.laws.proofs.Canonical.{pow_le_back}
use Rattle.laws.proofs.Constants.{+0, plus-zero-is}
use Rattle.root.proofs.Pattern.{fields_low, fields_high}
use Rattle.decimals.specs.Rounded.{half_even, ten_thousandths, negative, minus}
use Rattle.decimals.proofs.Rounding.{half-same, half-none, half_le}
use Rattle.std.proofs.Math.Bool.{and-true}

-- the highest field has no finite value
fields_top : (s : Bool) (x t : ℕ) → suc x ≡ 2047 → T (finite (of_fields binary64 s (suc x) t)) → ⊥
unfolding of_fields
fields_top s x t e h = go (eqb (suc x) 2047) (eqb t 0) (odd 53 s (2 ^ 52 + t) x 1074) (eq-eqb (suc x) 2047 e) h
  where
    go : (a b : Bool) (y : Float) → a ≡ true → T (finite (cond a (cond b (inf s) nan) y)) → ⊥
    go true true y e h = h
    go true false y e h = h
    go false b y e h = true≢false (sym e)

-- ---- ten-thousandths of a value a / c
value-is : (x : Float) (s : Bool) (a c : ℕ) → 0 < c → HasValue x s a c → ten_thousandths x ≡ half_even (a * 10000) c
unfolding ten_thousandths
value-is (fin t m e) s a c C v =
    half-same (m * up e * 10000) (down e) (a * 10000) c (down_pos e) C
    (mul_right_comm (m * up e) 10000 c ∙ ap (λ (z : ℕ). z * 10000) v.1 ∙ mul_right_comm a (down e) 10000)
value-is nan s a c C v = elim v [ ]
value-is (inf _) s a c C v = elim v [ ]

value_none : (x : Float) (s : Bool) (a B c : ℕ) → 0 < c → HasValue x s a c → a < B → c ≡ 32768 * B → ten_thousandths x ≡ 0
value_none x s a B c C v h e = value-is x s a c C v ∙ half-none (a * 10000) c C (omega arith)

value-le : (x : Float) (s : Bool) (a c : ℕ) → HasValue x s a c → Within 1024 x → a ≤ 1024 * c
value-le x s a c v w =
    let n = (value_num x s a c v).1 in
    le_of_mul-le-mul_right {k = den x} (le_trans (le_of_eq (sym n)) (le_trans (mul-le-mul_right c w.1) (le_of_eq (mul_right_comm 1024 (den x) c))))
    (den_pos x)

-- ---- by the fields
abbrev pub field : Float → ℕ
field x = to_bits binary64 x % 2 ^ 63 / 2 ^ 52

abbrev pub digits : Float → ℕ
digits x = to_bits binary64 x % 2 ^ 52

module _ (x : Float) (t : T (fits binary64 x)) where
  by_fields : of_fields binary64 (leb (2 ^ 63) (to_bits binary64 x)) (field x) (digits x) ≡ x
  unfolding of_bits
  by_fields = of_bits-to_bits binary64 x t

  below : (s : Bool) (f d : ℕ) → f < 1008 → d < 2 ^ 52 → ten_thousandths (of_fields binary64 s f d) ≡ 0
  below s zero d h l =
      value_none (of_fields binary64 s 0 d) s (d * 2 ^ 0) (2 ^ 1059) (2 ^ 1074) (pow_pos 1074) (fields_low s d)
      (lt_of_lt_of_le (shl_lt 52 0 l) (pow_mono {i = 52} {j = 1059} (omega arith))) (pow-add 2 15 1059)
  below s (suc k) d h l =
      value_none (of_fields binary64 s (suc k) d) s ((2 ^ 52 + d) * 2 ^ k) (2 ^ 1059) (2 ^ 1074) (pow_pos 1074) (fields_high s k d (omega arith))
      (lt_of_lt_of_le (shl_lt 53 k (omega arith)) (pow_mono {i = 53 + k} {j = 1059} (omega arith))) (pow-add 2 15 1059)

  pub low_field : field x < 1008 → 0 ≡ ten_thousandths x
  low_field h = sym (ap ten_thousandths (sym by_fields) ∙ below (leb (2 ^ 63) (to_bits binary64 x)) (field x) (digits x) h (omega arith))

  -- from the field k + 1 = 1008 on
  module _ (w : Within 1024 x) (k : ℕ) (e : field x ≡ suc k) where
    at_field : of_fields binary64 (leb (2 ^ 63) (to_bits binary64 x)) (suc k) (digits x) ≡ x
    at_field = ap (λ (f : ℕ). of_fields binary64 (leb (2 ^ 63) (to_bits binary64 x)) f (digits x)) (sym e) ∙ by_fields

    normal : suc k < 2047
    normal =
        lower (λ d. fields_top (leb (2 ^ 63) (to_bits binary64 x)) k (digits x) d (subst (λ (v : Float). T (finite v)) (sym at_field) w.0))
        (field-small (to_bits binary64 x) k e)
      where
        field-small : (b k : ℕ) → b % 2 ^ 63 / 2 ^ 52 ≡ suc k → suc k ≤ 2047
        field-small b k e = omega arith

        lower : (suc k ≡ 2047 → ⊥) → suc k ≤ 2047 → suc k < 2047
        lower f h = lt_of_le-ne h f

    value : HasValue x (leb (2 ^ 63) (to_bits binary64 x)) ((2 ^ 52 + digits x) * 2 ^ k) (2 ^ 1074)
    value =
        subst (λ (v : Float). HasValue v (leb (2 ^ 63) (to_bits binary64 x)) ((2 ^ 52 + digits x) * 2 ^ k) (2 ^ 1074)) at_field
        (fields_high (leb (2 ^ 63) (to_bits binary64 x)) k (digits x) normal)

    pub field-le : k ≤ 1032
    field-le =
        from k (pow_le_back (52 + k) 1084
        (le_trans (le_of_eq (pow-add 2 52 k))
        (le_trans (mul-le-mul_right (2 ^ k) (plus-le (2 ^ 52) (digits x)))
        (le_trans (value-le x _ ((2 ^ 52 + digits x) * 2 ^ k) (2 ^ 1074) value w) (le_of_eq (sym (pow-add 2 10 1074)))))))
      where
        from : (k : ℕ) → 52 + k ≤ 1084 → k ≤ 1032
        from k h = omega arith

        plus-le : (a b : ℕ) → a ≤ a + b
        plus-le a b = omega arith

    moved : (M P Q R : ℕ) → R ≡ P * Q * 16 → M * P * 10000 * Q ≡ M * 625 * R
    moved M P Q R r =
        mul_right_comm (M * P) 10000 Q
        ∙ ap (λ (z : ℕ). z * 10000) (mul_assoc M P Q)
        ∙ sym (ap (λ (z : ℕ). M * 625 * z) r ∙ sym (mul_assoc (M * 625) (P * Q) 16) ∙ ap (λ (z : ℕ). z * 16) (mul_right_comm M 625 (P * Q))
        ∙ mul_assoc (M * (P * Q)) 625 16)

    powers : 2 ^ 1074 ≡ 2 ^ k * 2 ^ (1070 - k) * 16
    powers = pow-add 2 1070 4 ∙ ap (λ (z : ℕ). 2 ^ z * 16) (sum k field-le) ∙ ap (λ (z : ℕ). z * 16) (pow-add 2 k (1070 - k))
      where
        sum : (k : ℕ) → k ≤ 1032 → 1070 ≡ k + (1070 - k)
        sum k h = omega arith

    pub high-field : half_even ((2 ^ 52 + digits x) * 625) (2 ^ (1070 - k)) ≡ ten_thousandths x
    high-field =
        sym
        (value-is x _ ((2 ^ 52 + digits x) * 2 ^ k) (2 ^ 1074) (pow_pos 1074) value
        ∙ half-same ((2 ^ 52 + digits x) * 2 ^ k * 10000) (2 ^ 1074) ((2 ^ 52 + digits x) * 625) (2 ^ (1070 - k)) (pow_pos 1074) (pow_pos (1070 - k))
        (moved (2 ^ 52 + digits x) (2 ^ k) (2 ^ (1070 - k)) (2 ^ 1074) powers))

-- ---- how many they are
pub shown-le : (x : Float) → Within 1024 x → ten_thousandths x ≤ 10240000
unfolding ten_thousandths
shown-le nan w = absurd w.0
shown-le (inf s) w = absurd w.0
shown-le (fin s m e) w = half_le (m * up e * 10000) (down e) 10240000 (down_pos e) (omega (arith, w.1))

-- ---- the minus
pub no_minus : (x : Float) (n : ℕ) → n ≡ ten_thousandths x → n ≡ 0 → false ≡ minus x
unfolding minus
no_minus x n e z = sym (ap (λ (k : ℕ). negative x && ltb 0 k) (sym e ∙ z) ∙ and-false (negative x))

below-zero : (x : Float) → T (finite x) → 0 < ten_thousandths x → lt x (fin false 0 (pos 0)) ≡ negative x
unfolding lt ten_thousandths
below-zero (fin false m e) f h = le-ltb (m * up e * 1) (0 * 1 * down e) (omega (arith, zero-mul (down e)))
below-zero (fin true zero e) f h = absurd (go (half-none (0 * up e * 10000) (down e) (down_pos e) (omega (arith, zero-mul (up e), down_pos e))) h)
  where
    go : {n : ℕ} → n ≡ 0 → 0 < n → ⊥
    go e h = omega arith
below-zero (fin true (suc m) e) f h = lt-ltb 0 (suc m * up e * 1 + 0 * 1 * down e) (omega (arith, up_pos e, suc-mul m (up e)))
below-zero nan f h = elim f [ ]
below-zero (inf _) f h = elim f [ ]

pub the_minus : (x : Float) (n : ℕ) → Within 1024 x → n ≡ ten_thousandths x → (n ≡ 0 → ⊥) → lt x +0 ≡ minus x
unfolding minus
the_minus x n w e z =
    let p : 0 < ten_thousandths x = rw e at (positive n z) in
    ap (lt x) plus-zero-is ∙ below-zero x w.0 p ∙ sym (ap (λ (b : Bool). negative x && b) (lt-ltb 0 (ten_thousandths x) p) ∙ and-true (negative x))
  where
    positive : (n : ℕ) → (n ≡ 0 → ⊥) → 0 < n
    positive zero z = absurd (z refl)
    positive (suc n) z = omega arith
