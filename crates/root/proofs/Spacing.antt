-- Distances between the values of binary64 around a root, in units of the smallest value. Nothing here is about fractions.
use mathlib.Core.Path.{◌≡◌, refl, sym, ap, ◌∙◌, subst}
use mathlib.Core.Logic.{inl, inr}
use mathlib.Core.Bool.{true, false}
use Prim.Native.Nat.{ℕ, zero, suc, ◌+◌, ◌-◌, ◌*◌, ◌/◌, ◌%◌, ◌^◌, ◌≤◌, ◌<◌}
use native.Mathlib.Nat.{le_trans, le_of_eq, le_of_lt, lt_of_lt_of_le, lt_of_le_of_lt, lt_of_not-le, zero-lt-suc, zero-mul, mul_assoc, mul_right_comm}
use native.Mathlib.Nat.{mul-mul-mul_comm, suc-mul, mul-le-mul, mul-le-mul_right, mul-lt-mul_of_pos_right, lt_of_mul-lt-mul_right, mul-pos}
use native.Mathlib.Decide.{dec_le}
use native.Mathlib.Omega.{arith}
use lib.IntN.{ℤ}
use lib.Arith.{lt_of_le-ne}
use lib.Dec.{T, ltb, lt→ltb, lit<}
use lib.Pow.{pow-add, pow_pos}
use lib.Ieee.{Float, inf, fin, binary64, up, down, fits, lt, of_bits, to_bits}
use lib.Ieee.Bits.{of_bits-to_bits, to_bits-lt, is_true}
use lib.Ieee.Fits.{up_pos}
use lib.Ieee.Exact.{HasValue}
use Rattle.root.specs.Root.{IsRoot}
use Rattle.root.proofs.Square.{parity, odd-square, square-lt, pow_back}
use Rattle.root.proofs.Pattern.{Decoded, decoded_low, decoded_high}
use Rattle.laws.proofs.Constants.{+0}
use Rattle.root.proofs.Cases.{pattern_pos, top-is}

-- ---- every finite value above zero is m * 2 ^ k units, m having at most 53 digits
decoded : (b : ℕ) → 0 < b → b < 0x7ff0_0000_0000_0000 → (m : ℕ) × (k : ℕ) × Decoded b m k
decoded b p h = either (dec_le (b / 2 ^ 52) 0)
  where
    either : Dec (b / 2 ^ 52 ≤ 0) → (m : ℕ) × (k : ℕ) × Decoded b m k
    either (yes l) = (b % 2 ^ 52, 0, decoded_low b p h l)
    either (no f) = (b % 2 ^ 52 + 2 ^ 52, b / 2 ^ 52 - 1, decoded_high b h (lt_of_not-le f))

above_zero : (m : ℕ) (e : ℤ) → lt +0 (fin false (suc m) e) ≡ true
unfolding lt of_bits
above_zero m e =
    let p : 0 * 1 * down e < suc m * up e * 1 = rw (zero-mul (down e)) (mul-pos (mul-pos (zero-lt-suc m) (up_pos e)) (zero-lt-suc 0)) in
    is_true (ltb (0 * 1 * down e) (suc m * up e * 1)) (lt→ltb (0 * 1 * down e) (suc m * up e * 1) p)

pub pattern : (m : ℕ) (e : ℤ) → T (fits binary64 (fin false (suc m) e)) → (a : ℕ) × (k : ℕ) × Decoded (to_bits binary64 (fin false (suc m) e)) a k
pattern m e f =
    let y = fin false (suc m) e in
    let b = to_bits binary64 y in
    let back = of_bits-to_bits binary64 y f in
    decoded b (pattern_pos y f (above_zero m e))
    (lt_of_not-le (λ (g : 0x7ff0_0000_0000_0000 ≤ b).
    no_inf (sym back ∙ top-is b (to_bits-lt binary64 y f) g (subst (λ (z : Float). lt +0 z ≡ true) (sym back) (above_zero m e)))))
  where
    no_inf : fin false (suc m) e ≡ inf false → ⊥
    no_inf h = let z : ◌≡◌ {A = ℕ} 0 1 = cc in omega arith

-- with zero among them
pub record Units (y : Float) : Type 0 where
  pub m : ℕ
  pub j : ℕ
  pub short : m < 2 ^ 53
  pub value : HasValue y false (m * 2 ^ j) (2 ^ 1074)

pub units : (n : ℕ) (d : ℤ) → T (fits binary64 (fin false n d)) → Units (fin false n d)
units zero d f = record {
  m = 0;
  j = 0;
  short = lit< tt;
  value = (refl, ap (λ (x : ℕ). x * 2 ^ 1074) (zero-mul (up d)) ∙ sym (zero-mul (down d)));
}
units (suc n) d f =
    let y = fin false (suc n) d in
    let c = pattern n d f in record {
      m = c.0;
      j = c.1;
      short = c.2.small;
      value = subst (λ (z : Float). HasValue z false (c.0 * 2 ^ c.1) (2 ^ 1074)) (of_bits-to_bits binary64 y f) c.2.value;
    }

-- ---- a value of 2 ^ 52 * 2 ^ e units or more is a multiple of 2 ^ e units
multiple : (m j e : ℕ) → m < 2 ^ 53 → 2 ^ 52 * 2 ^ e ≤ m * 2 ^ j → (c : ℕ) × (m * 2 ^ j ≡ c * 2 ^ e)
multiple m j e s h =
    let a : 2 ^ (52 + e) < 2 ^ (53 + j) =
    lt_of_le_of_lt (le_trans (le_of_eq (pow-add 2 52 e)) h) (lt_of_lt_of_le (mul-lt-mul_of_pos_right s (pow_pos j)) (le_of_eq (sym (pow-add 2 53 j)))) in
    let b : e ≤ j = under (pow_back (52 + e) (53 + j) a) in
    (m * 2 ^ (j - e), ap (λ (x : ℕ). m * x) (ap (λ (x : ℕ). 2 ^ x) (sym (join b)) ∙ pow-add 2 (j - e) e) ∙ sym (mul_assoc m (2 ^ (j - e)) (2 ^ e)))
  where
    under : 52 + e < 53 + j → e ≤ j
    under h = omega arith

    join : e ≤ j → j - e + e ≡ j
    join h = omega arith

-- ---- n is even, s is the whole part of its root, of 54 digits, and (s + 1) / 2 * 2 ^ e units are compared with another value, m * 2 ^ j.
-- The sum of the two, twice their middle, is told from the root of n, which is twice that of x.
module _ (n h s e m j : ℕ) (even : n ≡ h * 2) (i : IsRoot n s) (from : 2 ^ 53 ≤ s) (short : m < 2 ^ 53) where
  twice-even : s ≡ s / 2 * 2 → s * 2 ^ e ≡ (s + 1) / 2 * 2 ^ e * 2
  twice-even o = ap (λ (x : ℕ). x * 2 ^ e) (halves s o) ∙ mul_right_comm ((s + 1) / 2) 2 (2 ^ e)
    where
      halves : (a : ℕ) → a ≡ a / 2 * 2 → a ≡ (a + 1) / 2 * 2
      halves a z = omega arith

  twice-odd : s ≡ suc (s / 2 * 2) → suc s * 2 ^ e ≡ (s + 1) / 2 * 2 ^ e * 2
  twice-odd o = ap (λ (x : ℕ). x * 2 ^ e) (halves s o) ∙ mul_right_comm ((s + 1) / 2) 2 (2 ^ e)
    where
      halves : (a : ℕ) → a ≡ suc (a / 2 * 2) → suc a ≡ (a + 1) / 2 * 2
      halves a z = omega arith

  -- the next value below is 2 ^ e units away where s is odd, and so is the next above
  gap_below : m * 2 ^ j < (s + 1) / 2 * 2 ^ e → s ≡ suc (s / 2 * 2) → m * 2 ^ j + 2 ^ e ≤ (s + 1) / 2 * 2 ^ e
  gap_below l o = either (dec_le (2 ^ 52 * 2 ^ e) (m * 2 ^ j))
    where
      either : Dec (2 ^ 52 * 2 ^ e ≤ m * 2 ^ j) → m * 2 ^ j + 2 ^ e ≤ (s + 1) / 2 * 2 ^ e
      either (yes g) =
          let c = multiple m j e short g in
          let u : c.0 < (s + 1) / 2 = lt_of_mul-lt-mul_right (2 ^ e) (subst (λ (x : ℕ). x < (s + 1) / 2 * 2 ^ e) c.1 l) in
          omega (arith, c.1, suc-mul c.0 (2 ^ e), mul-le-mul_right (2 ^ e) u)
      either (no f) =
          let u : suc (2 ^ 52) ≤ (s + 1) / 2 = omega arith in
          omega (arith, lt_of_not-le f, mul-le-mul_right (2 ^ e) u, suc-mul (2 ^ 52) (2 ^ e))

  gap-above : (s + 1) / 2 * 2 ^ e < m * 2 ^ j → (s + 1) / 2 * 2 ^ e + 2 ^ e ≤ m * 2 ^ j
  gap-above l =
      let q : 2 ^ 52 ≤ (s + 1) / 2 = omega arith in
      let c = multiple m j e short (le_trans (mul-le-mul_right (2 ^ e) q) (le_of_lt l)) in
      let u : (s + 1) / 2 < c.0 = lt_of_mul-lt-mul_right (2 ^ e) (subst (λ (x : ℕ). (s + 1) / 2 * 2 ^ e < x) c.1 l) in
      omega (arith, c.1, suc-mul ((s + 1) / 2) (2 ^ e), mul-le-mul_right (2 ^ e) u)

  pp : 0 < 2 ^ e * 2 ^ e
  pp = mul-pos (pow_pos e) (pow_pos e)

  pub sum_below : m * 2 ^ j < (s + 1) / 2 * 2 ^ e → (m * 2 ^ j + (s + 1) / 2 * 2 ^ e) * (m * 2 ^ j + (s + 1) / 2 * 2 ^ e) < n * (2 ^ e * 2 ^ e)
  sum_below l = elim (parity s) [
    | inl o ↦
        lt_of_lt_of_le (square-lt (m * 2 ^ j + (s + 1) / 2 * 2 ^ e) (s * 2 ^ e) (omega (arith, twice-even o)))
        (le_trans (le_of_eq (mul-mul-mul_comm s (2 ^ e) s (2 ^ e))) (mul-le-mul_right (2 ^ e * 2 ^ e) i.below))
    | inr o ↦
        let u : m * 2 ^ j + (s + 1) / 2 * 2 ^ e ≤ s * 2 ^ e = omega (arith, twice-odd o, suc-mul s (2 ^ e), gap_below l o) in
        let w : s * s < n = lt_of_le-ne i.below (λ (g : s * s ≡ n). odd-square s h o (g ∙ even)) in
        lt_of_le_of_lt (mul-le-mul u u) (lt_of_le_of_lt (le_of_eq (mul-mul-mul_comm s (2 ^ e) s (2 ^ e))) (mul-lt-mul_of_pos_right w pp))
  ]

  pub sum-above : (s + 1) / 2 * 2 ^ e < m * 2 ^ j → n * (2 ^ e * 2 ^ e) < (m * 2 ^ j + (s + 1) / 2 * 2 ^ e) * (m * 2 ^ j + (s + 1) / 2 * 2 ^ e)
  sum-above l =
      lt_of_lt_of_le (mul-lt-mul_of_pos_right i.above pp)
      (le_trans (le_of_eq (sym (mul-mul-mul_comm (suc s) (2 ^ e) (suc s) (2 ^ e)))) (mul-le-mul up_to up_to))
    where
      up_to : suc s * 2 ^ e ≤ m * 2 ^ j + (s + 1) / 2 * 2 ^ e
      up_to = elim (parity s) [
        | inl o ↦ omega (arith, twice-even o, suc-mul s (2 ^ e), gap-above l)
        | inr o ↦ omega (arith, twice-odd o)
      ]
