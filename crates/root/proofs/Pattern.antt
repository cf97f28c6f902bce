-- Bit patterns of binary64: what one stands for that is neither negative nor an infinity nor a NaN, and which pattern a normal value has.
use mathlib.Core.Path.{◌≡◌, sym, ap, ◌∙◌, subst}
use mathlib.Core.Bool.{Bool, true, false, cond, true≢false}
use Prim.Native.Nat.{ℕ, suc, ◌+◌, ◌-◌, ◌*◌, ◌/◌, ◌%◌, ◌^◌, ◌≤◌, ◌<◌}
use native.Mathlib.Nat.{add_comm, le_trans, le_of_eq, lt_of_lt_of_le, lt_of_le_of_lt, zero-add, mul-div_cancel, mul-le-mul_right, mul-lt-mul_of_pos_right}
use native.Mathlib.Nat.{mod-eq_of_lt}
use native.Mathlib.Omega.{arith}
use lib.Dec.{T, leb, eqb, eqb→eq, not_T}
use lib.Arith.{lt→nleb}
use lib.Pow.{pow-add, pow_pos}
use lib.Ieee.{Float, nan, inf, fin, binary64, up, down, size, odd, fits, of_fields, of_bits, to_bits}
use lib.Ieee.Bits.{of_bits-to_bits, is_false, cond_no}
use lib.Ieee.Digits.{size-lt, size-le}
use lib.Ieee.Fits.{down_pos}
use lib.Ieee.Exact.{HasValue, odd_sign}
use Rattle.root.proofs.Square.{pow_back}

-- ---- the pattern of q * 2 ^ k units, q having 53 digits
size_is : (q k : ℕ) → 2 ^ 52 ≤ q → q < 2 ^ 53 → size (q * 2 ^ k) - 53 ≡ k
size_is q k lo hi = digits (size (q * 2 ^ k)) k at_least at_most
  where
    at_least : 52 + k < size (q * 2 ^ k)
    at_least = pow_back (52 + k) (size (q * 2 ^ k)) (lt_of_le_of_lt (le_trans (le_of_eq (pow-add 2 52 k)) (mul-le-mul_right (2 ^ k) lo)) (size-lt (q * 2 ^ k)))

    at_most : size (q * 2 ^ k) ≤ 53 + k
    at_most = size-le (q * 2 ^ k) (53 + k) (lt_of_lt_of_le (mul-lt-mul_of_pos_right hi (pow_pos k)) (le_of_eq (sym (pow-add 2 53 k))))

    digits : (z k : ℕ) → 52 + k < z → z ≤ 53 + k → z - 53 ≡ k
    digits z k a b = omega arith

written : (v : Float) (q k : ℕ) → HasValue v false (q * 2 ^ k) (2 ^ 1074) → 2 ^ 52 ≤ q → q < 2 ^ 53 → to_bits binary64 v ≡ k * 2 ^ 52 + q
unfolding to_bits
written nan q k v lo hi = absurd v
written (inf t) q k v lo hi = absurd v
written (fin true m e) q k v lo hi = absurd (true≢false v.0)
written (fin false m e) q k v lo hi =
    let units : m * up e * 2 ^ 1074 / down e ≡ q * 2 ^ k = ap (λ (x : ℕ). x / down e) v.1 ∙ mul-div_cancel (q * 2 ^ k) (down_pos e) in
    ap (λ (x : ℕ). 0 + (size x - 53) * 2 ^ 52 + x / 2 ^ (size x - 53)) units
    ∙ ap (λ (x : ℕ). 0 + x * 2 ^ 52 + q * 2 ^ k / 2 ^ x) (size_is q k lo hi)
    ∙ ap (λ (x : ℕ). 0 + k * 2 ^ 52 + x) (mul-div_cancel q (pow_pos k))
    ∙ ap (λ (x : ℕ). x + q) (zero-add (k * 2 ^ 52))

-- so the pattern k * 2 ^ 52 + q stands for that value
pub read_back : (v : Float) (q k : ℕ) → T (fits binary64 v) → HasValue v false (q * 2 ^ k) (2 ^ 1074) → 2 ^ 52 ≤ q → q < 2 ^ 53
    → of_bits binary64 (k * 2 ^ 52 + q) ≡ v
read_back v q k f h lo hi = ap (of_bits binary64) (sym (written v q k h lo hi)) ∙ of_bits-to_bits binary64 v f

-- ---- what a pattern's fields stand for, in units
pub fields_low : (s : Bool) (t : ℕ) → HasValue (of_fields binary64 s 0 t) s (t * 2 ^ 0) (2 ^ 1074)
unfolding of_fields
fields_low s t = odd_sign 53 s t 0 1074

pub fields_high : (s : Bool) (x t : ℕ) → suc x < 2047 → HasValue (of_fields binary64 s (suc x) t) s ((2 ^ 52 + t) * 2 ^ x) (2 ^ 1074)
unfolding of_fields
fields_high s x t h =
    subst (λ (v : Float). HasValue v s ((2 ^ 52 + t) * 2 ^ x) (2 ^ 1074))
    (sym (cond_no (eqb (suc x) 2047) (cond (eqb t 0) (inf s) nan) (odd 53 s (2 ^ 52 + t) x 1074)
    (not_T (eqb (suc x) 2047) (λ u. no x h (eqb→eq (suc x) 2047 u)))))
    (odd_sign 53 s (2 ^ 52 + t) x 1074)
  where
    no : (x : ℕ) → suc x < 2047 → suc x ≡ 2047 → ⊥
    no x h e = omega arith

-- the sign is clear below 2 ^ 63
pub plain : (b : ℕ) → b < 2 ^ 63 → of_bits binary64 b ≡ of_fields binary64 false (b / 2 ^ 52) (b % 2 ^ 52)
unfolding of_bits
plain b h =
    ap (λ (s : Bool). of_fields binary64 s (b % 2 ^ 63 / 2 ^ 52) (b % 2 ^ 52)) (is_false (leb (2 ^ 63) b) (lt→nleb (2 ^ 63) b h))
    ∙ ap (λ (x : ℕ). of_fields binary64 false (x / 2 ^ 52) (b % 2 ^ 52)) (mod-eq_of_lt h)

-- b is the pattern of a positive finite value, and that is m * 2 ^ k units
pub record Decoded (b m k : ℕ) : Type 0 where
  pub above : 0 < m
  pub small : m < 2 ^ 53
  pub most : k ≤ 2045
  pub value : HasValue (of_bits binary64 b) false (m * 2 ^ k) (2 ^ 1074)

pub decoded_low : (b : ℕ) → 0 < b → b < 0x7ff0_0000_0000_0000 → b / 2 ^ 52 ≤ 0 → Decoded b (b % 2 ^ 52) 0
decoded_low b p h l = record {
  above = omega arith;
  small = omega arith;
  most = omega arith;
  value =
      let e : b / 2 ^ 52 ≡ 0 = omega arith in
      rw (plain b (omega arith), e) (fields_low false (b % 2 ^ 52));
}

pub decoded_high : (b : ℕ) → b < 0x7ff0_0000_0000_0000 → 0 < b / 2 ^ 52 → Decoded b (b % 2 ^ 52 + 2 ^ 52) (b / 2 ^ 52 - 1)
decoded_high b h l = record {
  above = omega arith;
  small = omega arith;
  most = omega arith;
  value =
      let e : b / 2 ^ 52 ≡ suc (b / 2 ^ 52 - 1) = omega arith in
      subst (λ (v : Float). HasValue v false ((b % 2 ^ 52 + 2 ^ 52) * 2 ^ (b / 2 ^ 52 - 1)) (2 ^ 1074))
      (sym (plain b (omega arith) ∙ ap (λ (x : ℕ). of_fields binary64 false x (b % 2 ^ 52)) e))
      (rw (add_comm (b % 2 ^ 52) (2 ^ 52)) (fields_high false (b / 2 ^ 52 - 1) (b % 2 ^ 52) (omega arith)));
}
