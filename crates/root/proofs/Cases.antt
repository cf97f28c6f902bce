-- The cases of `root` and `root_bits` beside the finite values above zero: what the tests x > 0.0 and x == 0.0 say of x, and what the
-- patterns from the infinity's up stand for.
use mathlib.Core.Path.{◌≡◌, refl, sym, ap, ◌∙◌, subst}
use mathlib.Core.Logic.{◌⊎◌, inl, inr}
use mathlib.Core.Bool.{Bool, true, false, not, ◌&&◌, ◌||◌, cond, beq, true≢false}
use Prim.Native.Nat.{ℕ, zero, suc, ◌+◌, ◌*◌, ◌/◌, ◌%◌, ◌^◌, ◌≤◌, ◌<◌}
use native.Mathlib.Nat.{eq-zero-or-pos, lt_irrefl, zero-lt-suc, zero-mul, mul-pos, mod-eq_of_lt}
use native.Mathlib.Omega.{arith}
use lib.IntN.{pos}
use lib.Dec.{T, leb, ltb, eqb, eqb→eq, lt→ltb, nleb→lt, leb→le, not_T}
use lib.Arith.{le→nltb}
use lib.Pow.{pow_pos}
use lib.Ieee.{Float, nan, inf, fin, binary64, up, down, lt, eq, div, odd, nan_bits, fits, of_fields, of_bits, to_bits}
use lib.Ieee.Bits.{of_bits-to_bits, to_bits-of_bits, to_bits-lt, nan_bits_above, nan_bits_is, is_true, cond_no}
use lib.Ieee.Fits.{eq→eqb, up_pos, down_pos}
use lib.Ieee.Exact.{HasValue, odd_sign}
use Rattle.laws.proofs.Constants.{+0, plus-zero-is}
use Rattle.root.specs.Root.{root_of, root_bits}
use Rattle.root.proofs.Pattern.{plain, fields_low}

pub nan_is : div binary64 +0 +0 ≡ nan
unfolding of_bits div
nan_is = refl

-- a test at +0, at its value
at_zero : (f : Float → Float → Bool) (b : Bool) (x : Float) → f +0 x ≡ b → f (fin false 0 (pos 0)) x ≡ b
at_zero f b x h = subst (λ (z : Float). f z x ≡ b) plus-zero-is h

at-zero-right : (f : Float → Float → Bool) (b : Bool) (x : Float) → f x +0 ≡ b → f x (fin false 0 (pos 0)) ≡ b
at-zero-right f b x h = subst (λ (z : Float). f x z ≡ b) plus-zero-is h

no : {X : Type 0} → false ≡ true → X
no h = absurd (true≢false (sym h))

-- ---- x > 0.0
pub pattern_pos : (x : Float) → T (fits binary64 x) → lt +0 x ≡ true → 0 < to_bits binary64 x
unfolding lt of_bits
pattern_pos x f h = elim (eq-zero-or-pos (to_bits binary64 x)) [
  | inl e ↦ no (subst (λ (z : Float). lt +0 z ≡ true) (sym (of_bits-to_bits binary64 x f) ∙ ap (of_bits binary64) e) h)
  | inr p ↦ p
]

-- ---- a pattern below the infinity's is no NaN's
pub no_nan_bits : (r : ℕ) → r < 0x7ff0_0000_0000_0000 → T (not (nan_bits binary64 r))
no_nan_bits r h =
    let small : r < 2 ^ 63 = omega arith in
    subst (λ (b : Bool). T (not b)) (sym (nan_bits_above binary64 r ∙ ap (ltb 0x7ff0_0000_0000_0000) (mod-eq_of_lt small)))
    (le→nltb 0x7ff0_0000_0000_0000 r (omega arith))

-- ---- a pattern from the infinity's up, with the sign clear: the infinity's, or a NaN's
fields_top : (x t : ℕ) → x ≡ 2047 → of_fields binary64 false x t ≡ cond (eqb t 0) (inf false) nan
unfolding of_fields
fields_top zero t e = absurd (none zero refl e)
  where
    none : (n : ℕ) → n ≡ 0 → n ≡ 2047 → ⊥
    none n d e = omega arith
fields_top (suc x) t e = ap (λ (b : Bool). cond b (cond (eqb t 0) (inf false) nan) (odd 53 false (2 ^ 52 + t) x 1074)) (is_true (eqb (suc x) 2047) (eq→eqb e))

top_fields : (b : ℕ) → 0x7ff0_0000_0000_0000 ≤ b → b < 2 ^ 63 → of_bits binary64 b ≡ cond (eqb (b % 2 ^ 52) 0) (inf false) nan
top_fields b l h = plain b h ∙ fields_top (b / 2 ^ 52) (b % 2 ^ 52) (omega arith)

nan_pattern : (b : ℕ) → 0x7ff0_0000_0000_0000 < b → b < 2 ^ 63 → of_bits binary64 b ≡ nan
nan_pattern b l h =
    top_fields b (omega arith) h ∙ cond_no (eqb (b % 2 ^ 52) 0) (inf false) nan (not_T (eqb (b % 2 ^ 52) 0) (λ u. none b l h (eqb→eq (b % 2 ^ 52) 0 u)))
  where
    none : (b : ℕ) → 0x7ff0_0000_0000_0000 < b → b < 2 ^ 63 → b % 2 ^ 52 ≡ 0 → ⊥
    none b l h e = omega arith

-- ---- with the sign set: not above zero, and with no root unless it is -0
negative : (x t : ℕ) → lt (fin false 0 (pos 0)) (of_fields binary64 true x t) ≡ true → ⊥
unfolding lt of_fields odd
negative zero zero h = true≢false (sym h)
negative zero (suc t) h = true≢false (sym h)
negative (suc x) t h = go (eqb (suc x) 2047) (eqb t 0) (2 ^ 52 + t) h
  where
    go : (a b : Bool) (q : ℕ) → lt (fin false 0 (pos 0)) (cond a (cond b (inf true) nan) (odd 53 true q x 1074)) ≡ true → ⊥
    go true true q h = true≢false (sym h)
    go true false q h = true≢false (sym h)
    go false b zero h = true≢false (sym h)
    go false b (suc q) h = true≢false (sym h)

below-zero : (v : Float) (a : ℕ) → HasValue v true a (2 ^ 1074) → 0 < a → root_of v ≡ nan
unfolding root_of
below-zero nan a v p = absurd v
below-zero (inf t) a v p = absurd v
below-zero (fin false m e) a v p = absurd (true≢false (sym v.0))
below-zero (fin true zero e) a v p =
    absurd (lt_irrefl 0 (subst (λ (x : ℕ). 0 < x) (sym v.1 ∙ ap (λ (x : ℕ). x * 2 ^ 1074) (zero-mul (up e))) (mul-pos p (down_pos e))))
below-zero (fin true (suc m) e) a v p = refl

no_root : (x t : ℕ) → 0 < x + t → root_of (of_fields binary64 true x t) ≡ nan
unfolding of_fields root_of
no_root zero t p = below-zero (of_fields binary64 true zero t) (t * 2 ^ 0) (fields_low true t) (omega arith)
no_root (suc x) t p = go (eqb (suc x) 2047) (eqb t 0)
  where
    go : (a b : Bool) → root_of (cond a (cond b (inf true) nan) (odd 53 true (2 ^ 52 + t) x 1074)) ≡ nan
    go true true = refl
    go true false = refl
    go false b = below-zero (odd 53 true (2 ^ 52 + t) x 1074) ((2 ^ 52 + t) * 2 ^ x) (odd_sign 53 true (2 ^ 52 + t) x 1074) (mul-pos (omega arith) (pow_pos x))

signed : (b : ℕ) → 2 ^ 63 ≤ b → of_bits binary64 b ≡ of_fields binary64 true (b % 2 ^ 63 / 2 ^ 52) (b % 2 ^ 52)
unfolding of_bits
signed b h = ap (λ (s : Bool). of_fields binary64 s (b % 2 ^ 63 / 2 ^ 52) (b % 2 ^ 52)) (is_true (leb (2 ^ 63) b) (lib.Dec.le→leb (2 ^ 63) b h))

-- ---- so: of these patterns only the infinity's is above zero
pub top-is : (b : ℕ) → b < 2 ^ 64 → 0x7ff0_0000_0000_0000 ≤ b → lt +0 (of_bits binary64 b) ≡ true → of_bits binary64 b ≡ inf false
unfolding lt
top-is b h l p = go (leb (2 ^ 63) b) (leb→le (2 ^ 63) b) (nleb→lt (2 ^ 63) b)
  where
    at_top : (d : Bool) → lt +0 (cond d (inf false) nan) ≡ true → cond d (inf false) nan ≡ inf false
    at_top true h = refl
    at_top false h = no (at_zero lt true nan h)

    go : (s : Bool) → (T s → 2 ^ 63 ≤ b) → (T (not s) → b < 2 ^ 63) → of_bits binary64 b ≡ inf false
    go true e f = absurd (negative (b % 2 ^ 63 / 2 ^ 52) (b % 2 ^ 52) (at_zero lt true _ (subst (λ (z : Float). lt +0 z ≡ true) (signed b (e tt)) p)))
    go false e f = top_fields b l (f tt) ∙ at_top (eqb (b % 2 ^ 52) 0) (subst (λ (z : Float). lt +0 z ≡ true) (top_fields b l (f tt)) p)

pub infinite : (x : Float) → T (fits binary64 x) → lt +0 x ≡ true → 0x7ff0_0000_0000_0000 ≤ to_bits binary64 x → x ≡ root_of x
unfolding root_of
infinite x f h l =
    let back = of_bits-to_bits binary64 x f in
    let is : x ≡ inf false = sym back ∙ top-is (to_bits binary64 x) (to_bits-lt binary64 x f) l (subst (λ (z : Float). lt +0 z ≡ true) (sym back) h) in
    is ∙ sym (ap root_of is)

-- ---- x == 0.0
first-true : (a b : Bool) → (a && b) ≡ true → T a
first-true true b h = tt
first-true false b h = no h

pub zeros : (x : Float) → eq x +0 ≡ true → x ≡ root_of x
unfolding root_of eq
zeros nan h = refl
zeros (inf s) h = no (at-zero-right eq true (inf s) h)
zeros (fin s zero e) h = refl
zeros (fin s (suc m) e) h =
    let n = suc m * up e * 1 in
    let p : 0 < n = mul-pos (mul-pos (zero-lt-suc m) (up_pos e)) (zero-lt-suc 0) in
    let z : n ≡ 0 = eqb→eq n (0 * 1 * down e) (first-true (eqb n (0 * 1 * down e)) (beq s false || eqb n 0) (at-zero-right eq true (fin s (suc m) e) h))
    ∙ zero-mul (down e) in
    absurd (lt_irrefl 0 (subst (λ (x : ℕ). 0 < x) z p))

-- ---- neither: a NaN, or below zero
level_zero : (s : Bool) (a b : ℕ) → a ≡ 0 → b ≡ 0 → (eqb a b && (beq s false || eqb a 0)) ≡ true
level_zero s a b p q = rw (p, q) (or s)
  where
    or : (s : Bool) → (beq s false || true) ≡ true
    or true = refl
    or false = refl

pub others : (x : Float) → lt +0 x ≡ false → eq x +0 ≡ false → nan ≡ root_of x
unfolding root_of lt eq
others nan h k = refl
others (inf true) h k = refl
others (inf false) h k = absurd (true≢false (at_zero lt false (inf false) h))
others (fin s zero e) h k =
    absurd (true≢false (sym (level_zero s (0 * up e * 1) (0 * 1 * down e) (ap (λ (x : ℕ). x * 1) (zero-mul (up e))) (zero-mul (down e)))
    ∙ at-zero-right eq false (fin s zero e) k))
others (fin true (suc m) e) h k = refl
others (fin false (suc m) e) h k =
    let n = suc m * up e * 1 in
    let p : 0 * 1 * down e < n = subst (λ (x : ℕ). x < n) (sym (zero-mul (down e))) (mul-pos (mul-pos (zero-lt-suc m) (up_pos e)) (zero-lt-suc 0)) in
    absurd (true≢false (sym (is_true (ltb (0 * 1 * down e) n) (lt→ltb (0 * 1 * down e) n p)) ∙ at_zero lt false (fin false (suc m) e) h))

-- ---- `root_bits`
at-plus : 0 ≡ root_bits 0
unfolding root_bits root_of of_bits to_bits
at-plus = refl

at-minus : 2 ^ 63 ≡ root_bits (2 ^ 63)
unfolding root_bits root_of of_bits to_bits
at-minus = refl

pub zero_bits : (b : ℕ) → b < 2 ^ 64 → b % 2 ^ 63 ≡ 0 → b ≡ root_bits b
zero_bits b h e = elim (either b h e) [
  | inl z ↦ z ∙ at-plus ∙ ap root_bits (sym z)
  | inr z ↦ z ∙ at-minus ∙ ap root_bits (sym z)
]
  where
    either : (b : ℕ) → b < 2 ^ 64 → b % 2 ^ 63 ≡ 0 → (b ≡ 0) ⊎ (b ≡ 2 ^ 63)
    either b h e = go (b / 2 ^ 63) (omega arith) (omega arith)
      where
        go : (q : ℕ) → q < 2 → b ≡ q * 2 ^ 63 → (b ≡ 0) ⊎ (b ≡ 2 ^ 63)
        go zero l z = inl (omega arith)
        go (suc zero) l z = inr (omega arith)
        go (suc (suc q)) l z = absurd (omega arith)

pub positive_bits : (b r : ℕ) → of_bits binary64 r ≡ root_of (of_bits binary64 b) → r < 0x7ff0_0000_0000_0000 → r ≡ root_bits b
unfolding root_bits
positive_bits b r e h =
    sym (ap (to_bits binary64) (sym e) ∙ to_bits-of_bits binary64 r (omega arith) (subst (λ (c : Bool). T (not c)) (nan_bits_is binary64 r) (no_nan_bits r h)))

pub infinite_bits : (b : ℕ) → b ≡ 0x7ff0_0000_0000_0000 → b ≡ root_bits b
unfolding root_bits root_of of_bits to_bits
infinite_bits b e = e ∙ ap root_bits (sym e)

-- 01: "NaN or below zero gives bits 7FF8000000000000": every pattern above +infinity's, -0 apart
pub nan_bits_lem : (b : ℕ) → 0x7ff0_0000_0000_0000 < b → 0 < b % 2 ^ 63 → 0x7ff8_0000_0000_0000 ≡ root_bits b
unfolding root_bits root_of to_bits
nan_bits_lem b l p = sym (ap (to_bits binary64) (go (leb (2 ^ 63) b) (leb→le (2 ^ 63) b) (nleb→lt (2 ^ 63) b)))
  where
    go : (s : Bool) → (T s → 2 ^ 63 ≤ b) → (T (not s) → b < 2 ^ 63) → root_of (of_bits binary64 b) ≡ nan
    go true e f = ap root_of (signed b (e tt)) ∙ no_root (b % 2 ^ 63 / 2 ^ 52) (b % 2 ^ 52) (omega arith)
    go false e f = ap root_of (nan_pattern b l (f tt))
