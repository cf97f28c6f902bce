-- The key as the code works it out: the library rounds half away from zero, and what it answers is whole.
use Rattle.std.proofs.Common.{◌≡◌, ℕ, ◌+◌, ◌-◌, ◌*◌, ◌/◌, ◌^◌, ◌<◌, ◌≤◌, Bool, true, false, T, ℤ, pos, neg_ℤ, sym, refl, ap, ◌∙◌, le_trans}
use Rattle.std.proofs.Common.{le_of_eq, le_of_lt, le_of_suc-le-suc, lt_of_le_of_lt, mul-one, mul-le-mul_right, arith, lit<, mul-div_cancel}
use native.Mathlib.Nat.{min-eq_left}
use lib.Ieee.{Float, nan, inf, fin, binary64, up, down, le, lt, to_signed, round}
use lib.Ieee.Exact.{HasValue}
use lib.Ieee.Back.{round_whole}
use lib.Ieee.Fits.{down_pos}
use lib.Ieee.Positive.{num, den, den_pos}
use Rattle.std.specs.Float.{float_round, round_with}
use Rattle.laws.proofs.Fractions.{plus, less, Lt→lt}
use Rattle.laws.specs.Within.{Within}
use Rattle.laws.proofs.Between.{within_ge, plus-le}
use Rattle.keys.specs.Keys.{rounded}
use Rattle.keys.proofs.Rounding.{half_up_of, half_up-le, signed}

-- what is left of a double when its fraction is cut off
cut-is : (s : Bool) (m : ℕ) (e : ℤ) → m * up e / down e < 2 ^ 63 → to_signed 63 (fin s m e) ≡ signed s (m * up e / down e)
unfolding to_signed
cut-is true m e h = ap (λ (z : ℕ). neg_ℤ (pos z)) (min-eq_left (le_of_lt h))
cut-is false m e h = ap pos (min-eq_left (below_top (m * up e / down e) h))
  where
    below_top : (q : ℕ) → q < 2 ^ 63 → q ≤ 2 ^ 63 - 1
    below_top q h = le_of_suc-le-suc h

-- of a whole number, of either sign, that is the number itself
cut-whole : (x : Float) (s : Bool) (n B : ℕ) → HasValue x s n 1 → n ≤ B → B < 2 ^ 63 → (to_signed 63 x ≡ signed s n) × Within B x
cut-whole nan s n B v h l = elim v [ ]
cut-whole (inf _) s n B v h l = elim v [ ]
cut-whole (fin u m e) s n B v h l =
    let q : m * up e ≡ n * down e = sym (mul-one (m * up e)) ∙ v.1 in
    let k : m * up e / down e ≡ n = ap (λ (z : ℕ). z / down e) q ∙ mul-div_cancel n (down_pos e) in (
      cut-is u m e (lt_of_le_of_lt (le_trans (le_of_eq k) h) l) ∙ (λ i. signed (v.0 i) (k i)),
      (tt, le_trans (le_of_eq q) (mul-le-mul_right (down e) h)),
    )

pub round-within : (B : ℕ) (y : Float) → B ≤ 2 ^ 53 → Within B y → (to_signed 63 (float_round binary64 y) ≡ rounded y) × Within B (float_round binary64 y)
unfolding rounded round_with
round-within B nan l h = absurd h.0
round-within B (inf s) l h = absurd h.0
round-within B (fin false m e) l h =
    let n = half_up_of (m * up e) (down e) in
    let k : n ≤ B = half_up-le (m * up e) (down e) B (down_pos e) h.1 in
    cut-whole (round binary64 false n 1) false n B (round_whole binary64 false n (le_trans k l)) k (lt_of_le_of_lt l (lit< tt))
round-within B (fin true m e) l h =
    let n = half_up_of (m * up e) (down e) in
    let k : n ≤ B = half_up-le (m * up e) (down e) B (down_pos e) h.1 in
    cut-whole (round binary64 true n 1) true n B (round_whole binary64 true n (le_trans k l)) k (lt_of_le_of_lt l (lit< tt))

-- what `truncating_f64_to_i64` asks
pub cut-asks : (B : ℕ) (y : Float) → B < 2 ^ 63 → Within B y → T (le (fin true 1 (pos 63)) y) × T (lt y (fin false 1 (pos 63)))
cut-asks B y l h = (
  within_ge B y (fin true 1 (pos 63)) h tt refl (le_trans (le_of_eq (mul-one B)) (le_of_lt l)),
  Lt→lt y (fin false 1 (pos 63)) h.0 tt (go (plus y) (less y) (num y) (den y) (2 ^ 63) (plus-le y) (den_pos y) h.1 l),
)
  where
    go : (p n a d t : ℕ) → p ≤ a → 0 < d → a ≤ B * d → B < t → p * 1 + 0 * d < t * d + n * 1
    go p n a d t i D j l = omega (arith, mul-le-mul_right d l)
