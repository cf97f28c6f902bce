-- What `round_root` gives: for n = m * 4 ^ k, where the root of 4 m has the 54 digits s, it is (s + 1) / 2 * 2 ^ k units of the smallest value.
-- The last digit of s says on which side of the middle between two values the root lies. It never lies at the middle, since 4 m is even.
use mathlib.Core.Path.{◌≡◌, refl, sym, ap, ◌∙◌, subst}
use mathlib.Core.Logic.{inl, inr}
use mathlib.Core.Bool.{Bool, true, false, cond}
use Prim.Native.Nat.{ℕ, suc, ◌+◌, ◌-◌, ◌*◌, ◌/◌, ◌^◌, ◌≤◌, ◌<◌, compare, Ordering}
use native.Mathlib.Nat.{le_trans, le_of_eq, lt_of_lt_of_le, lt_of_le_of_lt, mul_comm, mul_assoc, mul-mul-mul_comm, mul-le-mul, mul-le-mul_right}
use native.Mathlib.Nat.{mul-lt-mul_of_pos_right, mul-pos, mul-div_cancel}
use native.Mathlib.Omega.{arith}
use lib.Dec.{T, ltb, lt→ltb}
use lib.Arith.{lt_of_le-ne}
use lib.Pow.{pow-add, pow_pos, pow-lt}
use lib.Ieee.{binary64, inf, nearest, odd, size, units, fits}
use lib.Ieee.Digits.{size-lt, size-le}
use lib.Ieee.Fits.{odd-fits}
use lib.Ieee.Exact.{HasValue, units_val}
use Rattle.laws.proofs.HalfUlp.{Cmp, cmp}
use Rattle.root.specs.Root.{IsRoot, whole_root, nearest_root, dropped, round_root}
use Rattle.root.proofs.Square.{pow_back, parity, odd-square, whole_root-is, half-root}

-- ---- `nearest` by an order
nearest-under : (q a b : ℕ) → a < b → nearest q (compare a b) ≡ q
nearest-under q a b h = go (compare a b) (cmp a b)
  where
    go : (o : Ordering) → Cmp o a b → nearest q o ≡ q
    go Ordering.lt k = refl
    go Ordering.eq k = absurd (omega arith)
    go Ordering.gt k = absurd (omega arith)

nearest-over : (q a b : ℕ) → b < a → nearest q (compare a b) ≡ suc q
nearest-over q a b h = go (compare a b) (cmp a b)
  where
    go : (o : Ordering) → Cmp o a b → nearest q o ≡ suc q
    go Ordering.lt k = absurd (omega arith)
    go Ordering.eq k = absurd (omega arith)
    go Ordering.gt k = refl

-- ---- the root of m * 4 ^ k
module _ (m s k : ℕ) (i : IsRoot (m * 4) s) (lo : 2 ^ 53 ≤ s) (hi : s < 2 ^ 54) where
  from : 2 ^ 104 ≤ m
  from = omega (arith, i.below, mul-le-mul lo lo)

  to : m < 2 ^ 106
  to = omega (arith, i.above, mul-le-mul hi hi)

  pp : 0 < 2 ^ k * 2 ^ k
  pp = mul-pos (pow_pos k) (pow_pos k)

  -- m has 105 or 106 digits, so the root has 53 + k
  dropped-is : dropped (m * (2 ^ k * 2 ^ k)) ≡ k
  unfolding dropped
  dropped-is = half (size (m * (2 ^ k * 2 ^ k))) k at_least at_most
    where
      scaled : (j : ℕ) → 2 ^ (j + (k + k)) ≡ 2 ^ j * (2 ^ k * 2 ^ k)
      scaled j = pow-add 2 j (k + k) ∙ ap (λ (x : ℕ). 2 ^ j * x) (pow-add 2 k k)

      at_least : 104 + (k + k) < size (m * (2 ^ k * 2 ^ k))
      at_least =
          pow_back (104 + (k + k)) (size (m * (2 ^ k * 2 ^ k)))
          (lt_of_le_of_lt (le_trans (le_of_eq (scaled 104)) (mul-le-mul_right (2 ^ k * 2 ^ k) from)) (size-lt (m * (2 ^ k * 2 ^ k))))

      at_most : size (m * (2 ^ k * 2 ^ k)) ≤ 106 + (k + k)
      at_most = size-le (m * (2 ^ k * 2 ^ k)) (106 + (k + k)) (lt_of_lt_of_le (mul-lt-mul_of_pos_right to pp) (le_of_eq (sym (scaled 106))))

      half : (z k : ℕ) → 104 + (k + k) < z → z ≤ 106 + (k + k) → (z + 1) / 2 - 53 ≡ k
      half z k a b = omega arith

  whole_is : whole_root 53 m ≡ s / 2
  whole_is = half-root m (whole_root 53 m) s (whole_root-is 53 m to) i

  -- which side of the middle the root lies on
  judged : nearest (s / 2) (compare (4 * (m * (2 ^ k * 2 ^ k))) ((2 * (s / 2) + 1) * 2 ^ k * ((2 * (s / 2) + 1) * 2 ^ k))) ≡ (s + 1) / 2
  judged = elim (parity s) [
    | inl e ↦
        nearest-under (s / 2) (4 * (m * (2 ^ k * 2 ^ k))) (h * h)
        (lt_of_le_of_lt (le_of_eq four)
        (lt_of_lt_of_le (mul-lt-mul_of_pos_right (subst (λ (x : ℕ). m * 4 < x * x) (past s e) i.above) pp) (le_of_eq square)))
        ∙ even-half s e
    | inr e ↦
        nearest-over (s / 2) (4 * (m * (2 ^ k * 2 ^ k))) (h * h)
        (lt_of_le_of_lt (le_of_eq (sym square))
        (lt_of_lt_of_le (mul-lt-mul_of_pos_right (subst (λ (x : ℕ). x * x < m * 4) (at s e) (strict e)) pp) (le_of_eq (sym four))))
        ∙ odd-half s e
  ]
    where
      h : ℕ
      h = (2 * (s / 2) + 1) * 2 ^ k

      square : (2 * (s / 2) + 1) * (2 * (s / 2) + 1) * (2 ^ k * 2 ^ k) ≡ h * h
      square = sym (mul-mul-mul_comm (2 * (s / 2) + 1) (2 ^ k) (2 * (s / 2) + 1) (2 ^ k))

      four : 4 * (m * (2 ^ k * 2 ^ k)) ≡ m * 4 * (2 ^ k * 2 ^ k)
      four = sym (mul_assoc 4 m (2 ^ k * 2 ^ k)) ∙ ap (λ (x : ℕ). x * (2 ^ k * 2 ^ k)) (mul_comm 4 m)

      past : (s : ℕ) → s ≡ s / 2 * 2 → suc s ≡ 2 * (s / 2) + 1
      past s e = omega arith

      at : (s : ℕ) → s ≡ suc (s / 2 * 2) → s ≡ 2 * (s / 2) + 1
      at s e = omega arith

      even-half : (s : ℕ) → s ≡ s / 2 * 2 → s / 2 ≡ (s + 1) / 2
      even-half s e = omega arith

      odd-half : (s : ℕ) → s ≡ suc (s / 2 * 2) → suc (s / 2) ≡ (s + 1) / 2
      odd-half s e = omega arith

      strict : s ≡ suc (s / 2 * 2) → s * s < m * 4
      strict e = lt_of_le-ne i.below (λ (g : s * s ≡ m * 4). odd-square s (m * 2) e (g ∙ sym (mul_assoc m 2 2)))

  nearest-is : nearest_root 53 k (m * (2 ^ k * 2 ^ k)) ≡ (s + 1) / 2
  unfolding nearest_root
  nearest-is = rw (mul-div_cancel m pp, whole_is) judged

  pub round_is : round_root (m * (2 ^ k * 2 ^ k)) ≡ units binary64 false ((s + 1) / 2) k
  unfolding round_root
  round_is = rw (dropped-is, nearest-is)

  -- the value, and that the format holds it
  small : k ≤ 2000 → (s + 1) / 2 * 2 ^ k < 2 ^ 2098
  small K =
      lt_of_le_of_lt (mul-le-mul_right (2 ^ k) (half s hi)) (lt_of_le_of_lt (le_of_eq (sym (pow-add 2 53 k))) (pow-lt (room k K)))
    where
      half : (s : ℕ) → s < 2 ^ 54 → (s + 1) / 2 ≤ 2 ^ 53
      half s h = omega arith

      room : (k : ℕ) → k ≤ 2000 → 53 + k < 2098
      room k h = omega arith

  pub round_value : k ≤ 2000 → HasValue (round_root (m * (2 ^ k * 2 ^ k))) false ((s + 1) / 2 * 2 ^ k) (2 ^ 1074)
  round_value K = rw round_is (units_val binary64 false ((s + 1) / 2) k (small K))

  pub round-fits : k ≤ 2000 → T (fits binary64 (round_root (m * (2 ^ k * 2 ^ k))))
  round-fits K = rw round_is (unfold units in go (ltb ((s + 1) / 2 * 2 ^ k) (2 ^ 2098)) (lt→ltb ((s + 1) / 2 * 2 ^ k) (2 ^ 2098) (small K)))
    where
      go : (b : Bool) → T b → T (fits binary64 (cond b (odd 54 false ((s + 1) / 2) k 1074) (inf false)))
      go true t = odd-fits binary64 54 false ((s + 1) / 2) k (room s hi) (kept s hi) (small K)
        where
          room : (s : ℕ) → s < 2 ^ 54 → (s + 1) / 2 < 2 ^ 54
          room s h = omega arith

          kept : (s : ℕ) → s < 2 ^ 54 → (s + 1) / 2 ≤ 2 ^ 53
          kept s h = omega arith
      go false t = absurd t
