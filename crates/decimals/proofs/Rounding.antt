-- Rounding n / d to the nearest whole number, ties to even: the result is nearest, nothing else is, and it depends on the
-- value of the fraction alone.
use mathlib.Core.Path.{◌≡◌, refl, sym, ap, ◌∙◌}
use Prim.Native.Nat.{ℕ, suc, ◌+◌, ◌-◌, ◌*◌, ◌/◌, ◌%◌, ◌≤◌, ◌<◌, compare, Ordering}
use native.Mathlib.Nat.{suc-mul, add-mul, mul_comm, mul_assoc, mul_right_comm, mul-le-mul_right, mod-lt, div-add-mod', le_of_mul-le-mul_right}
use native.Mathlib.Nat.{eq_of_mul-eq-mul_right}
use native.Mathlib.Omega.{arith}
use native.Mathlib.Decide.{dec_le}
use lib.Ieee.{nearest}
use Rattle.laws.proofs.HalfUlp.{Cmp, cmp}
use Rattle.decimals.specs.Rounded.{half_even}
use Rattle.decimals.specs.Nearest.{NearestEven}

-- ---- `nearest` by an order, the three ways of a program
module _ (n d : ℕ) where
  pub half-under : n % d * 2 < d → n / d ≡ half_even n d
  unfolding half_even
  half-under h = go (compare (n % d * 2) d) (cmp (n % d * 2) d)
    where
      go : (o : Ordering) → Cmp o (n % d * 2) d → n / d ≡ nearest (n / d) o
      go Ordering.lt k = refl
      go Ordering.eq k = absurd (omega arith)
      go Ordering.gt k = absurd (omega arith)

  pub half_over : d < n % d * 2 → n / d + 1 ≡ half_even n d
  unfolding half_even
  half_over h = go (compare (n % d * 2) d) (cmp (n % d * 2) d)
    where
      go : (o : Ordering) → Cmp o (n % d * 2) d → n / d + 1 ≡ nearest (n / d) o
      go Ordering.lt k = absurd (omega arith)
      go Ordering.eq k = absurd (omega arith)
      go Ordering.gt k = omega arith

  pub half_tie : d ≤ n % d * 2 → n % d * 2 ≤ d → n / d + n / d % 2 ≡ half_even n d
  unfolding half_even
  half_tie h l = go (compare (n % d * 2) d) (cmp (n % d * 2) d)
    where
      go : (o : Ordering) → Cmp o (n % d * 2) d → n / d + n / d % 2 ≡ nearest (n / d) o
      go Ordering.lt k = absurd (omega arith)
      go Ordering.eq k = refl
      go Ordering.gt k = absurd (omega arith)

-- ---- the result is nearest
by_parts : (n d q r N : ℕ) (o : Ordering) → q * d + r ≡ n → r < d → Cmp o (r * 2) d → N ≡ nearest q o → NearestEven n d N
by_parts n d q r N Ordering.lt e l c s =
    let p : N * d ≡ q * d = ap (λ (z : ℕ). z * d) s in
    record { not_low = omega arith; not_high = omega arith; even_low = λ h. absurd (omega arith); even_high = λ h. absurd (omega arith) }
by_parts n d q r N Ordering.gt e l c s =
    let p : N * d ≡ q * d + d = ap (λ (z : ℕ). z * d) s ∙ suc-mul q d in
    record { not_low = omega arith; not_high = omega arith; even_low = λ h. absurd (omega arith); even_high = λ h. absurd (omega arith) }
by_parts n d q r N Ordering.eq e l c s =
    let p : N * d ≡ q * d + q % 2 * d = ap (λ (z : ℕ). z * d) s ∙ add-mul q (q % 2) d in
    let two : q % 2 * d ≤ 1 * d = mul-le-mul_right d (omega arith) in
    let even : N % 2 ≡ 0 = omega arith in
    record { not_low = omega arith; not_high = omega arith; even_low = λ h. even; even_high = λ h. even }

pub half-nearest : (n d : ℕ) → 0 < d → NearestEven n d (half_even n d)
unfolding half_even
half-nearest n d D = by_parts n d (n / d) (n % d) (half_even n d) (compare (n % d * 2) d) (div-add-mod' n d) (mod-lt n D) (cmp (n % d * 2) d) refl

-- ---- and nothing else is
not-above : (n d N M : ℕ) → 0 < d → NearestEven n d N → NearestEven n d M → N < M → ⊥
not-above n d N M D a b h =
    let k = M - suc N in
    let m : M ≡ suc N + k = omega arith in
    let p : M * d ≡ N * d + d + k * d = ap (λ (z : ℕ). z * d) m ∙ add-mul (suc N) k d ∙ ap (λ (z : ℕ). z + k * d) (suc-mul N d) in
    let z : k * d ≡ 0 = omega (arith, a.not_low, b.not_high) in
    let e : N % 2 ≡ 0 = a.even_low (omega (arith, a.not_low, b.not_high)) in
    let f : M % 2 ≡ 0 = b.even_high (omega (arith, a.not_low, b.not_high)) in
    let w : k < 1 = le_of_mul-le-mul_right {k = d} (omega (arith, suc-mul k d)) D in
    omega arith

pub nearest_unique : (n d N M : ℕ) → 0 < d → NearestEven n d N → NearestEven n d M → N ≡ M
nearest_unique n d N M D a b = go (dec_le N M) (dec_le M N)
  where
    go : Dec (N ≤ M) → Dec (M ≤ N) → N ≡ M
    go (yes p) (yes q) = omega arith
    go (no p) q = absurd (not-above n d M N D b a (omega arith))
    go (yes p) (no q) = absurd (not-above n d N M D a b (omega arith))

-- ---- it depends on the value alone: n / d and m / c are one fraction
module _ (n d m c N : ℕ) (D : 0 < d) (C : 0 < c) (e : n * c ≡ m * d) where
  swap : N * d * c ≡ N * c * d
  swap = mul_right_comm N d c

  both : d * c ≡ c * d
  both = mul_comm d c

  -- 2 n and 2 N d + d, times c, are 2 m and 2 N c + c, times d
  left-c : 2 * n * c ≡ 2 * m * d
  left-c = omega (arith, mul_assoc 2 n c, mul_assoc 2 m d)

  right-c : (2 * (N * d) + d) * c ≡ (2 * (N * c) + c) * d
  right-c = omega (arith, add-mul (2 * (N * d)) d c, add-mul (2 * (N * c)) c d, mul_assoc 2 (N * d) c, mul_assoc 2 (N * c) d, swap, both)

  low-c : 2 * (N * d) * c ≡ 2 * (N * c) * d
  low-c = omega (arith, mul_assoc 2 (N * d) c, mul_assoc 2 (N * c) d, swap)

  high-c : (2 * n + d) * c ≡ (2 * m + c) * d
  high-c = omega (arith, add-mul (2 * n) d c, add-mul (2 * m) c d, left-c, both)

  pub nearest-same : NearestEven n d N → NearestEven m c N
  nearest-same a = record {
    not_low = le_of_mul-le-mul_right {k = d} (omega (arith, mul-le-mul_right c a.not_low, left-c, right-c)) D;
    not_high = le_of_mul-le-mul_right {k = d} (omega (arith, mul-le-mul_right c a.not_high, low-c, high-c)) D;
    even_low = λ h. a.even_low (eq_of_mul-eq-mul_right c C (2 * n) (2 * (N * d) + d) (left-c ∙ ap (λ (z : ℕ). z * d) h ∙ sym right-c));
    even_high = λ h. a.even_high (eq_of_mul-eq-mul_right c C (2 * (N * d)) (2 * n + d) (low-c ∙ ap (λ (z : ℕ). z * d) h ∙ sym high-c));
  }

pub half-same : (n d m c : ℕ) → 0 < d → 0 < c → n * c ≡ m * d → half_even n d ≡ half_even m c
half-same n d m c D C e =
    nearest_unique m c (half_even n d) (half_even m c) C (nearest-same n d m c (half_even n d) D C e (half-nearest n d D)) (half-nearest m c C)

-- below a half it is nothing
pub half-none : (n d : ℕ) → 0 < d → 2 * n < d → half_even n d ≡ 0
half-none n d D h =
    nearest_unique n d (half_even n d) 0 D (half-nearest n d D)
    (record { not_low = omega arith; not_high = omega arith; even_low = λ k. refl; even_high = λ k. refl })

-- no more than a bound that the fraction has
pub half_le : (n d B : ℕ) → 0 < d → n ≤ B * d → half_even n d ≤ B
half_le n d B D h = go (half_even n d) (half-nearest n d D) (dec_le (half_even n d) B)
  where
    go : (N : ℕ) → NearestEven n d N → Dec (N ≤ B) → N ≤ B
    go N a (yes p) = p
    go N a (no p) =
        let k = N - suc B in
        let m : N ≡ suc B + k = omega arith in
        let q : N * d ≡ B * d + d + k * d = ap (λ (z : ℕ). z * d) m ∙ add-mul (suc B) k d ∙ ap (λ (z : ℕ). z + k * d) (suc-mul B d) in
        absurd (omega (arith, a.not_high))
