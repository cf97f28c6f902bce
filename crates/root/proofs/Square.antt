-- Squares, and the whole part of a square root: `whole_root` gives it, and there is only one. Nothing here is about floats.
use mathlib.Core.Path.{◌≡◌, ap, ◌∙◌, subst}
use mathlib.Core.Logic.{◌⊎◌, inl, inr}
use mathlib.Core.Bool.{Bool, true, false, not, cond}
use Prim.Native.Nat.{ℕ, zero, suc, ◌+◌, ◌*◌, ◌/◌, ◌%◌, ◌^◌, ◌≤◌, ◌<◌}
use native.Mathlib.Nat.{lt_of_not-le, not-le_of_lt, lt_irrefl, lt_of_lt_of_le, mul-le-mul, mul_comm, mul_right_comm, mul-mul-mul_comm, suc-mul, mul-suc}
use native.Mathlib.Omega.{arith}
use lib.Dec.{T, leb, leb→le, nleb→lt}
use lib.Pow.{pow_mono, shr_lt}
use Rattle.root.specs.Root.{IsRoot, whole_root}

-- ---- squares and powers of two keep the order, both ways
pub suc-square : (s : ℕ) → suc s * suc s ≡ s * s + s * 2 + 1
suc-square s = omega (arith, suc-mul s (suc s), mul-suc s s)

pub square-lt : (a b : ℕ) → a < b → a * a < b * b
square-lt a b h = omega (arith, mul-le-mul h h, suc-square a)

pub square-back : (a b : ℕ) → a * a < b * b → a < b
square-back a b h = lt_of_not-le (λ (g : b ≤ a). not-le_of_lt h (mul-le-mul g g))

pub pow_back : (i j : ℕ) → 2 ^ i < 2 ^ j → i < j
pow_back i j h = lt_of_not-le (λ (g : j ≤ i). lt_irrefl (2 ^ i) (lt_of_lt_of_le h (pow_mono g)))

-- ---- even and odd
pub parity : (n : ℕ) → (n ≡ n / 2 * 2) ⊎ (n ≡ suc (n / 2 * 2))
parity n = go (n % 2) (omega arith) (omega arith)
  where
    go : (r : ℕ) → r < 2 → n ≡ n / 2 * 2 + r → (n ≡ n / 2 * 2) ⊎ (n ≡ suc (n / 2 * 2))
    go zero h e = inl (omega arith)
    go (suc zero) h e = inr (omega arith)
    go (suc (suc r)) h e = absurd (omega arith)

-- the square of an odd number is no even number
pub odd-square : (s h : ℕ) → s ≡ suc (s / 2 * 2) → s * s ≡ h * 2 → ⊥
odd-square s h o e =
    let f : s / 2 * 2 * s ≡ s / 2 * s * 2 = mul_right_comm (s / 2) 2 s in
    let u : s * s ≡ s / 2 * 2 * s + s = ap (λ (x : ℕ). x * s) o ∙ suc-mul (s / 2 * 2) s in
    omega arith

-- ---- `whole_root`
twice-square : (r : ℕ) → 2 * r * (2 * r) ≡ r * r * 4
twice-square r = mul-mul-mul_comm 2 r 2 r ∙ mul_comm 4 (r * r)

-- the whole root of n is twice that of n / 4, or one more
digit : (n r : ℕ) → IsRoot (n / 4) r → IsRoot n (cond (leb (suc (2 * r) * suc (2 * r)) n) (suc (2 * r)) (2 * r))
digit n r i = pick (leb (suc (2 * r) * suc (2 * r)) n) (leb→le _ _) (nleb→lt _ _)
  where
    next : (r : ℕ) → suc (suc (2 * r)) ≡ 2 * suc r
    next r = omega arith

    under : n < suc (suc (2 * r)) * suc (suc (2 * r))
    under = rw (next r, twice-square (suc r)) (omega (arith, i.above))

    pick : (b : Bool) → (T b → suc (2 * r) * suc (2 * r) ≤ n) → (T (not b) → n < suc (2 * r) * suc (2 * r)) → IsRoot n (cond b (suc (2 * r)) (2 * r))
    pick true p q = record { below = p tt; above = under }
    pick false p q = record { below = omega (arith, i.below, twice-square r); above = q tt }

pub whole_root-is : (d n : ℕ) → n < 2 ^ (d + d) → IsRoot n (whole_root d n)
unfolding whole_root
whole_root-is zero n h = record { below = omega arith; above = h }
whole_root-is (suc d) n h = digit n (whole_root d (n / 4)) (whole_root-is d (n / 4) (shr_lt (d + d) 2 (subst (λ (k : ℕ). n < 2 ^ k) (two-more d) h)))
  where
    two-more : (d : ℕ) → suc d + suc d ≡ d + d + 2
    two-more d = omega arith

-- the whole root of n is half of that of 4 n
pub half-root : (n q s : ℕ) → IsRoot n q → IsRoot (n * 4) s → q ≡ s / 2
half-root n q s i j =
    let a : 2 * q < suc s = square-back (2 * q) (suc s) (omega (arith, i.below, j.above, twice-square q)) in
    let b : s < 2 * suc q = square-back s (2 * suc q) (omega (arith, i.above, j.below, twice-square (suc q))) in
    omega arith
