-- Heron's steps to the whole part of a square root, and the range of each number on the way. Nothing here is about floats.
use mathlib.Core.Path.{◌≡◌, subst}
use Prim.Native.Nat.{ℕ, zero, suc, ◌+◌, ◌-◌, ◌*◌, ◌/◌, ◌^◌, ◌≤◌, ◌<◌}
use native.Mathlib.Nat.{le_of_lt, lt_of_not-le, lt_of_lt_of_le, lt-suc_self, zero-lt-suc, add-sub_of_le, add-mul, mul-add, mul_comm}
use native.Mathlib.Nat.{mul_right_comm, mul-le-mul, mul-le-mul_left, mul-le-mul_right, div-lt_iff_lt-mul}
use native.Mathlib.Decide.{dec_le}
use native.Mathlib.Omega.{arith}
use lib.Dec.{lit<}

-- ---- twice a product is at most the sum of the squares
apart : (a d : ℕ) → a * (a + d) * 2 + d * d ≡ (a + d) * (a + d) + a * a
apart a d = simp (mul-add, add-mul) (omega (arith, mul_comm a d))

ordered : (a b : ℕ) → a ≤ b → a * b * 2 ≤ b * b + a * a
ordered a b h = subst (λ (x : ℕ). a * x * 2 ≤ x * x + a * a) (add-sub_of_le h) (omega (arith, apart a (b - a)))

twice_product : (a b : ℕ) → a * b * 2 ≤ a * a + b * b
twice_product a b = either (dec_le a b)
  where
    either : Dec (a ≤ b) → a * b * 2 ≤ a * a + b * b
    either (yes h) = omega (arith, ordered a b h)
    either (no f) = omega (arith, ordered b a (le_of_lt (lt_of_not-le f)), mul_comm a b)

-- ---- a step
abbrev pub step : ℕ → ℕ → ℕ
step n g = (g + n / g) / 2

-- From any guess g above 0 the next one is no less than the root. With q for n / g and m for the next guess and one more:
-- n is below (q + 1) g, and q + 1 + g is at most 2 m, so n + g² is below 2 m g, which is at most m² + g².
step-above : (n g : ℕ) → 0 < g → n < suc (step n g) * suc (step n g)
step-above n g p =
    let q = n / g in
    let m = suc (step n g) in
    let a : n < suc q * g = (div-lt_iff_lt-mul p).0 (lt-suc_self q) in
    let b : (suc q + g) * g ≤ m * 2 * g = mul-le-mul_right g (half q g) in
    let c : (suc q + g) * g ≡ suc q * g + g * g = add-mul (suc q) g g in
    let d : m * 2 * g ≡ m * g * 2 = mul_right_comm m 2 g in
    omega (arith, twice_product m g)
  where
    half : (q g : ℕ) → suc q + g ≤ suc ((g + q) / 2) * 2
    half q g = omega arith

-- ---- the guess, and the numbers of the two steps
abbrev pub guess : ℕ → ℕ
guess n = 34799785 + n / 2 ^ 32 * (35300173 - n / 2 ^ 32 * 2653490 / 2 ^ 20) / 2 ^ 20

pub rise : (n : ℕ) → n < 2 ^ 54 → n / 2 ^ 32 * (35300173 - n / 2 ^ 32 * 2653490 / 2 ^ 20) ≤ 2 ^ 22 * 35300173
rise n hi =
    let a : n / 2 ^ 32 ≤ 2 ^ 22 = omega arith in
    let b : 35300173 - n / 2 ^ 32 * 2653490 / 2 ^ 20 ≤ 35300173 = omega arith in
    mul-le-mul a b

-- g is a guess, and its quotient is known to fit
pub record Guess (n lo hi g : ℕ) : Type 0 where
  pub low : lo ≤ g
  pub high : g < hi
  pub over : n / g < hi * 2

quotient : (n g j m : ℕ) → 0 < m → m ≤ g → n < j * m → n / g < j
quotient n g j m p h l = (div-lt_iff_lt-mul (lt_of_lt_of_le p h)).1 (lt_of_lt_of_le l (mul-le-mul_left j h))

pub first : (n : ℕ) → n < 2 ^ 54 → Guess n (2 ^ 25) (2 ^ 28) (guess n)
first n hi =
    let low : 2 ^ 25 ≤ guess n = omega arith in
    record { low = low; high = omega (arith, rise n hi); over = quotient n (guess n) (2 ^ 29) (2 ^ 25) (lit< tt) low hi }

pub second : (n g : ℕ) → n < 2 ^ 54 → Guess n (2 ^ 25) (2 ^ 28) g → Guess n (2 ^ 24) (2 ^ 29) (step n g)
second n g hi f =
    let low : 2 ^ 24 ≤ step n g = omega (arith, f.low) in
    record { low = low; high = omega (arith, f.high, f.over); over = quotient n (step n g) (2 ^ 30) (2 ^ 24) (lit< tt) low hi }

-- ---- the way down: a is the whole part of the root, or above it
pub record Above (n a : ℕ) : Type 0 where
  pub above : n < suc a * suc a
  pub small : a < 2 ^ 30

pub third : (n g : ℕ) → Guess n (2 ^ 24) (2 ^ 29) g → Above n (step n g)
third n g s = record { above = step-above n g (omega (arith, s.low)); small = omega (arith, s.high, s.over) }

pub positive : (n a : ℕ) → n < a * a → 0 < a
positive n zero h = absurd (omega arith)
positive n (suc a) h = zero-lt-suc a
