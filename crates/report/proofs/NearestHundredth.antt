-- Claim (Card 3): what is printed of an area is its nearest hundredth of a square millimetre, halves up; no other
-- number is; a doubled area of 16,777,216 units squared, an eighth of a square millimetre, prints 13, and one of
-- 16,777,215 prints 12.
use Prim.Native.Nat.{ℕ, ◌+◌, ◌*◌, ◌^◌, ◌≤◌, ◌<◌}
use mathlib.Core.Path.{◌≡◌, refl}
use native.Mathlib.Omega.{arith}
use Rattle.report.specs.Report.{hundredths}

-- A doubled area a is a / 2 ^ 27 square millimetres. N hundredths are the nearest to it, halves up: N - 1/2 ≤ 100 · a / 2 ^ 27 < N + 1/2.
pub record NearestHalfUp (a N : ℕ) : Type 0 where
  pub from : N * 2 ^ 27 ≤ a * 100 + 2 ^ 26
  pub below : a * 100 < N * 2 ^ 27 + 2 ^ 26

pub nearest : (a : ℕ) → NearestHalfUp a (hundredths a)
unfolding hundredths
nearest a = record { from = omega arith; below = omega arith }

pub no_other : (a N : ℕ) → NearestHalfUp a N → N ≡ hundredths a
unfolding hundredths
no_other a N n = omega (arith, n.from, n.below)

pub eighth : hundredths 16777216 ≡ 13
unfolding hundredths
eighth = refl

pub below_eighth : hundredths 16777215 ≡ 12
unfolding hundredths
below_eighth = refl
