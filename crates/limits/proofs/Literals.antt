-- The literals that the code compares with, by their bits.
use mathlib.Core.Path.{◌≡◌, ap}
use Prim.Native.Nat.{ℕ}
use lib.Ieee.{binary64, of_bits, of_int, round, sub, add, neg, sum}
use Rattle.laws.specs.Double.{nat, ◌-f◌}

pub minus_one_is : (b : ℕ) → b ≡ 0x3FF0_0000_0000_0000 → neg (of_bits binary64 b) ≡ nat 0 -f nat 1
unfolding of_bits of_int round sub add neg sum
minus_one_is b e = ap (λ (n : ℕ). neg (of_bits binary64 n)) e
