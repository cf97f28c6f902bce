-- The literal 1.0e-9, by its bits.
use Prim.Native.Nat.{ℕ}
use mathlib.Core.Path.{◌≡◌, ap}
use lib.Ieee.{binary64, of_bits, round}
use Rattle.laws.specs.Double.{lit}

pub tiny_is : (b : ℕ) → b ≡ 0x3E11_2E0B_E826_D695 → of_bits binary64 b ≡ lit 1 9
unfolding lit of_bits round
tiny_is b e = ap (of_bits binary64) e
