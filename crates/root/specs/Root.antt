-- IEEE 754-2019's squareRoot at binary64, rounded to the nearest value, over the values of `lib.Ieee` (01, 'Root'). Definitions only.
-- specs/Nearest.antt says what makes the value nearest, without these definitions; proofs/NearestRoot.antt proves it of `root_of`.
use Prim.Native.Nat.{ℕ, zero, suc, ◌+◌, ◌-◌, ◌*◌, ◌/◌, ◌^◌, ◌≤◌, ◌<◌, compare}
use Rattle.std.specs.Prelude.{true, false, cond, leb, Float}
use Rattle.std.specs.Float.{nan, inf, fin, binary64}
use Rattle.std.specs.Float.Ieee.{prec, low, up, down, size, nearest, units, of_bits, to_bits}

-- s is the whole part of n's square root.
pub record IsRoot (n s : ℕ) : Type 0 where
  pub below : s * s ≤ n
  pub above : n < suc s * suc s

-- The whole part of the root of an n below 4 ^ d, digit by digit: twice the root of n without its last two digits, or one more.
unfoldable pub whole_root : ℕ → ℕ → ℕ
whole_root zero n = 0
whole_root (suc d) n =
    let r = 2 * whole_root d (n / 4) in
    cond (leb (suc r * suc r) n) (suc r) r

-- The multiple of 2 ^ k nearest to the root of n, in units of 2 ^ k, for a root of at most d + k digits.
-- q is the whole part. The root is past q + 1/2 where n is above the square of (q + 1/2) * 2 ^ k.
unfoldable pub nearest_root : ℕ → ℕ → ℕ → ℕ
nearest_root d k n =
    let u = 2 ^ k in
    let q = whole_root d (n / (u * u)) in
    let h = (2 * q + 1) * u in
    nearest q (compare (4 * n) (h * h))

-- The root of n has half as many digits as n, rounded up. The format keeps the first 53 and drops the others.
unfoldable pub dropped : ℕ → ℕ
dropped n = (size n + 1) / 2 - prec binary64

-- The root of n in units of the smallest value above zero, rounded to the nearest double.
unfoldable pub round_root : ℕ → Float
round_root n = let k = dropped n in units binary64 false (nearest_root (prec binary64) k n) k

-- 01, Root: "IEEE 754-2019 square root, nearest, for every double. -0 gives -0; NaN or below zero gives [a NaN]; +infinity gives itself."
-- A finite x above zero is n / 4 ^ 1074, where 2 ^ -1074 is the smallest value above zero, so its root is that of n in units of that value.
unfoldable pub root_of : Float → Float
root_of nan = nan
root_of (inf true) = nan
root_of (inf false) = inf false
root_of (fin s zero e) = fin s zero e
root_of (fin true (suc m) e) = nan
root_of (fin false (suc m) e) = round_root (suc m * up e * 4 ^ low binary64 / down e)

-- The root over bit patterns. For a NaN `to_bits` writes 7FF8000000000000 (for every such pattern: `nan_bits_lem` of proofs/Cases.antt).
unfoldable pub root_bits : ℕ → ℕ
root_bits b = to_bits binary64 (root_of (of_bits binary64 b))

-- One name for an `unfolding` line: with it, and with the doubles' own operations, roots compute.
unfoldable pub in_root : Unit {0}
unfolding whole_root nearest_root dropped round_root root_of root_bits
in_root = tt
