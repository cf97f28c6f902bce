-- Claim: for every double x that is finite and above zero, `root_of x` is a double above zero, and no other double is as near to the square root
-- of x. For each double y below it the square of their middle is below x, and for each y above it the square of their middle is above x; no tie
-- exists. (`NearestRoot`, specs/Nearest.antt. `fin false (suc n) d`, where the format holds it, is any finite x above zero.)
use mathlib.Core.Path.{◌≡◌, sym, subst}
use mathlib.Core.Bool.{false}
use Prim.Native.Nat.{ℕ, suc, ◌+◌, ◌-◌, ◌*◌, ◌/◌, ◌^◌, ◌≤◌, ◌<◌}
use native.Mathlib.Nat.{mul_assoc, mul-pos, lt_of_le_of_lt, mul-le-mul_right}
use native.Mathlib.Omega.{arith}
use lib.IntN.{ℤ}
use lib.Dec.{T, lit<}
use lib.Pow.{pow_pos}
use lib.Count.{count_leading_zeros}
use lib.Ieee.{Float, fin, binary64, fits}
use lib.Ieee.Bits.{of_bits-to_bits}
use lib.Ieee.Exact.{HasValue}
use lib.Ieee.Positive.{positive_of_value}
use Rattle.root.specs.Root.{IsRoot, whole_root, root_of}
use Rattle.root.specs.Nearest.{NearestRoot}
use Rattle.root.proofs.Square.{whole_root-is}
use Rattle.root.proofs.Scaled.{lead, radicand, shift, expo, lo, same_radicand, root-value, root-fits}
use Rattle.root.proofs.Spacing.{pattern, units, sum_below, sum-above}
use Rattle.root.proofs.Middle.{lt-units, to_below, to-above}

pub nearest-root : (n : ℕ) (d : ℤ) → T (fits binary64 (fin false (suc n) d)) → NearestRoot (fin false (suc n) d) (root_of (fin false (suc n) d))
nearest-root n d f =
    let x = fin false (suc n) d in
    let r = root_of x in
    let c = pattern n d f in
    let m = c.0 in
    let k = c.1 in
    let g = c.2 in
    let X : HasValue x false (m * 2 ^ k) (2 ^ 1074) = subst (λ (z : Float). HasValue z false (m * 2 ^ k) (2 ^ 1074)) (of_bits-to_bits binary64 x f) g.value in
    let z = count_leading_zeros 64 m in
    let l = lead m g.above g.small in
    let N = m * 2 ^ shift k z * 2 ^ 54 in
    let s = whole_root 54 N in
    let i : IsRoot N s = whole_root-is 54 N (short (m * 2 ^ shift k z) (radicand m k z l).to) in
    let e = expo k z in
    let Q = (s + 1) / 2 * 2 ^ e in
    let R = root-value x m k z s X g.above g.most l i in
    let from = lo x m k z s X g.above g.most l i in
    let even : N ≡ m * 2 ^ shift k z * 2 ^ 53 * 2 = sym (mul_assoc (m * 2 ^ shift k z) (2 ^ 53) 2) in
    let same = same_radicand x m k z s X g.above g.most l i 1076 54 (omega arith) in record {
      held = root-fits x m k z s X g.above g.most l i;
      above_zero = positive_of_value r Q (2 ^ 1074) R (mul-pos (half s from) (pow_pos e));
      from_below = λ a b h t.
          let y = fin false a b in
          let u = units a b h in
          to_below y r (u.m * 2 ^ u.j) Q u.value R x (m * 2 ^ k) X
          (rw same (sum_below N (m * 2 ^ shift k z * 2 ^ 53) s e u.m u.j even i from u.short (lt-units y r (u.m * 2 ^ u.j) Q u.value R t)));
      from_above = λ a b h t.
          let y = fin false a b in
          let u = units a b h in
          to-above y r (u.m * 2 ^ u.j) Q u.value R x (m * 2 ^ k) X
          (rw same (sum-above N (m * 2 ^ shift k z * 2 ^ 53) s e u.m u.j even i from u.short (lt-units r y Q (u.m * 2 ^ u.j) R u.value t)));
    }
  where
    half : (s : ℕ) → 2 ^ 53 ≤ s → 0 < (s + 1) / 2
    half s h = omega arith

    short : (n : ℕ) → n ≤ 2 ^ 54 - 2 → n * 2 ^ 54 < 2 ^ 108
    short n h = lt_of_le_of_lt (mul-le-mul_right (2 ^ 54) h) (lit< tt)
