-- Lengths on the sheet are finite: a root of what is at most 2 ^ 24 is at most 2 ^ 14, and so a distance of two grid points is at most 2 ^ 14 mm.
use mathlib.Core.Path.{◌≡◌, refl, sym, ap, ◌∙◌, subst}
use mathlib.Core.Bool.{Bool, true, false, cond, true≢false}
use Prim.Native.Nat.{ℕ, zero, suc, ◌+◌, ◌-◌, ◌*◌, ◌/◌, ◌^◌, ◌≤◌, ◌<◌, compare}
use native.Mathlib.Nat.{le_trans, le_of_eq, lt_of_le_of_lt, zero-mul, mul_right_comm, mul-le-mul, mul-le-mul_right, mul-lt-mul_of_pos_right, div-lt_iff_lt-mul}
use native.Mathlib.Omega.{arith}
use lib.IntN.{ℤ, pos, negsuc, nat_abs, neg_ℤ, ◌+ℤ◌, ◌-ℤ◌, ◌*ℤ◌, neg_ℤ-neg_ℤ, neg_ℤ-+ℤ, +ℤ_comm}
use lib.Dec.{leb, lit<, lit≤}
use lib.Pow.{pow-add, pow_pos, pow_mono, pow-lt}
use lib.Ieee.{Float, inf, fin, binary64, up, down, size, units, nan}
use lib.Ieee.Digits.{size-le}
use lib.Ieee.Exact.{units_val}
use lib.Ieee.Fits.{down_pos, nearest-le}
use Rattle.laws.specs.Units as Units
use Rattle.laws.specs.Within.{Within}
use Rattle.laws.proofs.Between.{value-within}
use Rattle.laws.proofs.Integers.{nat_abs_add}
use Rattle.laws.proofs.Negate.{Signed, round_signed}
use Rattle.laws.proofs.Scaled.{minus_sign, scaled, scaled_value}
use Rattle.laws.proofs.Signed.{product, diff-small}
use Rattle.laws.proofs.Units.{mm²-is}
use Rattle.vector.specs.declared.GridPoint.{GridPoint}
use Rattle.vector.specs.Grid as Grid
use Rattle.vector.specs.Size.{OnSheet, SheetStep}
use Rattle.root.specs.Root.{whole_root, nearest_root, dropped, round_root, root_of}
use Rattle.root.specs.Norm.{grid_norm, grid_dist}

-- ---- a root of d digits is below 2 ^ d, and rounded at most that
whole-small : (d n : ℕ) → whole_root d n < 2 ^ d
unfolding whole_root
whole-small zero n = lit< tt
whole-small (suc d) n = go (leb (suc (2 * whole_root d (n / 4)) * suc (2 * whole_root d (n / 4))) n) (whole-small d (n / 4))
  where
    go : (b : Bool) → whole_root d (n / 4) < 2 ^ d → cond b (suc (2 * whole_root d (n / 4))) (2 * whole_root d (n / 4)) < 2 ^ suc d
    go true h = omega (arith, h)
    go false h = omega (arith, h)

nearest-small : (d k n : ℕ) → nearest_root d k n ≤ 2 ^ d
unfolding nearest_root
nearest-small d k n =
    let q = whole_root d (n / (2 ^ k * 2 ^ k)) in
    le_trans (nearest-le q (compare (4 * n) ((2 * q + 1) * 2 ^ k * ((2 * q + 1) * 2 ^ k)))) (whole-small d (n / (2 ^ k * 2 ^ k)))

dropped-small : (n : ℕ) → n < 2 ^ 2176 → dropped n ≤ 1035
unfolding dropped
dropped-small n h = go (size n) (size-le n 2176 h)
  where
    go : (s : ℕ) → s ≤ 2176 → (s + 1) / 2 - 53 ≤ 1035
    go s h = omega arith

round_within : (n : ℕ) → n < 2 ^ 2176 → Within (2 ^ 14) (round_root n)
unfolding round_root
round_within n h =
    value-within (2 ^ 14) (units binary64 false q k) false (q * 2 ^ k) (2 ^ 1074) (pow_pos 1074)
    (units_val binary64 false q k (lt_of_le_of_lt top (pow-lt {i = 1088} {j = 2098} (lit< tt)))) (le_trans top (le_of_eq (pow-add 2 14 1074)))
  where
    k : ℕ
    k = dropped n

    q : ℕ
    q = nearest_root 53 k n

    top : q * 2 ^ k ≤ 2 ^ 1088
    top = le_trans (mul-le-mul (nearest-small 53 k n) (pow_mono (dropped-small n h))) (le_of_eq (sym (pow-add 2 53 1035)))

pub root-within : (x : Float) → Signed false x → Within (2 ^ 24) x → Within (2 ^ 14) (root_of x)
unfolding root_of
root-within (inf s) h k = absurd k.0
root-within (fin s zero e) h k = (tt, le_trans (le_of_eq (zero-mul (up e))) (omega arith))
root-within (fin true (suc m) e) h k = absurd (true≢false h)
root-within (fin false (suc m) e) h k = round_within (suc m * up e * 2 ^ 2148 / down e) ((div-lt_iff_lt-mul (down_pos e)).1 small)
  where
    small : suc m * up e * 2 ^ 2148 < 2 ^ 2176 * down e
    small =
        lt_of_le_of_lt (mul-le-mul_right (2 ^ 2148) k.1)
        (lt_of_le_of_lt (le_of_eq (mul_right_comm (2 ^ 24) (down e) (2 ^ 2148) ∙ ap (λ (z : ℕ). z * down e) (sym (pow-add 2 24 2148))))
        (mul-lt-mul_of_pos_right (pow-lt {i = 2172} {j = 2176} (lit< tt)) (down_pos e)))
root-within nan h k = elim h [ ]

-- ---- a sum of squares
sum-plus : (z w : ℤ) → minus_sign (z *ℤ z +ℤ w *ℤ w) ≡ false
sum-plus (pos a) (pos b) = refl
sum-plus (pos a) (negsuc b) = refl
sum-plus (negsuc a) (pos b) = refl
sum-plus (negsuc a) (negsuc b) = refl

in_square-mm-within : (z : ℤ) → minus_sign z ≡ false → nat_abs z ≤ 2 ^ 49 → Signed false (Units.mm² z) × Within (2 ^ 24) (Units.mm² z)
unfolding Units.mm²
in_square-mm-within z p h =
    let e = mm²-is z (omega arith) in (
      rw e (subst (λ (s : Bool). Signed s (scaled binary64 z (2 ^ 26))) p (round_signed binary64 (minus_sign z) (nat_abs z) (2 ^ 26))),
      rw e (value-within (2 ^ 24) (scaled binary64 z (2 ^ 26)) (minus_sign z) (nat_abs z) (2 ^ 26) (pow_pos 26)
          (scaled_value binary64 z 26 (omega arith) (lit≤ tt)) (omega arith)),
    )

pub grid_norm-within : (v : GridPoint) → SheetStep v → Within (2 ^ 14) (grid_norm v)
unfolding grid_norm Grid.dot
grid_norm-within v s =
    let x = v.x in
    let y = v.y in
    let h : nat_abs (x *ℤ x +ℤ y *ℤ y) ≤ 2 ^ 49 = omega (arith, nat_abs_add (x *ℤ x) (y *ℤ y), product x x s.x s.x, product y y s.y s.y) in
    let w = in_square-mm-within (x *ℤ x +ℤ y *ℤ y) (sum-plus x y) h in
    root-within (Units.mm² (x *ℤ x +ℤ y *ℤ y)) w.0 w.1

pub grid_dist-within : (a b : GridPoint) → OnSheet a → OnSheet b → Within (2 ^ 14) (grid_dist a b)
unfolding grid_dist Grid.sub
grid_dist-within a b h k = grid_norm-within (Grid.sub a b) (record { x = diff-small a.x b.x h.x k.x; y = diff-small a.y b.y h.y k.y })

-- ---- a distance is the same from either end
sub_flip : (a b : ℤ) → b -ℤ a ≡ neg_ℤ (a -ℤ b)
sub_flip a b = sym (neg_ℤ-+ℤ a (neg_ℤ b) ∙ ap (λ (z : ℤ). neg_ℤ a +ℤ z) (neg_ℤ-neg_ℤ b) ∙ +ℤ_comm (neg_ℤ a) b)

square_flip : (z : ℤ) → neg_ℤ z *ℤ neg_ℤ z ≡ z *ℤ z
square_flip (pos zero) = refl
square_flip (pos (suc n)) = refl
square_flip (negsuc n) = refl

square-sub : (a b : ℤ) → (b -ℤ a) *ℤ (b -ℤ a) ≡ (a -ℤ b) *ℤ (a -ℤ b)
square-sub a b = ap (λ (z : ℤ). z *ℤ z) (sub_flip a b) ∙ square_flip (a -ℤ b)

pub grid_dist_comm : (a b : GridPoint) → grid_dist b a ≡ grid_dist a b
unfolding grid_dist grid_norm Grid.sub Grid.dot
grid_dist_comm a b = λ i. root_of (Units.mm² (square-sub a.x b.x i +ℤ square-sub a.y b.y i))
