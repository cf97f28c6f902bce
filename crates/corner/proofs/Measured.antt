-- The measure of a corner is a number from 0 to 4, never a NaN, whatever its two steps are, as long as they are differences
-- of points on the sheet. So measures can be compared, and one of a part's corners is the worst.
use Prim.Native.Nat.{ℕ, suc, ◌+◌, ◌*◌, ◌^◌, ◌≤◌, ◌<◌, zero-le}
use native.Mathlib.Omega.{arith}
use native.Mathlib.Nat.{mul-pos}
use mathlib.Core.Path.{◌≡◌, refl, sym, ap, ap₂, ◌∙◌, subst}
use mathlib.Core.Bool.{Bool, true, false, not, ◌||◌}
use mathlib.Core.List.{List}
use lib.IntN.{ℤ, pos, negsuc, nat_abs, ◌*ℤ◌}
use lib.Signed.{non_neg}
use lib.Dec.{T, lit≤}
use lib.Ieee.{Float, fin, binary64, add, unlike, le, lt, eq, fits, is_nan, of_int, round}
use lib.Ieee.Positive.{den_pos}
use Rattle.laws.specs.Double.{nat, int, naught, ◌+f◌, ◌-f◌, ◌/f◌, ◌≤f◌}
use Rattle.laws.specs.Within.{Within}
use Rattle.laws.proofs.Between.{within_real, within-le, plus-le, less-le}
use Rattle.laws.proofs.Bounds.{add-within, sub_within}
use Rattle.laws.proofs.Constants.{zero_is}
use Rattle.laws.proofs.Exact.{div-at}
use Rattle.laws.proofs.Integers.{nat_abs_add, nat_abs_sub}
use Rattle.laws.proofs.Negate.{Signed, round_signed}
use Rattle.laws.proofs.Order.{le_trans_f}
use Rattle.laws.proofs.Quotient.{ratio-within}
use Rattle.laws.proofs.Results.{add_rounds, sub_rounds}
use Rattle.laws.proofs.Round.{rounds_le, rounds_ge, signed_le}
use Rattle.laws.proofs.Scaled.{minus_sign, of_int_scaled, of_int_value, add-scaled}
use Rattle.laws.proofs.Signed.{product}
use Rattle.laws.proofs.UnitInterval.{nonpos}
use Rattle.vector.specs.declared.GridPoint.{GridPoint}
use Rattle.vector.specs.Grid.{origin, dot, cross, same, sub, at, prev}
use Rattle.vector.specs.Size.{SheetStep, AllOnSheet}
use Rattle.vector.proofs.Sheet.{step, at_on, prev_on}
use Rattle.corner.specs.Corner.{quotient, by_quadrant, measure, measure_at}
use Rattle.corner.proofs.Steps.{moving}

-- what is claimed of a measure
pub record Measured (m : Float) : Type 0 where
  pub number : T (not (is_nan m))
  pub low : T (nat 0 ≤f m)
  pub high : T (m ≤f nat 4)

-- ---- the quotient is at most 1 in size, and has the sign of the cross product
sum_is : (a b : ℕ) → a + b ≤ 2 ^ 53 → nat a +f nat b ≡ nat (a + b)
sum_is a b h =
    ap₂ (add binary64) (of_int_scaled binary64 (pos a)) (of_int_scaled binary64 (pos b))
    ∙ add-scaled binary64 (pos a) (pos b) 0 (omega arith) (omega arith) zero-le
    ∙ sym (of_int_scaled binary64 (pos (a + b)))

module _ (s c : ℤ) (h : nat_abs s + nat_abs c ≤ 2 ^ 53) (g : 0 < nat_abs s + nat_abs c) where
  by_sum : quotient s c ≡ int s /f nat (nat_abs s + nat_abs c)
  unfolding quotient
  by_sum = ap (λ y. int s /f y) (sum_is (nat_abs s) (nat_abs c) h)

  quotient-within : Within 1 (quotient s c)
  quotient-within =
      subst (Within 1) (sym by_sum) (ratio-within binary64 s (nat_abs s + nat_abs c) (omega arith) g h)

  quotient_signed : Signed (minus_sign s) (quotient s c)
  quotient_signed =
      signed (minus_sign s) (quotient s c) (nat_abs s * 1) ((nat_abs s + nat_abs c) * 1)
      (by_sum
      ∙ div-at binary64 (int s) (nat (nat_abs s + nat_abs c)) (minus_sign s) (nat_abs s) 1 false (nat_abs s + nat_abs c) 1 (omega arith) (omega arith) g
      (of_int_value binary64 s (omega arith)) (of_int_value binary64 (pos (nat_abs s + nat_abs c)) h))
    where
      signed : (t : Bool) (x : Float) (a d : ℕ) → x ≡ round binary64 (unlike t false) a d → Signed t x
      signed true x a d e = subst (Signed true) (sym e) (round_signed binary64 true a d)
      signed false x a d e = subst (Signed false) (sym e) (round_signed binary64 false a d)

minus-naught : Float
minus-naught = fin true 0 (pos 0)

above : (x : Float) → Signed false x → T (le naught x)
unfolding minus-naught le lt eq
above x h = le_trans_f naught minus-naught x tt (signed_le minus-naught x refl h)

below : (x : Float) → Signed true x → T (le x naught)
below x h = signed_le x naught h refl

-- ---- the four cases, for a quotient q of size at most 1
two : Float
two = fin false 1 (pos 1)

four : Float
four = fin false 1 (pos 2)

two_is : nat 2 ≡ two
unfolding two of_int round
two_is = refl

four_is : nat 4 ≡ four
unfolding four of_int round
four_is = refl

measured : (m : Float) (B : ℕ) → Within B m → T (le naught m) → T (le m four) → Measured m
measured m B h l u = record {
  number = within_real B m h;
  low = subst (λ z. T (le z m)) (sym zero_is) l;
  high = subst (λ z. T (le m z)) (sym four_is) u;
}

module _ (q : Float) (h : Within 1 q) where
  behind : Measured (two -f q)
  unfolding two four fits
  behind =
      measured (two -f q) 3 (sub_within binary64 2 1 two q (lit≤ tt) (tt, lit≤ tt) h)
      (rounds_ge binary64 (two -f q) naught _ _ _ (mul-pos (den_pos two) (den_pos q)) (sub_rounds binary64 two q tt h.0) tt tt
      (omega (arith, plus-le q, h.1)))
      (rounds_le binary64 (two -f q) four _ _ _ (mul-pos (den_pos two) (den_pos q)) (sub_rounds binary64 two q tt h.0) tt tt
      (omega (arith, less-le q, h.1)))

  left : T (le naught q) → Measured q
  unfolding four
  left l = measured q 1 h l (within-le 1 q four h tt refl (lit≤ tt))

  right : T (le q naught) → Measured (four +f q)
  unfolding four fits
  right l =
      measured (four +f q) 5 (add-within binary64 4 1 four q (lit≤ tt) (tt, lit≤ tt) h)
      (rounds_ge binary64 (four +f q) naught _ _ _ (mul-pos (den_pos four) (den_pos q)) (add_rounds binary64 four q tt h.0) tt tt
      (omega (arith, less-le q, h.1)))
      (rounds_le binary64 (four +f q) four _ _ _ (mul-pos (den_pos four) (den_pos q)) (add_rounds binary64 four q tt h.0) tt tt
      (omega (arith, nonpos q h.0 l)))

straight : Measured two
unfolding two four le lt eq
straight = measured two 2 (tt, lit≤ tt) tt tt

by_quadrant_lem : (z c s : Bool) (q : Float) → (T (not z) → Within 1 q) → (T (not z) → Signed (not s) q) → Measured (by_quadrant z c s q)
unfolding by_quadrant
by_quadrant_lem true c s q f g = subst Measured (sym two_is) straight
by_quadrant_lem false true s q f g = subst (λ z. Measured (z -f q)) (sym two_is) (behind q (f tt))
by_quadrant_lem false false true q f g = left q (f tt) (above q (g tt))
by_quadrant_lem false false false q f g = subst (λ z. Measured (z +f q)) (sym four_is) (right q (f tt) (below q (g tt)))

-- ---- the measure of two steps
sums : (u v : GridPoint) → SheetStep u → SheetStep v → nat_abs (cross u v) + nat_abs (dot u v) ≤ 2 ^ 53
unfolding cross dot
sums u v h k =
    omega (
      arith,
      nat_abs_sub (u.x *ℤ v.y) (u.y *ℤ v.x),
      nat_abs_add (u.x *ℤ v.x) (u.y *ℤ v.y),
      product u.x v.y h.x k.y,
      product u.y v.x h.y k.x,
      product u.x v.x h.x k.x,
      product u.y v.y h.y k.y,
    )

sign-is : (z : ℤ) → minus_sign z ≡ not (non_neg z)
sign-is (pos n) = refl
sign-is (negsuc n) = refl

pub measure-is : (u v : GridPoint) → SheetStep u → SheetStep v → Measured (measure u v)
unfolding measure
measure-is u v h k =
    by_quadrant_lem (same u origin || same v origin) (non_neg (dot u v)) (non_neg (cross u v)) (quotient (cross u v) (dot u v))
    (λ t. quotient-within (cross u v) (dot u v) (sums u v h k) (moving u v t))
    (λ t. subst (λ b. Signed b (quotient (cross u v) (dot u v))) (sign-is (cross u v)) (quotient_signed (cross u v) (dot u v) (sums u v h k) (moving u v t)))

-- ---- the corners of a part
pub measure_at-is : (r : List GridPoint) (i : ℕ) → AllOnSheet r → Measured (measure_at r i)
unfolding measure_at
measure_at-is r i a =
    measure-is (sub (at r i) (prev r i)) (sub (at r (suc i)) (at r i)) (step (at r i) (prev r i) (at_on r i a) (prev_on r i a))
    (step (at r (suc i)) (at r i) (at_on r (suc i) a) (at_on r i a))
