-- Two steps that are not zero have a cross or a dot product that is not zero, so the quotient of a corner divides by no zero.
use Prim.Native.Nat.{ℕ, zero, suc, ◌+◌, ◌*◌, ◌<◌}
use native.Mathlib.Nat.{mul-pos}
use native.Mathlib.Omega.{arith}
use mathlib.Core.Path.{◌≡◌, refl, sym, ap, ◌∙◌, subst}
use mathlib.Core.Logic.{◌⊎◌, inl, inr}
use mathlib.Core.Bool.{Bool, true, false, not, ◌&&◌, ◌||◌, beq, true≢false, false≢true}
use lib.IntN.{ℤ, pos, negsuc, neg_ℤ, nat_abs, ◌*ℤ◌}
use lib.Signed.{non_neg}
use lib.Dec.{T, T_not}
use Rattle.laws.proofs.Booleans.{or_l, or_r}
use Rattle.laws.proofs.Integers.{no_difference, opposite, size-zero, nat_abs_mul, nat_abs_neg}
use Rattle.vector.specs.declared.GridPoint.{GridPoint}
use Rattle.laws.specs.Integer.{eq_z}
use Rattle.vector.specs.Grid.{origin, dot, cross, same}

-- the sign of a product and of an opposite
minus-sign : (n : ℕ) → 0 < n → non_neg (neg_ℤ (pos n)) ≡ false
minus-sign zero h = absurd (omega (arith, h))
minus-sign (suc n) h = refl

sign-mul : (z w : ℤ) → 0 < nat_abs z → 0 < nat_abs w → non_neg (z *ℤ w) ≡ beq (non_neg z) (non_neg w)
sign-mul (pos a) (pos b) h k = refl
sign-mul (pos a) (negsuc b) h k = minus-sign (a * suc b) (mul-pos h k)
sign-mul (negsuc a) (pos b) h k = minus-sign (suc a * b) (mul-pos h k)
sign-mul (negsuc a) (negsuc b) h k = refl

sign-neg : (z : ℤ) → 0 < nat_abs z → non_neg (neg_ℤ z) ≡ not (non_neg z)
sign-neg (pos zero) h = absurd (omega (arith, h))
sign-neg (pos (suc n)) h = refl
sign-neg (negsuc n) h = refl

-- no four signs make both products of cross agree and those of dot disagree
clash : (a b c d : Bool) → beq a d ≡ beq b c → beq a c ≡ not (beq b d) → ⊥
clash true true true true e f = true≢false f
clash true true true false e f = false≢true e
clash true true false true e f = true≢false e
clash true true false false e f = false≢true f
clash true false true true e f = true≢false e
clash true false true false e f = true≢false f
clash true false false true e f = false≢true f
clash true false false false e f = false≢true e
clash false true true true e f = false≢true e
clash false true true false e f = false≢true f
clash false true false true e f = true≢false f
clash false true false false e f = true≢false e
clash false false true true e f = false≢true f
clash false false true false e f = true≢false e
clash false false false true e f = false≢true e
clash false false false false e f = true≢false f

-- by the sizes: all four coordinates are above zero, or a step is zero
sizes : (a b c d : ℕ) → a * d ≡ b * c → a * c ≡ b * d → ((0 < a) × (0 < b) × (0 < c) × (0 < d)) ⊎ (((a ≡ 0) × (b ≡ 0)) ⊎ ((c ≡ 0) × (d ≡ 0)))
sizes zero zero c d e f = inr (inl (refl, refl))
sizes (suc a) b zero zero e f = inr (inr (refl, refl))
sizes zero (suc b) zero zero e f = inr (inr (refl, refl))
sizes zero (suc b) (suc c) d e f = absurd (omega (arith, e))
sizes zero (suc b) zero (suc d) e f = absurd (omega (arith, f))
sizes (suc a) zero (suc c) d e f = absurd (omega (arith, f))
sizes (suc a) zero zero (suc d) e f = absurd (omega (arith, e))
sizes (suc a) (suc b) (suc c) (suc d) e f = inl (omega arith, omega arith, omega arith, omega arith)
sizes (suc a) (suc b) zero (suc d) e f = absurd (omega (arith, e))
sizes (suc a) (suc b) (suc c) zero e f = absurd (omega (arith, e))

still : (u : GridPoint) → nat_abs u.x ≡ 0 → nat_abs u.y ≡ 0 → T (same u origin)
unfolding same
still u e f =
    subst (λ x. T (eq_z x (pos 0) && eq_z u.y (pos 0))) (sym (size-zero u.x e))
    (subst (λ y. T (eq_z (pos 0) (pos 0) && eq_z y (pos 0))) (sym (size-zero u.y f)) tt)

both_zero : (u v : GridPoint) → cross u v ≡ pos 0 → dot u v ≡ pos 0 → T (same u origin || same v origin)
unfolding cross dot
both_zero u v e f =
    go
    (sizes (nat_abs u.x) (nat_abs u.y) (nat_abs v.x) (nat_abs v.y)
    (sym (nat_abs_mul u.x v.y) ∙ ap nat_abs l ∙ nat_abs_mul u.y v.x)
    (sym (nat_abs_mul u.x v.x) ∙ ap nat_abs o ∙ nat_abs_neg (u.y *ℤ v.y) ∙ nat_abs_mul u.y v.y))
  where
    l : u.x *ℤ v.y ≡ u.y *ℤ v.x
    l = no_difference (u.x *ℤ v.y) (u.y *ℤ v.x) e

    o : u.x *ℤ v.x ≡ neg_ℤ (u.y *ℤ v.y)
    o = opposite (u.x *ℤ v.x) (u.y *ℤ v.y) f

    Moving : Type 0
    Moving = (0 < nat_abs u.x) × (0 < nat_abs u.y) × (0 < nat_abs v.x) × (0 < nat_abs v.y)

    Still : Type 0
    Still = ((nat_abs u.x ≡ 0) × (nat_abs u.y ≡ 0)) ⊎ ((nat_abs v.x ≡ 0) × (nat_abs v.y ≡ 0))

    go : Moving ⊎ Still → T (same u origin || same v origin)
    go (inl (a, b, c, d)) =
        absurd
        (clash (non_neg u.x) (non_neg u.y) (non_neg v.x) (non_neg v.y)
        (sym (sign-mul u.x v.y a d) ∙ ap non_neg l ∙ sign-mul u.y v.x b c)
        (sym (sign-mul u.x v.x a c) ∙ ap non_neg o
        ∙ sign-neg (u.y *ℤ v.y) (subst (λ n. 0 < n) (sym (nat_abs_mul u.y v.y)) (mul-pos b d))
        ∙ ap not (sign-mul u.y v.y b d)))
    go (inr (inl z)) = or_l (same u origin) (same v origin) (still u z.0 z.1)
    go (inr (inr z)) = or_r (same u origin) (same v origin) (still v z.0 z.1)

pub moving : (u v : GridPoint) → T (not (same u origin || same v origin)) → 0 < nat_abs (cross u v) + nat_abs (dot u v)
moving u v t = go (nat_abs (cross u v) + nat_abs (dot u v)) refl
  where
    go : (n : ℕ) → nat_abs (cross u v) + nat_abs (dot u v) ≡ n → 0 < n
    go zero e =
        absurd
        (T_not (same u origin || same v origin) t
        (both_zero u v (size-zero (cross u v) (omega arith)) (size-zero (dot u v) (omega arith))))
    go (suc n) e = omega arith
