-- `worst` gives the worst corner of a part: no other corner exceeds it in measure, and of equal ones it has the last index.
-- This holds for every part, whatever its count and its measures. With the points on the sheet there is no second such corner.
use Prim.Native.Nat.{ℕ, zero, suc, ◌-◌, ◌≤◌, ◌<◌}
use native.Mathlib.Nat.{eq-or-lt_of_le, le_of_suc-le-suc}
use native.Mathlib.Omega.{arith}
use mathlib.Core.Path.{◌≡◌, refl, sym, subst}
use mathlib.Core.Logic.{◌⊎◌, inl, inr}
use mathlib.Core.Bool.{Bool, true, false, not, cond}
use mathlib.Core.List.{List}
use lib.ListN.{length}
use lib.Dec.{T, T_not, not_T}
use Rattle.laws.specs.Double.{◌<f◌, ◌≤f◌}
use Rattle.laws.proofs.Order.{lt_irrefl_f, lt→le, le-lt_trans_f, not_lt→le}
use Rattle.vector.specs.declared.GridPoint.{GridPoint}
use Rattle.vector.specs.Size.{AllOnSheet}
use Rattle.corner.specs.Corner.{measure_at, worst_to, worst, Worst}
use Rattle.corner.proofs.Measured.{measure_at-is}

-- of the corners 0 .. i
record WorstTo (r : List GridPoint) (i v : ℕ) : Type 0 where
  pub low : v ≤ i
  pub above : (j : ℕ) → j ≤ i → T (not (measure_at r v <f measure_at r j))
  pub last : (j : ℕ) → v < j → j ≤ i → T (not (measure_at r v ≤f measure_at r j))

worst-step : (r : List GridPoint) (i w : ℕ) → WorstTo r i w → (b : Bool) → (measure_at r w ≤f measure_at r (suc i)) ≡ b → WorstTo r (suc i) (cond b (suc i) w)
worst-step r i w h true e =
    record {
      low = omega arith;
      above = λ j g. go j (eq-or-lt_of_le g);
      last = λ j f g. absurd (omega arith);
    }
  where
    go : (j : ℕ) → (j ≡ suc i) ⊎ (j < suc i) → T (not (measure_at r (suc i) <f measure_at r j))
    go j (inr g) =
        not_T (measure_at r (suc i) <f measure_at r j)
        (λ k. T_not (measure_at r w <f measure_at r j) (h.above j (le_of_suc-le-suc g))
        (le-lt_trans_f (measure_at r w) (measure_at r (suc i)) (measure_at r j) (subst T (sym e) tt) k))
    go j (inl q) =
        subst (λ n. T (not (measure_at r (suc i) <f measure_at r n))) (sym q)
        (not_T (measure_at r (suc i) <f measure_at r (suc i)) (lt_irrefl_f (measure_at r (suc i))))
worst-step r i w h false e =
    record {
      low = omega (arith, h.low);
      above = λ j g. go j (eq-or-lt_of_le g);
      last = λ j f g. end j f (eq-or-lt_of_le g);
    }
  where
    less : T (not (measure_at r w ≤f measure_at r (suc i)))
    less = subst (λ x. T (not x)) (sym e) tt

    go : (j : ℕ) → (j ≡ suc i) ⊎ (j < suc i) → T (not (measure_at r w <f measure_at r j))
    go j (inr g) = h.above j (le_of_suc-le-suc g)
    go j (inl q) =
        subst (λ n. T (not (measure_at r w <f measure_at r n))) (sym q)
        (not_T (measure_at r w <f measure_at r (suc i))
        (λ k. T_not (measure_at r w ≤f measure_at r (suc i)) less (lt→le (measure_at r w) (measure_at r (suc i)) k)))

    end : (j : ℕ) → w < j → (j ≡ suc i) ⊎ (j < suc i) → T (not (measure_at r w ≤f measure_at r j))
    end j f (inr g) = h.last j f (le_of_suc-le-suc g)
    end j f (inl q) = subst (λ n. T (not (measure_at r w ≤f measure_at r n))) (sym q) less

worst-to : (r : List GridPoint) (i : ℕ) → WorstTo r i (worst_to r i)
unfolding worst_to
worst-to r zero =
    record {
      low = omega arith;
      above =
          λ j g. subst (λ n. T (not (measure_at r 0 <f measure_at r n))) (nought j g) (not_T (measure_at r 0 <f measure_at r 0) (lt_irrefl_f (measure_at r 0)));
      last = λ j f g. absurd (omega arith);
    }
  where
    nought : (j : ℕ) → j ≤ 0 → 0 ≡ j
    nought j g = omega arith
worst-to r (suc i) = worst-step r i (worst_to r i) (worst-to r i) (measure_at r (worst_to r i) ≤f measure_at r (suc i)) refl

pub worst-is : (r : List GridPoint) → 0 < length r → Worst r (worst r)
unfolding worst
worst-is r h =
    let w = worst-to r (length r - 1) in
    record {
      place = omega (arith, w.low, h);
      above = λ j g. w.above j (omega (arith, g));
      last = λ j f g. w.last j f (omega (arith, g));
    }

-- ---- on the sheet, where no measure is a NaN: a corner that is the worst is the one found
not-before : (r : List GridPoint) (v w : ℕ) → AllOnSheet r → Worst r v → Worst r w → v < w → ⊥
not-before r v w a h k g =
    T_not (measure_at r v ≤f measure_at r w) (h.last w g k.place)
    (not_lt→le (measure_at r w) (measure_at r v) (measure_at-is r w a).number (measure_at-is r v a).number (k.above v h.place))

pub worst-only : (r : List GridPoint) → AllOnSheet r → (v : ℕ) → 0 < length r → Worst r v → v ≡ worst r
worst-only r a v p h =
    let k = worst-is r p in
    let before : v < worst r → ⊥ = not-before r v (worst r) a h k in
    let after : worst r < v → ⊥ = not-before r (worst r) v a k h in
    omega arith
