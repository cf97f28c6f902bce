-- No length of a chain is NaN: two points of the sheet are at most 2 ^ 14 mm apart, and so the length up to any of 60 points
-- is finite and at most 2 ^ 20 (`arc-within`). The bound is wide: finite is what matters.
use Prim.Native.Nat.{ℕ, zero, suc, ◌+◌, ◌*◌, ◌^◌, ◌≤◌, zero-le}
use native.Mathlib.Nat.{le_trans}
use native.Mathlib.Omega.{arith}
use mathlib.Core.Path.{◌≡◌, subst}
use mathlib.Core.List.{List}
use lib.Dec.{lit≤}
use lib.Ieee.{binary64, of_int, round}
use Rattle.laws.specs.Double.{nat, ◌+f◌}
use Rattle.laws.specs.Within.{Within}
use Rattle.laws.proofs.Bounds.{weaken, add-within}
use Rattle.vector.specs.declared.GridPoint.{GridPoint}
use Rattle.vector.specs.Size.{OnSheet}
use Rattle.root.specs.Norm.{grid_dist}
use Rattle.root.proofs.Length.{grid_dist-within}
use Rattle.arclength.specs.Arclength.{point_at, arc}

zero-within : (B : ℕ) → Within B (nat 0)
unfolding of_int round
zero-within B = (tt, zero-le)

module _ (c : List GridPoint) (h : (i : ℕ) → OnSheet (point_at c i)) where
  arc_in : (i : ℕ) → i ≤ 60 → Within (i * 2 ^ 14) (arc c i)
  unfolding arc
  arc_in zero l = zero-within (0 * 2 ^ 14)
  arc_in (suc i) l =
      subst (λ (B : ℕ). Within B (arc c i +f grid_dist (point_at c i) (point_at c (suc i)))) (next i)
      (add-within binary64 (i * 2 ^ 14) (2 ^ 14) (arc c i) (grid_dist (point_at c i) (point_at c (suc i))) (le_trans (bound i (omega arith)) (lit≤ tt))
      (arc_in i (omega arith))
      (grid_dist-within (point_at c i) (point_at c (suc i)) (h i) (h (suc i))))
    where
      next : (i : ℕ) → i * 2 ^ 14 + 2 ^ 14 ≡ suc i * 2 ^ 14
      next i = omega arith

      bound : (i : ℕ) → i ≤ 60 → i * 2 ^ 14 + 2 ^ 14 ≤ 2 ^ 20
      bound i l = omega arith

  pub arc-within : (i : ℕ) → i ≤ 60 → Within (2 ^ 20) (arc c i)
  arc-within i l = weaken (i * 2 ^ 14) (2 ^ 20) (arc c i) (top i l) (arc_in i l)
    where
      top : (i : ℕ) → i ≤ 60 → i * 2 ^ 14 ≤ 2 ^ 20
      top i l = omega arith
