-- 01, Corner: the measure, the bad corner and the worst.
use Rattle.std.specs.Prelude.{ℕ, zero, suc, ◌-◌, ◌<◌, Bool, true, false, ◌||◌, not, cond, List, ℤ, nat_abs, length, T, Float}
use Rattle.std.specs.Int.Signed.{non_neg}
use Rattle.laws.specs.Double.{nat, int, ◌+f◌, ◌-f◌, ◌/f◌, ◌<f◌, ◌≤f◌}
use Rattle.vector.specs.declared.GridPoint.{GridPoint}
use Rattle.vector.specs.Grid.{origin, sub, dot, cross, same, at, prev}
use Rattle.limits.specs.declared.Limits.{Limits}

-- "q = s / (|s| + |c|)"
unfoldable pub quotient : ℤ → ℤ → Float
quotient s c = int s /f (nat (nat_abs s) +f nat (nat_abs c))

-- "2 - q if c >= 0; q if c < 0 and s >= 0; 4 + q if c < 0 and s < 0; 2 if a step is zero": by whether a step is zero, c >= 0 and s >= 0
unfoldable pub by_quadrant : Bool → Bool → Bool → Float → Float
by_quadrant true c s q = nat 2
by_quadrant false true s q = nat 2 -f q
by_quadrant false false true q = q
by_quadrant false false false q = nat 4 +f q

-- "With s = cross and c = dot of the steps into and out of a corner": u and v
unfoldable pub measure : GridPoint → GridPoint → Float
measure u v =
    let s = cross u v in
    let c = dot u v in
    by_quadrant (same u origin || same v origin) (non_neg c) (non_neg s) (quotient s c)

-- "Bad: measure strictly above" the limit
unfoldable pub bad : Limits → Float → Bool
bad L m = L.corner <f m

-- the measure of corner i of a part
unfoldable pub measure_at : List GridPoint → ℕ → Float
measure_at r i = measure (sub (at r i) (prev r i)) (sub (at r (suc i)) (at r i))

-- of the corners 0 .. i, the worst: "Of equal worst, the last index"
unfoldable pub worst_to : List GridPoint → ℕ → ℕ
worst_to r zero = 0
worst_to r (suc i) =
    let w = worst_to r i in
    cond (measure_at r w ≤f measure_at r (suc i)) (suc i) w

unfoldable pub worst : List GridPoint → ℕ
worst r = worst_to r (length r - 1)

-- What the worst corner is (01, Words of demand 3): "the one that no other exceeds in measure, the last index of equal ones"
pub record Worst (r : List GridPoint) (v : ℕ) : Type 0 where
  pub place : v < length r
  pub above : (j : ℕ) → j < length r → T (not (measure_at r v <f measure_at r j))
  pub last : (j : ℕ) → v < j → j < length r → T (not (measure_at r v ≤f measure_at r j))
