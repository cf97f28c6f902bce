-- A scan over the corners of a part that keeps the worst so far: one turn of it.
use Prim.Native.Nat.{ℕ, suc, ◌+◌, ◌-◌, ◌%◌, ◌<◌}
use native.Mathlib.Omega.{arith}
use mathlib.Core.Bool.{Bool, true, false, cond}
use mathlib.Core.Path.{◌≡◌, sym, ap, ◌∙◌}
use mathlib.Core.List.{List}
use native.Mathlib.Nat.{mod-eq_of_lt, add-mod_right}
use lib.ListN.{length, get_or}
use lib.Ieee.{Float}
use Rattle.laws.specs.Double.{◌≤f◌}
use Rattle.vector.specs.declared.GridPoint.{GridPoint}
use Rattle.vector.specs.Grid.{at, prev, sub, origin}
use Rattle.vector.proofs.Rings.{at_before}
use Rattle.corner.specs.Corner.{measure, measure_at, worst_to}

-- the corner before one, by its place
pub before : (l : List GridPoint) (i : ℕ) → 0 < i → i < length l → prev l i ≡ get_or l (i - 1) origin
before l i p h =
    let e : i + (length l - 1) ≡ i - 1 + length l = omega arith in
    at_before l i (i - 1) (sym (ap (λ (k : ℕ). k % length l) e ∙ add-mod_right (i - 1) (length l) ∙ mod-eq_of_lt (omega arith)))

pub before-first : (l : List GridPoint) → 0 < length l → prev l 0 ≡ get_or l (length l - 1) origin
before-first l h =
    let e : 0 + (length l - 1) ≡ length l - 1 = omega arith in
    at_before l 0 (length l - 1) (sym (ap (λ (k : ℕ). k % length l) e ∙ mod-eq_of_lt (omega arith)))

-- the measure of a corner, by its three points
pub by_points : (r : List GridPoint) (i : ℕ) (a b c : GridPoint)
    → prev r i ≡ a → at r i ≡ b → at r (suc i) ≡ c → (m : Float) → m ≡ measure (sub b a) (sub c b) → m ≡ measure_at r i
unfolding measure_at
by_points r i a b c ea eb ec m e =
    let da = sym ea in
    let db = sym eb in
    let dc = sym ec in
    e ∙ (λ j. measure (sub (db j) (da j)) (sub (dc j) (db j)))

-- one more corner seen
more : (r : List GridPoint) (i w : ℕ) → w ≡ worst_to r i
    → (t : Bool) → (measure_at r w ≤f measure_at r (suc i)) ≡ t → worst_to r (suc i) ≡ cond t (suc i) w
unfolding worst_to
more r i w e t h =
    let d = sym e in
    let k : (measure_at r (worst_to r i) ≤f measure_at r (suc i)) ≡ t = ap (λ (v : ℕ). measure_at r v ≤f measure_at r (suc i)) d ∙ h in
    λ j. cond (k j) (suc i) (d j)

-- a turn at the corner i, with the worst of those before it at w
module _ (r : List GridPoint) (i w : ℕ) (p : 0 < i) (most m : Float)
    (ew : w ≡ worst_to r (i - 1)) (em : most ≡ measure_at r w) (e : m ≡ measure_at r i) where
  turn : (t : Bool) → (most ≤f m) ≡ t → worst_to r (i + 1 - 1) ≡ cond t i w
  turn t h =
      let d : i + 1 - 1 ≡ suc (i - 1) = omega arith in
      let f : suc (i - 1) ≡ i = omega arith in
      let k : (measure_at r w ≤f measure_at r (suc (i - 1))) ≡ t = rw f (rw (← em, ← e) h) in
      rw d (more r (i - 1) w ew t k ∙ ap (λ (j : ℕ). cond t j w) f)

  pub taken : (most ≤f m) ≡ true → i ≡ worst_to r (i + 1 - 1)
  taken h = sym (turn true h)

  pub passed : (most ≤f m) ≡ false → w ≡ worst_to r (i + 1 - 1)
  passed h = sym (turn false h)
