-- Claim: a cleaned ring has no point that cleaning would still drop. To clean it again changes nothing (`clean_again`), and where
-- it has 3 points or more, each of the three kinds of drop finds nothing in it (`clean_at-rest`): no point is within tolerance
-- of the last kept one, which is the one before it; no final point is within tolerance of the first; and above 3 points no point
-- is flat: none is within tolerance of the segment joining its neighbours, unless the way turns back at it. One exception
-- stands in the rule itself: flat points stay where under 3 points would remain without them (`flat-left` is such a ring).
use Prim.Native.Nat.{ℕ, zero, suc, ◌≤◌, ◌<◌}
use native.Mathlib.Nat.{le_refl, eq-or-lt_of_le}
use native.Mathlib.Omega.{arith}
use mathlib.Core.Path.{◌≡◌, refl, sym, ap, ◌∙◌}
use mathlib.Core.Logic.{◌⊎◌, inl, inr, ⊎_elim}
use mathlib.Core.Bool.{Bool, true, false, ◌&&◌, ◌||◌, cond}
use mathlib.Core.List.{List, [], ◌∷◌, ◌++◌}
use lib.ListN.{length, get_or, take, length-take, length-append}
use lib.Seq.{length-take-le, take-length}
use lib.Dec.{ltb, leb, eqb}
use lib.IntN.{pos}
use lib.Ieee as Ieee
use lib.Ieee.{Float}
use borrow.Author.Tests.{lt-ltb, leb-false, eq-eqb}
use Rattle.laws.specs.Double.{lit, clamp}
use Rattle.laws.specs.Units as Units
use Rattle.laws.proofs.Booleans.{or-true}
use Rattle.vector.specs.declared.GridPoint.{GridPoint}
use Rattle.vector.specs.Grid as Grid
use Rattle.vector.specs.Grid.{origin}
use Rattle.vector.specs.Plane as Plane
use Rattle.root.specs.Root.{in_root}
use Rattle.root.specs.Norm.{norm, dist, grid_norm, grid_dist}
use Rattle.nearness.specs.Nearness.{tolerance, near, point_segment_distance, is_flat}
use Rattle.clean.specs.Clean.{spaced, opened, flat, bent, straightened, pass, passes, clean_polygon}
use Rattle.clean.proofs.Kept.{sub-length, sub_same, spaced-kept, opened-most, bent-kept, straightened-kept}
use Rattle.clean.proofs.Settled.{Settled, stops, clean_settled, passes-last}
use Rattle.clean.proofs.Apart.{Apart, settled_apart}

-- no drop of a pass finds anything in r
pub record AtRest (tol : Float) (r : List GridPoint) : Type 0 where
  pub pass_keeps : pass tol r ≡ r
  pub spaced_keeps : spaced tol r (length r) ≡ r
  pub opened_keeps : opened tol r (length r) ≡ length r
  pub straightened_keeps : straightened tol r ≡ r
  pub steps_apart : Apart tol r
  pub none_flat : 3 < length r → ((i : ℕ) → i < length r → flat tol r i ≡ false) ⊎ (length (bent tol r (length r)) < 3)

module _ (tol : Float) (r : List GridPoint) where
  -- the points kept are all that there are: none is flat
  bent-none : (n : ℕ) → n ≤ length r → length (bent tol r n) ≡ n → (i : ℕ) → i < n → flat tol r i ≡ false
  unfolding bent
  bent-none zero h e i l = absurd (omega arith)
  bent-none (suc n) h e i l = go (flat tol r n) refl e (λ k m. bent-none n (omega arith) k i m)
    where
      most : length (bent tol r n) ≤ n
      most = omega (arith, sub-length (bent-kept tol r n (omega arith)), length-take-le n r (omega arith))

      go : (b : Bool) → flat tol r n ≡ b → length (cond b (bent tol r n) (bent tol r n ++ (get_or r n origin ∷ []))) ≡ suc n
          → (length (bent tol r n) ≡ n → i < n → flat tol r i ≡ false) → flat tol r i ≡ false
      go true f e c = absurd (omega (arith, e, most))
      go false f e c =
          let k : length (bent tol r n) ≡ n = omega (arith, e, length-append (bent tol r n) (get_or r n origin ∷ [])) in
          ⊎_elim (λ (q : suc i ≡ suc n). ap (flat tol r) (omega arith) ∙ f) (λ (q : suc i < suc n). c k (omega arith)) (eq-or-lt_of_le l)

  straight_none : straightened tol r ≡ r → 3 < length r → ((i : ℕ) → i < length r → flat tol r i ≡ false) ⊎ (length (bent tol r (length r)) < 3)
  unfolding straightened
  straight_none e l =
      go (leb 3 (length (bent tol r (length r)))) refl
      (ap (λ (b : Bool). cond (b && leb 3 (length (bent tol r (length r)))) (bent tol r (length r)) r) (sym (lt-ltb 3 (length r) l)) ∙ e)
    where
      go : (b : Bool) → leb 3 (length (bent tol r (length r))) ≡ b → cond (true && b) (bent tol r (length r)) r ≡ r
          → ((i : ℕ) → i < length r → flat tol r i ≡ false) ⊎ (length (bent tol r (length r)) < 3)
      go true f e = inl (bent-none (length r) (le_refl (length r)) (ap length e))
      go false f e = inr (omega (arith, leb-false 3 (length (bent tol r (length r))) f))

  pub settled_at-rest : 3 ≤ length r → Settled tol r → AtRest tol r
  unfolding pass
  settled_at-rest h (inl l) = absurd (omega (arith, l))
  settled_at-rest h (inr e) =
      let u = spaced tol r (length r) in
      let k = opened tol u (length u) in
      let v = take k u in
      let s = sub-length (straightened-kept tol v) in
      let l = length-take k u in
      let o = opened-most tol u (length u) in
      let m = sub-length (spaced-kept tol r (length r) (le_refl (length r))) in
      let t = ap length (take-length r) in
      let c = ap length e in
      let a : length u ≡ length (take (length r) r) = omega (arith, s, l, o, m, c, t) in
      let b : k ≡ length u = omega (arith, s, l, o, m, c, t) in
      let w : u ≡ r = sub_same (spaced-kept tol r (length r) (le_refl (length r))) a ∙ take-length r in
      let x : v ≡ r = ap (λ (n : ℕ). take n u) b ∙ take-length u ∙ w in
      let y : straightened tol r ≡ r = ap (straightened tol) (sym x) ∙ e in
      record {
        pass_keeps = e;
        spaced_keeps = w;
        opened_keeps = ap (λ (p : List GridPoint). opened tol p (length p)) (sym w) ∙ b ∙ ap length w;
        straightened_keeps = y;
        steps_apart = settled_apart tol r h (inr e);
        none_flat = straight_none y;
      }

module _ (size : ℕ) (r : List GridPoint) where
  pub clean_at-rest : 3 ≤ length (clean_polygon size r) → AtRest (tolerance size) (clean_polygon size r)
  clean_at-rest h = settled_at-rest (tolerance size) (clean_polygon size r) h (clean_settled size r)

  pub clean_again : clean_polygon size (clean_polygon size r) ≡ clean_polygon size r
  unfolding clean_polygon
  clean_again = again (clean_polygon size r) (clean_settled size r)
    where
      stopped : (c : List GridPoint) → Settled (tolerance size) c → stops (tolerance size) c ≡ true
      stopped c (inl l) = ap (λ (b : Bool). b || eqb (length (pass (tolerance size) c)) (length c)) (lt-ltb (length c) 3 l)
      stopped c (inr e) =
          ap (λ (b : Bool). ltb (length c) 3 || b) (eq-eqb (length (pass (tolerance size) c)) (length c) (ap length e)) ∙ or-true (ltb (length c) 3)

      again : (c : List GridPoint) → Settled (tolerance size) c → clean_polygon size c ≡ c
      again c s = passes-last (tolerance size) (length c) c (stopped c s)

-- ---- the exception: four points in units, on a sheet of 1,024 mm, whose tolerance is 0.84 units. Two of them are flat
abbrev pub sliver : List GridPoint
sliver = corner 0 0 ∷ corner 1 0 ∷ corner 2 1 ∷ corner 1 1 ∷ []
  where
    corner : ℕ → ℕ → GridPoint
    corner x y = record { x = pos x; y = pos y }

pub flat-left : (clean_polygon 1024 sliver ≡ sliver) × (flat (tolerance 1024) sliver 1 ≡ true) × (flat (tolerance 1024) sliver 3 ≡ true)
unfolding tolerance near spaced opened point_segment_distance is_flat flat bent straightened pass passes clean_polygon norm dist
    grid_norm grid_dist in_root Units.mm Units.mm² Grid.sub Grid.dot Grid.same Grid.at Grid.prev Plane.in_mm Plane.sub
    Plane.dot Plane.lerp lit clamp Ieee.add Ieee.sub Ieee.mul Ieee.div Ieee.lt Ieee.le Ieee.of_int Ieee.round Ieee.size
    Ieee.units
flat-left = (refl, refl, refl)
