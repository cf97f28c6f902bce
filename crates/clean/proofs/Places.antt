-- The cleaned ring is the image of the kept places (`kept_image`), which rise and are places of the ring (`kept-rising`).
-- So each step of a pass leaves the points at the places that it keeps.
use Prim.Native.Nat.{ℕ, zero, suc, ◌≤◌, ◌<◌}
use native.Mathlib.Omega.{arith}
use mathlib.Core.Path.{◌≡◌, refl, ap, ◌∙◌, subst}
use mathlib.Core.Bool.{Bool, true, false, ◌&&◌, ◌||◌, cond}
use mathlib.Core.List.{List}
use lib.ListN.{length, get_or, take, length-map}
use lib.Seq.{get_or-take, length-take-le}
use lib.Dec.{leb, ltb, eqb}
use lib.Ieee.{Float}
use Rattle.std.proofs.lemmas.List.{get_or-map, take-map}
use Rattle.vector.specs.declared.GridPoint.{GridPoint}
use Rattle.vector.specs.Grid.{origin}
use Rattle.nearness.specs.Nearness.{tolerance}
use Rattle.clean.specs.Clean.{opened, bent, straightened, pass, passes, clean_polygon}
use Rattle.clean.specs.Places.{pick, among, places, spaced_places, bent_places, straightened_places, pass_places, passes_places, kept_places, Rising}
pub use Rattle.clean_steps.proofs.Places.{pick-length}
use Rattle.clean_steps.proofs.Places.{pick-among, pick_all, rising-places, spaced_image, spaced-rising, bent_image, bent-rising}
use Rattle.clean.proofs.Kept.{opened-most}

-- ---- lists that rise
rising-take : (n m : ℕ) (ks : List ℕ) → m ≤ length ks → Rising n ks → Rising n (take m ks)
rising-take n m ks l h = record {
  below = λ i k. let q : i < m = rw e at k in rw (get_or-take m ks i 0 q) (h.below i (omega arith));
  rising =
      λ i j k o. let q : j < m = rw e at o in let p : i < m = omega arith in rw (get_or-take m ks i 0 p, get_or-take m ks j 0 q) (h.rising i j k (omega arith));
}
  where
    e : length (take m ks) ≡ m
    e = length-take-le m ks l

rising-among : (n : ℕ) (ks ws : List ℕ) → Rising n ks → Rising (length ks) ws → Rising n (among ks ws)
rising-among n ks ws h g = record {
  below = λ i k. let q : i < length ws = rw e at k in rw (at i q) (h.below (get_or ws i 0) (g.below i q));
  rising = λ i j k o.
      let q : j < length ws = rw e at o in
      let p : i < length ws = omega arith in
      rw (at i p, at j q) (h.rising (get_or ws i 0) (get_or ws j 0) (g.rising i j k q) (g.below j q));
}
  where
    e : length (among ks ws) ≡ length ws
    e = length-map ws (λ (w : ℕ). get_or ks w 0)

    at : (i : ℕ) → i < length ws → get_or (among ks ws) i 0 ≡ get_or ks (get_or ws i 0) 0
    at i l = get_or-map (λ (w : ℕ). get_or ks w 0) ws i 0 0 l

-- ---- the steps of a pass
module _ (tol : Float) where
  pub straightened_image : (r : List GridPoint) → straightened tol r ≡ pick r (straightened_places tol r)
  unfolding straightened straightened_places
  straightened_image r =
      let e = bent_image tol r (length r) in
      let l : length (bent tol r (length r)) ≡ length ks = ap length e ∙ pick-length r ks in
      (λ j. cond (ltb 3 (length r) && leb 3 (l j)) (e j) (pick_all r j)) ∙ go (ltb 3 (length r) && leb 3 (length ks))
    where
      ks : List ℕ
      ks = bent_places tol r (length r)

      go : (b : Bool) → cond b (pick r ks) (pick r (places (length r))) ≡ pick r (cond b ks (places (length r)))
      go true = refl
      go false = refl

  pub straightened-rising : (r : List GridPoint) → Rising (length r) (straightened_places tol r)
  unfolding straightened_places
  straightened-rising r = go (ltb 3 (length r) && leb 3 (length (bent_places tol r (length r))))
    where
      go : (b : Bool) → Rising (length r) (cond b (bent_places tol r (length r)) (places (length r)))
      go true = bent-rising tol r (length r)
      go false = rising-places (length r)

  module _ (r : List GridPoint) where
    abbrev first : List ℕ
    first = spaced_places tol r (length r)

    abbrev left : ℕ
    left = opened tol (pick r first) (length first)

    abbrev pub front : List ℕ
    front = take left first

    pub front-rising : Rising (length r) front
    front-rising = rising-take (length r) left first (opened-most tol (pick r first) (length first)) (spaced-rising tol r (length r))

    pub straight-rising : Rising (length front) (straightened_places tol (pick r front))
    straight-rising = subst (λ (n : ℕ). Rising n (straightened_places tol (pick r front))) (pick-length r front) (straightened-rising (pick r front))

    pub pass_image : pass tol r ≡ pick r (pass_places tol r)
    unfolding pass pass_places
    pass_image =
        let e = spaced_image tol r (length r) in
        (λ j. straightened tol (take (opened tol (e j) (length (e j))) (e j)))
        ∙ ap (λ (n : ℕ). straightened tol (take (opened tol (pick r first) n) (pick r first))) (pick-length r first)
        ∙ ap (straightened tol) (take-map (λ (k : ℕ). get_or r k origin) left first)
        ∙ straightened_image (pick r front)
        ∙ pick-among r front (straightened_places tol (pick r front)) straight-rising.below

    pub pass-rising : Rising (length r) (pass_places tol r)
    unfolding pass_places
    pass-rising = rising-among (length r) front (straightened_places tol (pick r front)) front-rising straight-rising

  pub passes-rising : (d : ℕ) (r : List GridPoint) → Rising (length r) (passes_places d tol r)
  unfolding passes_places
  passes-rising zero r = rising-places (length r)
  passes-rising (suc d) r = go (ltb (length r) 3 || eqb (length ks) (length r)) (passes-rising d (pick r ks))
    where
      ks : List ℕ
      ks = pass_places tol r

      go : (b : Bool) → Rising (length (pick r ks)) (passes_places d tol (pick r ks))
          → Rising (length r) (cond b (places (length r)) (among ks (passes_places d tol (pick r ks))))
      go true h = rising-places (length r)
      go false h = rising-among (length r) ks (passes_places d tol (pick r ks)) (pass-rising r) (rw (pick-length r ks) at h)

  pub passes_image : (d : ℕ) (r : List GridPoint) → passes d tol r ≡ pick r (passes_places d tol r)
  unfolding passes passes_places
  passes_image zero r = pick_all r
  passes_image (suc d) r =
      let e = pass_image r in
      let l : length (pass tol r) ≡ length ks = ap length e ∙ pick-length r ks in
      let more = passes_image d (pick r ks) ∙ pick-among r ks (passes_places d tol (pick r ks)) (low (passes-rising d (pick r ks))) in
      (λ j. cond (ltb (length r) 3 || eqb (l j) (length r)) r (passes d tol (e j)))
      ∙ (λ j. cond (ltb (length r) 3 || eqb (length ks) (length r)) (pick_all r j) (more j))
      ∙ go (ltb (length r) 3 || eqb (length ks) (length r))
    where
      ks : List ℕ
      ks = pass_places tol r

      low : Rising (length (pick r ks)) (passes_places d tol (pick r ks)) → (i : ℕ) → i < length (passes_places d tol (pick r ks))
          → get_or (passes_places d tol (pick r ks)) i 0 < length ks
      low h i k = rw (← pick-length r ks) (h.below i k)

      go : (b : Bool) → cond b (pick r (places (length r))) (pick r (among ks (passes_places d tol (pick r ks))))
          ≡ pick r (cond b (places (length r)) (among ks (passes_places d tol (pick r ks))))
      go true = refl
      go false = refl

-- ---- the claims
pub kept_image : (size : ℕ) (r : List GridPoint) → clean_polygon size r ≡ pick r (kept_places size r)
unfolding clean_polygon kept_places
kept_image size r = passes_image (tolerance size) (suc (length r)) r

pub kept-rising : (size : ℕ) (r : List GridPoint) → Rising (length r) (kept_places size r)
unfolding kept_places
kept-rising size r = passes-rising (tolerance size) (suc (length r)) r
