-- Which points of a ring a step of cleaning keeps, by their places, and what kept places are. Each definition of places
-- follows the one of specs/Steps that it has its name from: the points at these places are what that one leaves (proofs/Places).
-- specs/KeptPlaces has the words for them as the code carries them.
use Rattle.std.specs.Prelude.{ℕ, zero, suc, ◌-◌, ◌≤◌, ◌<◌, ◌≡◌, ◌||◌, not, cond, List, [], ◌∷◌, ◌++◌, map, length, get_or, eqb, Float}
use Rattle.laws.specs.Table.{tab}
use Rattle.vector.specs.declared.GridPoint.{GridPoint}
use Rattle.vector.specs.Grid.{origin}
use Rattle.vector.specs.Size.{AllOnSheet}
use Rattle.vector.specs.Rings.{most_points}
use Rattle.nearness.specs.Nearness.{near}
use Rattle.clean_steps.specs.Steps.{flat}

-- the points of a ring at these places
abbrev pub pick : List GridPoint → List ℕ → List GridPoint
pick r ks = map (λ (k : ℕ). get_or r k origin) ks

-- of the places ks, those that stand in it at the places ws
abbrev pub among : List ℕ → List ℕ → List ℕ
among ks ws = map (λ (w : ℕ). get_or ks w 0) ws

-- all places of a ring of n points
abbrev pub places : ℕ → List ℕ
places n = tab (λ (i : ℕ). i) n

-- "drop a point within tolerance of the last kept one": the places kept of the first i
unfoldable pub spaced_places : Float → List GridPoint → ℕ → List ℕ
spaced_places tol r zero = []
spaced_places tol r (suc i) =
    let ks = spaced_places tol r i in
    let u = pick r ks in
    cond (eqb (length u) 0 || not (near tol (get_or u (length u - 1) origin) (get_or r i origin))) (ks ++ (i ∷ [])) ks

-- "mark all points .. and drop them together": the places left of the first i
unfoldable pub bent_places : Float → List GridPoint → ℕ → List ℕ
bent_places tol r zero = []
bent_places tol r (suc i) =
    let ks = bent_places tol r i in
    cond (flat tol r i) ks (ks ++ (i ∷ []))

-- places in rising order, each below n
pub record Rising (n : ℕ) (ks : List ℕ) : Type 0 where
  pub below : (i : ℕ) → i < length ks → get_or ks i 0 < n
  pub rising : (i j : ℕ) → i < j → j < length ks → get_or ks i 0 < get_or ks j 0

-- kept places of the ring, the first n of ks: n fits the array, every place in it, used or not, is one of the ring's, and the
-- ring's points are of the sheet
pub record ValidKeptPlaces (ring : List GridPoint) (ks : List ℕ) (n : ℕ) : Type 0 where
  pub count : n ≤ most_points
  pub size : length ks ≡ most_points
  pub low : (i : ℕ) → get_or ks i 0 < most_points
  pub room : length ring ≡ most_points
  pub points : AllOnSheet ring
