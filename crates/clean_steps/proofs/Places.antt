-- Points at places: each step of a pass leaves the points at the places that it keeps (`spaced_image`, `bent_image`), which
-- rise and are places of the ring (`spaced-rising`, `bent-rising`).
use Prim.Native.Nat.{ℕ, zero, suc, ◌+◌, ◌-◌, ◌≤◌, ◌<◌}
use native.Mathlib.Nat.{le_refl}
use native.Mathlib.Decide.{dec_le}
use native.Mathlib.Omega.{arith}
use mathlib.Core.Path.{◌≡◌, refl, sym, ap, ◌∙◌}
use mathlib.Core.Bool.{Bool, true, false, ◌||◌, not, cond}
use mathlib.Core.List.{List, [], ◌∷◌, ◌++◌, map, map-append}
use lib.ListN.{length, get_or, take, length-append, length-map, get_or-append}
use lib.Seq.{get_or_at, take-length}
use lib.Dec.{eqb}
use lib.Ieee.{Float}
use Rattle.std.proofs.lemmas.List.{get_or-map}
use Rattle.laws.specs.Table.{tab}
use Rattle.laws.proofs.Table.{take_tab}
use Rattle.vector.specs.declared.GridPoint.{GridPoint}
use Rattle.vector.specs.Grid.{origin}
use Rattle.nearness.specs.Nearness.{near}
use Rattle.clean_steps.specs.Steps.{spaced, flat, bent}
use Rattle.clean_steps.specs.Places.{pick, among, places, spaced_places, bent_places, Rising}

-- ---- what stands in a list at given places: the points of a ring, or places among places
module _ {A : Type 0} (d : A) (l : List A) where
  abbrev at_places : List ℕ → List A
  at_places ks = map (λ (k : ℕ). get_or l k d) ks

  pub choose_snoc : (ks : List ℕ) (k : ℕ) → at_places (ks ++ (k ∷ [])) ≡ at_places ks ++ (get_or l k d ∷ [])
  choose_snoc ks k = map-append (λ (k : ℕ). get_or l k d) ks (k ∷ [])

  choose_tab : (n : ℕ) → at_places (places n) ≡ tab (λ i. get_or l i d) n
  unfolding tab
  choose_tab zero = refl
  choose_tab (suc n) = choose_snoc (places n) n ∙ ap (λ (m : List A). m ++ (get_or l n d ∷ [])) (choose_tab n)

  pub choose-front : (n : ℕ) → n ≤ length l → at_places (places n) ≡ take n l
  choose-front n h = choose_tab n ∙ sym (take_tab l n d h)

  pub choose-all : at_places (places (length l)) ≡ l
  choose-all = choose-front (length l) (le_refl (length l)) ∙ take-length l

  -- places among places
  pub choose-among : (ks ws : List ℕ) → ((i : ℕ) → i < length ws → get_or ws i 0 < length ks)
      → map (λ (w : ℕ). get_or (at_places ks) w d) ws ≡ at_places (among ks ws)
  choose-among ks [] h = refl
  choose-among ks (w ∷ ws) h =
      let e = get_or-map (λ (k : ℕ). get_or l k d) ks w 0 d (h 0 (omega arith)) in
      let m = choose-among ks ws (λ i k. h (suc i) (omega arith)) in
      λ j. e j ∷ m j

-- ---- lists that rise
pub rising_none : (n : ℕ) → Rising n []
rising_none n = record { below = λ i h. absurd (omega arith); rising = λ i j h k. absurd (omega arith) }

pub rising_up : (m n : ℕ) (ks : List ℕ) → m ≤ n → Rising m ks → Rising n ks
rising_up m n ks l h = record { below = λ i k. let b = h.below i k in omega arith; rising = h.rising }

pub rising_snoc : (n : ℕ) (ks : List ℕ) → Rising n ks → Rising (suc n) (ks ++ (n ∷ []))
rising_snoc n ks h = record { below = low; rising = up }
  where
    size : length (ks ++ (n ∷ [])) ≡ length ks + 1
    size = length-append ks (n ∷ [])

    old : (i : ℕ) → i < length ks → get_or (ks ++ (n ∷ [])) i 0 ≡ get_or ks i 0
    old i l = get_or-append ks (n ∷ []) 0 i l

    new : (i : ℕ) → length ks ≡ i → get_or (ks ++ (n ∷ [])) i 0 ≡ n
    new i e = get_or_at ks n [] 0 i e

    low : (i : ℕ) → i < length (ks ++ (n ∷ [])) → get_or (ks ++ (n ∷ [])) i 0 < suc n
    low i l = go (dec_le (suc i) (length ks))
      where
        go : Dec (i < length ks) → get_or (ks ++ (n ∷ [])) i 0 < suc n
        go (yes u) = let e = old i u in let b = h.below i u in omega arith
        go (no u) = let q : length ks ≡ i = omega (arith, size, l) in let e = new i q in omega arith

    up : (i j : ℕ) → i < j → j < length (ks ++ (n ∷ [])) → get_or (ks ++ (n ∷ [])) i 0 < get_or (ks ++ (n ∷ [])) j 0
    up i j l m = go (dec_le (suc j) (length ks))
      where
        go : Dec (j < length ks) → get_or (ks ++ (n ∷ [])) i 0 < get_or (ks ++ (n ∷ [])) j 0
        go (yes u) = let a = old i (omega arith) in let b = old j u in let r = h.rising i j l u in omega arith
        go (no u) =
            let q : length ks ≡ j = omega (arith, size, m) in
            let v : i < length ks = omega arith in
            let a = old i v in
            let b = new j q in
            let r = h.below i v in
            omega arith

pub rising-places : (n : ℕ) → Rising n (places n)
unfolding tab
rising-places zero = rising_none 0
rising-places (suc n) = rising_snoc n (places n) (rising-places n)

-- ---- points at places
pick_snoc : (r : List GridPoint) (ks : List ℕ) (k : ℕ) → pick r (ks ++ (k ∷ [])) ≡ pick r ks ++ (get_or r k origin ∷ [])
pick_snoc r ks k = choose_snoc origin r ks k

pub pick-length : (r : List GridPoint) (ks : List ℕ) → length (pick r ks) ≡ length ks
pick-length r ks = length-map ks (λ (k : ℕ). get_or r k origin)

pub pick_all : (r : List GridPoint) → r ≡ pick r (places (length r))
pick_all r = sym (choose-all origin r)

pub pick-among : (r : List GridPoint) (ks ws : List ℕ) → ((i : ℕ) → i < length ws → get_or ws i 0 < length ks) → pick (pick r ks) ws ≡ pick r (among ks ws)
pick-among r ks ws h = choose-among origin r ks ws h

-- ---- the steps
module _ (tol : Float) where
  pub spaced_image : (r : List GridPoint) (i : ℕ) → spaced tol r i ≡ pick r (spaced_places tol r i)
  unfolding spaced spaced_places
  spaced_image r zero = refl
  spaced_image r (suc i) =
      let e = spaced_image r i in
      (λ j. cond (eqb (length (e j)) 0 || not (near tol (get_or (e j) (length (e j) - 1) origin) (get_or r i origin))) (e j ++ (get_or r i origin ∷ [])) (e j))
      ∙ go (eqb (length (pick r ks)) 0 || not (near tol (get_or (pick r ks) (length (pick r ks) - 1) origin) (get_or r i origin)))
    where
      ks : List ℕ
      ks = spaced_places tol r i

      go : (b : Bool) → cond b (pick r ks ++ (get_or r i origin ∷ [])) (pick r ks) ≡ pick r (cond b (ks ++ (i ∷ [])) ks)
      go true = sym (pick_snoc r ks i)
      go false = refl

  pub spaced-rising : (r : List GridPoint) (i : ℕ) → Rising i (spaced_places tol r i)
  unfolding spaced_places
  spaced-rising r zero = rising_none 0
  spaced-rising r (suc i) =
      go (eqb (length (pick r ks)) 0 || not (near tol (get_or (pick r ks) (length (pick r ks) - 1) origin) (get_or r i origin))) (spaced-rising r i)
    where
      ks : List ℕ
      ks = spaced_places tol r i

      go : (b : Bool) → Rising i ks → Rising (suc i) (cond b (ks ++ (i ∷ [])) ks)
      go true h = rising_snoc i ks h
      go false h = rising_up i (suc i) ks (omega arith) h

  pub bent_image : (r : List GridPoint) (i : ℕ) → bent tol r i ≡ pick r (bent_places tol r i)
  unfolding bent bent_places
  bent_image r zero = refl
  bent_image r (suc i) =
      let e = bent_image r i in
      (λ j. cond (flat tol r i) (e j) (e j ++ (get_or r i origin ∷ []))) ∙ go (flat tol r i)
    where
      ks : List ℕ
      ks = bent_places tol r i

      go : (b : Bool) → cond b (pick r ks) (pick r ks ++ (get_or r i origin ∷ [])) ≡ pick r (cond b ks (ks ++ (i ∷ [])))
      go true = refl
      go false = sym (pick_snoc r ks i)

  pub bent-rising : (r : List GridPoint) (i : ℕ) → Rising i (bent_places tol r i)
  unfolding bent_places
  bent-rising r zero = rising_none 0
  bent-rising r (suc i) = go (flat tol r i) (bent-rising r i)
    where
      ks : List ℕ
      ks = bent_places tol r i

      go : (b : Bool) → Rising i ks → Rising (suc i) (cond b ks (ks ++ (i ∷ [])))
      go true h = rising_up i (suc i) ks (omega arith) h
      go false h = rising_snoc i ks h
