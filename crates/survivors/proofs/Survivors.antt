-- A mark that survives stays on its edge: the edge of the cleaned ring that carries it has the two ring points that it had
-- (`surviving-edge`). There are as many marks as points (`surviving-many`). Whether a kept place's mark survives is told
-- by the next kept place alone (`survives-next`).
use Prim.Native.Nat.{ℕ, zero, suc, ◌%◌, ◌<◌}
use native.Mathlib.Nat.{mod-eq_of_lt, mod_self, mod-lt}
use native.Mathlib.Decide.{dec_le}
use native.Mathlib.Omega.{arith}
use mathlib.Core.Path.{◌≡◌, refl, sym, ap, ◌∙◌, subst}
use mathlib.Core.Bool.{Bool, true, false, ◌||◌, cond}
use mathlib.Core.List.{List, [], ◌∷◌}
use lib.ListN.{length, get_or, length-map}
use lib.Dec.{T, eqb, eqb→eq}
use lib.Ieee.Fits.{and_i, and_r}
use borrow.Author.Tests.{eq-eqb, ne_eqb}
use Rattle.laws.proofs.Booleans.{or_r}
use Rattle.vector.specs.declared.GridPoint.{GridPoint}
use Rattle.vector.specs.Grid.{origin, at}
use Rattle.std.proofs.lemmas.List.{get_or-map}
use Rattle.clean.specs.Clean.{clean_polygon}
use Rattle.clean.specs.Places.{pick, kept_places, Rising}
use Rattle.clean.proofs.Places.{pick-length, kept_image, kept-rising}
use Rattle.survivors.specs.Survivors.{is_in, survives, surviving}

pub surviving-many : {A : Type 0} (straight : A) (n : ℕ) (ks : List ℕ) (ms : List A) → length (surviving straight n ks ms) ≡ length ks
unfolding surviving
surviving-many straight n ks ms = length-map ks _

pub surviving-at : {A : Type 0} (straight : A) (n : ℕ) (ks : List ℕ) (ms : List A) (j : ℕ) → j < length ks
    → get_or (surviving straight n ks ms) j straight ≡ cond (survives n ks (get_or ks j 0)) (get_or ms (get_or ks j 0) straight) straight
unfolding surviving
surviving-at straight n ks ms j h = get_or-map _ ks j 0 straight h

-- ---- the place of a number that is in a list
record Found (i : ℕ) (ks : List ℕ) : Type 0 where
  place : ℕ
  low : place < length ks
  is : get_or ks place 0 ≡ i

found : (i : ℕ) (ks : List ℕ) → T (is_in i ks) → Found i ks
unfolding is_in
found i [] h = absurd h
found i (k ∷ ks) h = go (eqb i k) refl (λ t. found i ks t) h
  where
    go : (b : Bool) → eqb i k ≡ b → (T (is_in i ks) → Found i ks) → T (b || is_in i ks) → Found i (k ∷ ks)
    go true e more t = record { place = 0; low = omega arith; is = sym (eqb→eq i k (subst T (sym e) tt)) }
    go false e more t = let f = more t in record { place = suc f.place; low = omega (arith, f.low); is = f.is }

-- what stands in some place of a list is in it
is_in_lem : (i m : ℕ) (ks : List ℕ) → m < length ks → get_or ks m 0 ≡ i → T (is_in i ks)
unfolding is_in
is_in_lem i m [] l e = absurd (omega (arith, l))
is_in_lem i zero (k ∷ ks) l e = rw (eq-eqb i k (sym e)) tt
is_in_lem i (suc m) (k ∷ ks) l e = or_r (eqb i k) (is_in i ks) (is_in_lem i m ks (omega (arith, l)) e)

-- ---- the next place that is kept
module _ (n : ℕ) (ks : List ℕ) (h : Rising n ks) (j : ℕ) (l : j < length ks) where
  after : (s : T (survives n ks (get_or ks j 0))) → get_or ks (suc j % length ks) 0 ≡ suc (get_or ks j 0) % n
  unfolding survives
  after s = go (dec_le (suc (suc q)) n)
    where
      q : ℕ
      q = get_or ks j 0

      low : q < n
      low = h.below j l

      f : Found (suc q % n) ks
      f = found (suc q % n) ks (and_r (is_in q ks) (is_in (suc q % n) ks) s)

      m : ℕ
      m = f.place

      -- the next place is no other than the one found
      not_after : suc q < n → (suc j < m → ⊥)
      not_after k o =
          let e : suc q % n ≡ suc q = mod-eq_of_lt k in
          let a = h.rising j (suc j) (omega arith) (omega (arith, o, f.low)) in
          let b = h.rising (suc j) m o f.low in
          omega (arith, f.is, e, a, b)

      not-before : suc q < n → (m < suc j → ⊥)
      not-before k o = go2 (dec_le (suc m) j)
        where
          go2 : Dec (m < j) → ⊥
          go2 (yes u) =
              let e : suc q % n ≡ suc q = mod-eq_of_lt k in
              let a = h.rising m j u l in
              omega (arith, f.is, e, a)
          go2 (no u) =
              let e : suc q % n ≡ suc q = mod-eq_of_lt k in
              let z : m ≡ j = omega (arith, o, u) in
              let w : get_or ks m 0 ≡ q = ap (λ (x : ℕ). get_or ks x 0) z in
              omega (arith, f.is, e, w)

      go : Dec (suc q < n) → get_or ks (suc j % length ks) 0 ≡ suc q % n
      go (yes k) =
          let e : suc j ≡ m = trichotomy (suc j) m (not_after k) (not-before k) in
          let u : suc j < length ks = omega (arith, e, f.low) in
          ap (λ (x : ℕ). get_or ks x 0) (mod-eq_of_lt u ∙ e) ∙ f.is
        where
          trichotomy : (a b : ℕ) → (a < b → ⊥) → (b < a → ⊥) → a ≡ b
          trichotomy a b x y = go3 (dec_le (suc a) b) (dec_le (suc b) a)
            where
              go3 : Dec (a < b) → Dec (b < a) → a ≡ b
              go3 (yes u) v = absurd (x u)
              go3 (no u) (yes v) = absurd (y v)
              go3 (no u) (no v) = omega (arith, u, v)
      go (no k) =
          let e : suc q ≡ n = omega (arith, k, low) in
          let z : suc q % n ≡ 0 = ap (λ (x : ℕ). x % n) e ∙ mod_self n in
          let u : suc j ≡ length ks = last e in
          let w : suc j % length ks ≡ 0 = ap (λ (x : ℕ). x % length ks) u ∙ mod_self (length ks) in
          ap (λ (x : ℕ). get_or ks x 0) (w ∙ sym (zeroth (f.is ∙ z))) ∙ f.is
        where
          last : suc q ≡ n → suc j ≡ length ks
          last e = go4 (dec_le (suc (suc j)) (length ks))
            where
              go4 : Dec (suc j < length ks) → suc j ≡ length ks
              go4 (yes u) = let a = h.rising j (suc j) (omega arith) u in let b = h.below (suc j) u in absurd (omega (arith, e, a, b))
              go4 (no u) = omega (arith, u, l)

          zeroth : get_or ks m 0 ≡ 0 → m ≡ 0
          zeroth e = go5 (dec_le 1 m)
            where
              go5 : Dec (0 < m) → m ≡ 0
              go5 (yes u) = let a = h.rising 0 m u f.low in absurd (omega (arith, e, a))
              go5 (no u) = omega (arith, u)

  -- the mark of a kept place survives exactly if the next kept place is the next place of the ring
  pub survives-next : survives n ks (get_or ks j 0) ≡ eqb (get_or ks (suc j % length ks) 0) (suc (get_or ks j 0) % n)
  unfolding survives
  survives-next = go (survives n ks (get_or ks j 0)) refl
    where
      q : ℕ
      q = get_or ks j 0

      m : ℕ
      m = suc j % length ks

      go : (b : Bool) → survives n ks q ≡ b → b ≡ eqb (get_or ks m 0) (suc q % n)
      go true e = sym (eq-eqb (get_or ks m 0) (suc q % n) (after (subst T (sym e) tt)))
      go false e =
          sym (ne_eqb (get_or ks m 0) (suc q % n)
          (λ d. subst T e
          (and_i (is_in q ks) (is_in (suc q % n) ks) (is_in_lem q j ks l refl) (is_in_lem (suc q % n) m ks (mod-lt (suc j) (omega (arith, l))) d))))

-- ---- the edge
module _ (size : ℕ) (r : List GridPoint) (j : ℕ) (l : j < length (kept_places size r)) where
  abbrev ks : List ℕ
  ks = kept_places size r

  picked : (i : ℕ) → at (pick r ks) i ≡ get_or r (get_or ks (i % length ks) 0) origin
  unfolding at
  picked i =
      ap (λ (n : ℕ). get_or (pick r ks) (i % n) origin) (pick-length r ks)
      ∙ get_or-map (λ (k : ℕ). get_or r k origin) ks (i % length ks) 0 origin (mod-lt i (omega arith))

  pub surviving-edge : T (survives (length r) ks (get_or ks j 0))
      → (at (clean_polygon size r) j ≡ at r (get_or ks j 0)) × (at (clean_polygon size r) (suc j) ≡ at r (suc (get_or ks j 0)))
  unfolding at
  surviving-edge s =
      let c = kept_image size r in
      let g = kept-rising size r in
      let a : get_or ks (j % length ks) 0 ≡ get_or ks j 0 % length r = ap (λ (x : ℕ). get_or ks x 0) (mod-eq_of_lt l) ∙ sym (mod-eq_of_lt (g.below j l)) in
      let b = after (length r) ks g j l s in (
        (λ i. at (c i) j) ∙ picked j ∙ ap (λ (x : ℕ). get_or r x origin) a,
        (λ i. at (c i) (suc j)) ∙ picked (suc j) ∙ ap (λ (x : ℕ). get_or r x origin) b,
      )
