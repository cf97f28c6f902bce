-- Whether a box's span of x holds the x of one of some nodes, and its span of y the y of one, side by side in a mask: a turn of `any_near`
-- (`step`), and why a node in the box shows in the mask (`none-in`).
use Prim.Native.Nat.{ℕ, ◌+◌, ◌-◌, ◌*◌, ◌%◌, ◌^◌, ◌<◌}
use native.Mathlib.Omega.{arith}
use mathlib.Core.Path.{◌≡◌, refl, sym, ap, ◌∙◌, subst}
use mathlib.Core.Bool.{Bool, true, false, cond, ◌&&◌, ◌||◌}
use mathlib.Core.List.{List, [], ◌∷◌, map}
use lib.Bits.{bit_and, bit_or}
use lib.Dec.{T, eqb}
use lib.ListN.{length, get_or}
use lib.Lanes.{zip2, mask_l, top}
use lib.Ieee.{Float, nan, le}
use Rattle.laws.specs.Bounded.{any}
use Rattle.laws.proofs.Booleans.{and_both}
use Rattle.laws.proofs.Search.{any_hit, any_next}
use Rattle.nodes.specs.declared.nearby.RingBox.{RingBox}
use Rattle.nodes.specs.Nearby.{in_span, in_box}

-- all bits of a lane where a test holds, and none where not
abbrev lane : Bool → ℕ
lane b = cond b (2 ^ 64 - 1) 0

abbrev compared : List Float → List Float → List ℕ
compared = zip2 (λ a b. cond (le a b) (2 ^ 64 - 1) 0)

module _ (w : RingBox) (l : List Float) where
  abbrev x_in : ℕ → Bool
  x_in j = in_span w.x (get_or l (j * 2) nan)

  abbrev y_in : ℕ → Bool
  y_in j = in_span w.y (get_or l (j * 2 + 1) nan)

  -- of the first n nodes
  abbrev pub reached : ℕ → List ℕ
  reached n = lane (any x_in n) ∷ lane (any y_in n) ∷ []

  lane-more : (a b c : Bool) → bit_or (lane a) (bit_and (lane b) (lane c)) ≡ lane (a || (b && c))
  lane-more true true true = refl
  lane-more true true false = refl
  lane-more true false true = refl
  lane-more true false false = refl
  lane-more false true true = refl
  lane-more false true false = refl
  lane-more false false true = refl
  lane-more false false false = refl

  -- node n more, whose coordinates are p
  pub step : (n : ℕ) (p : List Float) → length p ≡ 2 → ((c : ℕ) → c < 2 → get_or p c nan ≡ get_or l (n * 2 + c) nan) → (m : List ℕ) → m ≡ reached n
      → zip2 bit_or m (zip2 bit_and (compared (w.x.lo ∷ w.y.lo ∷ []) p) (compared p (w.x.hi ∷ w.y.hi ∷ []))) ≡ reached (n + 1)
  step n [] h e m i = absurd (omega (arith, h))
  step n (x ∷ []) h e m i = absurd (omega (arith, h))
  step n (x ∷ y ∷ z ∷ p) h e m i = absurd (omega (arith, h))
  step n (x ∷ y ∷ []) h e m i =
      let z : n * 2 + 0 ≡ n * 2 = omega arith in
      let a : x ≡ get_or l (n * 2) nan = e 0 (omega arith) ∙ ap (λ (k : ℕ). get_or l k nan) z in
      let b : y ≡ get_or l (n * 2 + 1) nan = e 1 (omega arith) in
      (λ j. zip2 bit_or (i j) (zip2 bit_and (compared (w.x.lo ∷ w.y.lo ∷ []) (x ∷ y ∷ [])) (compared (x ∷ y ∷ []) (w.x.hi ∷ w.y.hi ∷ []))))
      ∙ (λ j. lane-more (any x_in n) (le w.x.lo x) (le x w.x.hi) j ∷ lane-more (any y_in n) (le w.y.lo y) (le y w.y.hi) j ∷ [])
      ∙ (λ j. lane (any_next x_in n (any x_in n) (in_span w.x x) refl (ap (in_span w.x) a) j)
      ∷ lane (any_next y_in n (any y_in n) (in_span w.y y) refl (ap (in_span w.y) b) j) ∷ [])

  -- where one of the two is not reached, none of the nodes is in the box
  pub none-in : (n : ℕ) (m : List ℕ) → m ≡ reached n → eqb (mask_l (map (top 63) m) % 2 ^ 64) 3 ≡ false
      → (j : ℕ) → j < n → in_box w (get_or l (j * 2) nan) (get_or l (j * 2 + 1) nan) ≡ false
  none-in n m i e j k = go (in_box w (get_or l (j * 2) nan) (get_or l (j * 2 + 1) nan)) refl
    where
      yes : (b : Bool) → T b → b ≡ true
      yes true t = refl
      yes false t = absurd t

      go : (b : Bool) → in_box w (get_or l (j * 2) nan) (get_or l (j * 2 + 1) nan) ≡ b → b ≡ false
      go false q = refl
      go true q =
          let u = and_both (x_in j) (y_in j) (subst T (sym q) tt) in
          sym (λ t.
          eqb (mask_l (map (top 63) (lane (any_hit x_in j n k (yes (x_in j) u.0) t) ∷ lane (any_hit y_in j n k (yes (y_in j) u.1) t) ∷ [])) % 2 ^ 64) 3)
          ∙ sym (λ t. eqb (mask_l (map (top 63) (i t)) % 2 ^ 64) 3) ∙ e
