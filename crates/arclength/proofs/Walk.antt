-- A chain as the code reads it: one length more, the search for a length.
use Prim.Native.Nat.{ℕ, suc, ◌+◌, ◌-◌, ◌%◌, ◌≤◌, ◌<◌}
use native.Mathlib.Nat.{mod-eq_of_lt}
use native.Mathlib.Numerals.{add-one}
use native.Mathlib.Omega.{arith}
use mathlib.Core.Path.{◌≡◌, refl, sym, ap, ◌∙◌}
use mathlib.Core.Bool.{Bool, true, false, not, cond}
use mathlib.Core.List.{List}
use lib.ListN.{length, get_or, set, take, drop, replicate, length-drop}
use lib.Seq.{length-take-le, get_or-take, get_or-drop, drop-set-lt}
use Rattle.std.specs.List.{position, position_or_len}
use Rattle.std.specs.Option.{unwrap_or}
use Rattle.std.proofs.Common.{Some, None}
use Rattle.std.proofs.lemmas.Grind.{drop_more_same}
use Rattle.std.proofs.lemmas.List.{drop-replicate}
use Rattle.std.proofs.lemmas.List.Sums.{prefix_len-le-length}
use lib.Dec.{eqb, ltb}
use lib.Ieee.{Float, nan}
use borrow.Author.Tests.{eqb-false, ltb-false}
use Rattle.laws.specs.Double.{nat, clamp, ◌+f◌, ◌-f◌, ◌/f◌, ◌≤f◌}
use Rattle.laws.specs.Bounded.{first}
use Rattle.laws.specs.Table.{tab}
use Rattle.laws.proofs.Search.{first_ext, first_place}
use Rattle.laws.proofs.Table.{read_tab, get_d_tab, length_tab}
use Rattle.vector.specs.declared.GridPoint.{GridPoint}
use Rattle.vector.specs.declared.Point.{Point}
use Rattle.vector.specs.Grid.{origin}
use Rattle.vector.specs.Plane.{in_mm, lerp}
use Rattle.root.specs.Norm.{grid_dist}
use Rattle.root.proofs.Length.{grid_dist_comm}
use Rattle.arclength.specs.Arclength as Arclength
use Rattle.arclength.specs.Arclength.{point_at, step_to}
use Rattle.laws.proofs.Lists.{after_first}

-- ---- lengths
-- one length more, and 0 in the places after it
pub zeros-next : (l : List Float) (i : ℕ) (x : Float) → drop i l ≡ replicate (60 - i) (nat 0) → drop (i + 1) (set l i x) ≡ replicate (60 - (i + 1)) (nat 0)
zeros-next l i x h =
    drop-set-lt (i + 1) l i x (omega arith) ∙ drop_more_same l (replicate 60 (nat 0)) i (h ∙ sym (drop-replicate i 60 (nat 0)))
    ∙ drop-replicate (i + 1) 60 (nat 0)

module _ (c : List GridPoint) where
  back : (i : ℕ) → 0 < i → suc (i - 1) ≡ i
  back i p = omega arith

  -- one point more, the step to it of the length d
  module _ (i : ℕ) (d : Float) (e : d ≡ grid_dist (point_at c (i + 1)) (point_at c i)) where
    pub arc-next : (x : Float) → x ≡ Arclength.arc c i → x +f d ≡ Arclength.arc c (i + 1)
    unfolding Arclength.arc
    arc-next x f =
        let g = e ∙ grid_dist_comm (point_at c i) (point_at c (i + 1)) ∙ ap (λ (k : ℕ). grid_dist (point_at c i) (point_at c k)) (add-one i) in
        (λ j. f j +f g j) ∙ ap (Arclength.arc c) (sym (add-one i))

    pub step-next : d ≡ step_to c (i + 1)
    unfolding step_to
    step-next = e ∙ ap (λ (k : ℕ). grid_dist (point_at c k) (point_at c i)) (add-one i) ∙ ap (step_to c) (sym (add-one i))

  -- the step to the point i, and the step after it unless it is the last
  step-more : (i : ℕ) → 0 < i → (d : Float) → d ≡ grid_dist (point_at c i) (point_at c (i - 1)) → d ≡ step_to c i
  unfolding step_to
  step-more i p d ed =
      let f = back i p in
      ed ∙ ap (λ (k : ℕ). grid_dist (point_at c k) (point_at c (i - 1))) (sym f) ∙ ap (step_to c) f

  module _ (st : List Float) (n : ℕ) (e : take n st ≡ tab (step_to c) n) where
    pub step_in : (i : ℕ) → 0 < i → i < n → get_or st i nan ≡ grid_dist (point_at c i) (point_at c (i - 1))
    step_in i p l = read_tab st (step_to c) n i nan e l ∙ sym (step-more i p (grid_dist (point_at c i) (point_at c (i - 1))) refl)

    pub step_after : (i j : ℕ) → i < n → j ≡ (i + 1) % n → eqb (i + 1) n ≡ false → get_or st j nan ≡ grid_dist (point_at c j) (point_at c i)
    step_after i j l ej k =
        let z : i + 1 < n = let y = eqb-false (i + 1) n k in omega arith in
        let h : i + 1 - 1 ≡ i = omega arith in
        rw (ej ∙ mod-eq_of_lt z) (step_in (i + 1) (omega arith) z ∙ ap (λ (m : ℕ). grid_dist (point_at c (i + 1)) (point_at c m)) h)

-- the points after the first
pub after-first : (c : List GridPoint) (i : ℕ) → i < length c - 1 → get_or (take (length c - 1) (drop 1 c)) i origin ≡ point_at c (i + 1)
after-first c i h = after_first c (length c) i origin h

-- ---- the search for a length
found : {X : Type 0} (p : X → Bool) (xs : List X) → unwrap_or (position p xs) (length xs) ≡ position_or_len p xs
found p xs = go (ltb (position_or_len p xs) (length xs)) refl
  where
    go : (b : Bool) → ltb (position_or_len p xs) (length xs) ≡ b → unwrap_or (cond b (Some (position_or_len p xs)) None) (length xs) ≡ position_or_len p xs
    go true e = refl
    go false e = let h = ltb-false _ _ e in let k = prefix_len-le-length (λ x. not (p x)) xs in omega arith

-- the ends of the steps but the last are the lengths after the first, without the last
module _ (s : Float) (arc : List Float) (h : 2 ≤ length arc) where
  ends : List Float
  ends = take (length arc - 1 - 1) (drop 1 arc)

  many : length ends ≡ length arc - 2
  unfolding ends
  many = length-take-le (length arc - 1 - 1) (drop 1 arc) (rw (length-drop 1 arc) (omega arith)) ∙ omega arith

  pub first_end : (i : ℕ) → i ≡ unwrap_or (position (λ e. s ≤f e) (take (length arc - 1 - 1) (drop 1 arc))) (length (take (length arc - 1 - 1) (drop 1 arc)))
      → (i ≡ first (λ k. s ≤f get_or arc (suc k) nan) (length arc - 2) 0) × (i ≤ length arc - 2)
  unfolding ends
  first_end i e =
      let f = e ∙ found (λ x. s ≤f x) ends in
      let g : i ≡ first (λ k. s ≤f get_or ends k nan) (length arc - 2) 0 =
      f ∙ sym (first_place (λ x. s ≤f x) nan ends) ∙ ap (λ (n : ℕ). first (λ k. s ≤f get_or ends k nan) n 0) many in
      let q = prefix_len-le-length (λ x. not (s ≤f x)) ends in (
        g ∙ first_ext (λ k. s ≤f get_or ends k nan) (λ k. s ≤f get_or arc (suc k) nan) (length arc - 2) 0
            (λ k x y. ap (λ (z : Float). s ≤f z)
            (get_or-take (length arc - 1 - 1) (drop 1 arc) k nan (omega arith) ∙ get_or-drop 1 arc k nan ∙ ap (λ (m : ℕ). get_or arc m nan) (omega arith))),
        omega (arith, q, many, f),
      )

-- a list of the lengths of a chain is as long as the chain
pub as_long : (c : List GridPoint) (arc : List Float) → arc ≡ tab (Arclength.arc c) (length c) → length arc ≡ length c
as_long c arc e = ap length e ∙ length_tab (Arclength.arc c) (length c)

-- the point at a length, on the step from a, at the length low, to b, at the length high
abbrev pub on_step : GridPoint → Float → GridPoint → Float → Float → Point
on_step a low b high s =
    cond (high -f low ≤f nat 0) (in_mm b) (lerp (in_mm a) (in_mm b) (clamp (nat 0) (nat 1) ((s -f low) /f (high -f low))))

module _ (c : List GridPoint) (arc : List Float) (m : 2 ≤ length c) (e : arc ≡ tab (Arclength.arc c) (length c)) (s : Float) where
  read : (i : ℕ) → i < length c → get_or arc i nan ≡ Arclength.arc c i
  read i h = ap (λ (l : List Float). get_or l i nan) e ∙ get_d_tab (Arclength.arc c) (length c) i nan h

  pub at_length : (n i : ℕ) → n ≡ length c → i ≤ n - 2 → i ≡ first (λ i. s ≤f get_or arc (suc i) nan) (n - 2) 0 → (r : Point)
      → r ≡ on_step (get_or c i origin) (get_or arc i nan) (get_or c (i + 1) origin) (get_or arc (i + 1) nan) s → r ≡ Arclength.point_at_arclength c s
  unfolding Arclength.point_at_arclength
  at_length n i en l ei r er =
      let b = ap (point_at c) (add-one i) in
      let u = read i (omega arith) in
      let v = read (i + 1) (omega arith) ∙ ap (Arclength.arc c) (add-one i) in
      let g : i ≡ first (λ i. s ≤f Arclength.arc c (suc i)) (length c - 2) 0 =
      ei ∙ first_ext (λ i. s ≤f get_or arc (suc i) nan) (λ i. s ≤f Arclength.arc c (suc i)) (n - 2) 0
      (λ k x y. ap (λ (z : Float). s ≤f z) (read (suc k) (omega arith)))
      ∙ ap (λ (k : ℕ). first (λ i. s ≤f Arclength.arc c (suc i)) (k - 2) 0) en in
      er ∙ (λ j. on_step (point_at c i) (u j) (b j) (v j) s)
      ∙ ap (λ (k : ℕ). on_step (point_at c k) (Arclength.arc c k) (point_at c (suc k)) (Arclength.arc c (suc k)) s) g
