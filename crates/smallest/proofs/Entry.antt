-- Card 13 (`is_smallest`): of every ring that is answered 0, the choice gets the ring's own number, one of 5 to 8; it has at least 3 points; no choice with
-- that number has fewer, nor as many and a lower number. Before it the entry's tests in order.
use Prim.Native.Nat.{ℕ, ◌*◌, ◌-◌, ◌%◌, ◌^◌, ◌≤◌, ◌<◌}
use native.Mathlib.Nat.{mod-eq_of_lt}
use native.Mathlib.Omega.{arith}
use mathlib.Core.Path.{◌≡◌, refl, sym, ap, ◌∙◌, subst}
use mathlib.Core.Bool.{Bool, true, false, ◌&&◌, ◌||◌, cond}
use mathlib.Core.List.{List, [], ◌∷◌}
use lib.ListN.{length}
use lib.Seq.{take_all}
use lib.Pow.{pow_pos}
use lib.Dec.{T, ltb, eqb}
use lib.Ieee.Fits.{and_l, and_r}
use lib.Count.{ones, ones-ones}
use lib.IntN.{ℤ}
use borrow.Author.Tests.{ltb-false, le-ltb, ne_eqb, eqb-true}
use Rattle.laws.proofs.Table.{length_tab}
use Rattle.laws.proofs.Booleans.{is_true, neither}
use Rattle.limits.specs.declared.Limits.{Limits}
use Rattle.limits.specs.Limits.{delivered}
use Rattle.table.specs.Refusals.{Refusal, first_of, Passes}
use Rattle.call.specs.Call.{lists_of}
use Rattle.call.specs.Divide.{core, start_of}
use Rattle.call.specs.Lent.{Lent, call_of, divide_lent, odd, all_cells, tests_by, point_in}
use Rattle.call.proofs.Tests.{passed}
use Rattle.call.proofs.Course.{by_tests, refused-code}
use Rattle.lone_ring.specs.Number.{points, trial_lent, number_of}
use Rattle.choice.specs.Choice.{chosen}
use Rattle.choice.specs.Search.{IsLeast}
use Rattle.choice.proofs.Searching.{is-least, ends}
use Rattle.choice.proofs.Digits.{chosen-length, chosen-all}
use Rattle.least.specs.Trial.{trial_of, choice_of}
use Rattle.std.specs.Prelude.{Result, Ok, Err}
use Rattle.smallest.specs.declared.Smallest.{Smallest}
use Rattle.smallest.specs.declared.Refusal.{Refusal as Why}
use Rattle.smallest.specs.declared.Refusal.TheVariants.{Counts, Units, Points, Other}
use Rattle.smallest.specs.Smallest.{number_of_refusal, tested, refused, found, smallest_of, smallest_refused, IsSmallest}

-- the tests in order, as the code has them: `cond` by `cond` the row of what they answer
abbrev early : Bool → Bool → Bool → Bool → Result (Unit {0}) Why
early a b c d = cond a (Err Counts) (cond b (Err Units) (cond c (Err Points) (cond d (Err Other) (Ok tt))))

early-row : (a b c d : Bool) (e : Why) (s : Smallest) → Err e ≡ early a b c d
    → refused (number_of_refusal e) ≡ cond a (refused 1) (cond b (refused 2) (cond c (refused 18) (cond d (refused 19) s)))
early-row true b c d e s h = let q : e ≡ Counts = cc in ap (λ (e : Why). refused (number_of_refusal e)) q
early-row false true c d e s h = let q : e ≡ Units = cc in ap (λ (e : Why). refused (number_of_refusal e)) q
early-row false false true d e s h = let q : e ≡ Points = cc in ap (λ (e : Why). refused (number_of_refusal e)) q
early-row false false false true e s h = let q : e ≡ Other = cc in ap (λ (e : Why). refused (number_of_refusal e)) q
early-row false false false false e s h = cc

pub tested-passes : (w n : ℕ) (u : Unit {0}) → Ok u ≡ tested w n → (n ≤ 12) × (5 ≤ w) × (w ≤ 8)
unfolding tested
tested-passes w n u = go (eqb w 1) (eqb w 2) (ltb 12 n) (ltb w 5) (ltb 8 w) refl refl refl
  where
    go : (a b c d f : Bool) → ltb 12 n ≡ c → ltb w 5 ≡ d → ltb 8 w ≡ f → Ok u ≡ early a b c (d || f) → (n ≤ 12) × (5 ≤ w) × (w ≤ 8)
    go true b c d f p q r h = cc
    go false true c d f p q r h = cc
    go false false true d f p q r h = cc
    go false false false true f p q r h = cc
    go false false false false true p q r h = cc
    go false false false false false p q r h = (ltb-false 12 n p, ltb-false w 5 q, ltb-false 8 w r)

module _ (ring chain : List ℤ) (size w : ℕ) where
  pub tested-fails : (e : Why) → Err e ≡ tested w (points ring) → refused (number_of_refusal e) ≡ smallest_of ring chain size w
  unfolding tested smallest_of
  tested-fails e h = early-row (eqb w 1) (eqb w 2) (ltb 12 (points ring)) (ltb w 5 || ltb 8 w) e _ h

  pub among : points ring ≤ 12 → 5 ≤ w → w ≤ 8 → found w (choice_of ring chain size (points ring) w) ≡ smallest_of ring chain size w
  unfolding smallest_of
  among h d e =
      rw (ne_eqb w 1 (λ q. omega (arith, q, d)), ne_eqb w 2 (λ q. omega (arith, q, d)), le-ltb 12 (points ring) h, le-ltb w 5 d, le-ltb 8 w e)

-- ---- what holds of a ring that is given 0
zero-only : (ring chain : List ℤ) (size w : ℕ) → (smallest_of ring chain size w).code ≡ 0 → (points ring ≤ 12) × (5 ≤ w) × (w ≤ 8)
unfolding smallest_of
zero-only ring chain size w e = go (eqb w 1) (eqb w 2) (ltb 12 (points ring)) (ltb w 5) (ltb 8 w) refl refl refl e
  where
    go : (a b c d f : Bool) → ltb 12 (points ring) ≡ c → ltb w 5 ≡ d → ltb 8 w ≡ f
        → (cond a (refused 1) (cond b (refused 2) (cond c (refused 18) (cond (d || f) (refused 19) (found w (choice_of ring chain size (points ring) w)))))
        ).code ≡ 0
        → (points ring ≤ 12) × (5 ≤ w) × (w ≤ 8)
    go true b c d f p q r e = absurd (omega (arith, e))
    go false true c d f p q r e = absurd (omega (arith, e))
    go false false true d f p q r e = absurd (omega (arith, e))
    go false false false true f p q r e = absurd (omega (arith, e))
    go false false false false true p q r e = absurd (omega (arith, e))
    go false false false false false p q r e = (ltb-false 12 (points ring) p, ltb-false w 5 q, ltb-false 8 w r)

-- the choice of all the points is the ring, so that there is one to find
all-points : (ring chain : List ℤ) (size : ℕ) → points ring ≤ 12 → length ring % 2 ≡ 0
    → trial_of ring chain size (points ring) (2 ^ points ring - 1) ≡ number_of ring chain size
all-points ring chain size h e =
    let k : points ring * 2 ≡ length ring = omega arith in
    ap (λ (l : List ℤ). number_of l chain size)
    (chosen-all ring (points ring) h (points ring) (omega arith) (omega arith) ∙ take_all (points ring * 2) ring (omega arith))

module _ (ring chain : List ℤ) (size : ℕ) (few : points ring ≤ 12) (even : length ring % 2 ≡ 0) (many : 3 ≤ points ring) where
  pub least-choice : (w : ℕ) → number_of ring chain size ≡ w
      → IsLeast (trial_of ring chain size (points ring)) w (2 ^ points ring) 3 (choice_of ring chain size (points ring) w)
  least-choice w e =
      let t = trial_of ring chain size (points ring) in
      let o = ones-ones (points ring) in
      let p = pow_pos (points ring) in
      is-least t w (2 ^ points ring) (points ring - 2) 3
      (ends t w (2 ^ points ring) (points ring - 2) 3 (2 ^ points ring - 1) (omega (arith, p)) (omega (arith, o, many)) (omega (arith, o, many))
      (all-points ring chain size few even ∙ e))

-- ---- a number of 5 to 8 is given only past the entry's tests: the ring's numbers are two a point, of 3 points or more
abbrev apart : ℕ → Bool
apart n = ltb n 5 || ltb 8 n

abbrev all_apart : List Refusal → Bool
all_apart [] = true
all_apart (r ∷ rs) = apart r.number && all_apart rs

first-apart : (rs : List Refusal) → T (all_apart rs) → T (apart (first_of rs))
first-apart [] t = tt
first-apart (r ∷ rs) t = go r.test (first-apart rs (and_r (apart r.number) (all_apart rs) t))
  where
    go : (b : Bool) → T (apart (first_of rs)) → T (apart (cond b r.number (first_of rs)))
    go true h = and_l (apart r.number) (all_apart rs) t
    go false h = h

not-apart : (n : ℕ) → T (apart n) → 5 ≤ n → n ≤ 8 → ⊥
not-apart n t h k = subst T (let a = le-ltb n 5 h in let b = le-ltb 8 n k in λ j. a j || b j) t

past : (L : Limits) (l : Lent) → 5 ≤ (divide_lent L l).row.code → (divide_lent L l).row.code ≤ 8 → Passes (tests_by all_cells L l)
unfolding divide_lent
past L l =
    let c = call_of l in
    let x = lists_of c in
    let rs = tests_by all_cells L l in
    by_tests x rs (core L (length c.ring) (start_of c) x) (λ a. 5 ≤ a.row.code → a.row.code ≤ 8 → Passes rs) tt
    (λ t h k. let e = refused-code x (first_of rs) in absurd (not-apart (first_of rs) (first-apart rs tt) (omega (arith, e, h)) (omega (arith, e, k))))
    (λ p h k. p)

even-ring : (L : Limits) (l : Lent) → 5 ≤ (divide_lent L l).row.code → (divide_lent L l).row.code ≤ 8 → (length l.ring % 2 ≡ 0) × (3 ≤ points l.ring)
even-ring L l h k =
    let p = past L l h k in
    let e = eqb (length l.ring % 2) 0 in
    let o = neither (odd l.ring) (odd l.chain) p.0 in
    (eqb-true (length l.ring % 2) 0 (is_true e o.0), omega (arith, (passed L (call_of l) p.1).from, length_tab (point_in l.ring) (points l.ring)))

-- a ring that is given one of the four has a choice that gets it
pub has-least : (ring chain : List ℤ) (size w : ℕ) → w ≡ number_of ring chain size → points ring ≤ 12 → 5 ≤ w → w ≤ 8
    → choice_of ring chain size (points ring) w < 2 ^ points ring
unfolding number_of
has-least ring chain size w e few h k =
    let s = even-ring delivered (trial_lent ring chain size) (omega (arith, e, h)) (omega (arith, e, k)) in
    (least-choice ring chain size few s.0 s.1 w (sym e)).low

-- ---- Card 13
module _ (ring chain : List ℤ) (size : ℕ) (given : (smallest_refused ring chain size).code ≡ 0) where
  w : ℕ
  w = number_of ring chain size

  limits : (points ring ≤ 12) × (5 ≤ w) × (w ≤ 8)
  unfolding smallest_refused w
  limits = zero-only ring chain size (number_of ring chain size) given

  shape : (length ring % 2 ≡ 0) × (3 ≤ points ring)
  unfolding w number_of
  shape = even-ring delivered (trial_lent ring chain size) limits.1 limits.2

  is_found : smallest_refused ring chain size ≡ found w (choice_of ring chain size (points ring) w)
  unfolding smallest_refused w
  is_found = sym (among ring chain size w limits.0 limits.1 limits.2)

  choice : ℕ
  choice = choice_of ring chain size (points ring) w

  smallest : IsLeast (trial_of ring chain size (points ring)) w (2 ^ points ring) 3 choice
  unfolding w choice
  smallest = least-choice ring chain size limits.0 shape.0 shape.1 w refl

  -- a choice with that number has 3 points or more
  enough : (e : ℕ) → e < 2 ^ points ring → trial_of ring chain size (points ring) e ≡ w → 3 ≤ ones e
  unfolding w number_of
  enough e l q =
      let c = chosen ring e (points ring) in
      let h = even-ring delivered (trial_lent c chain size) (omega (arith, q, limits.1)) (omega (arith, q, limits.2)) in
      let n : length c ≡ ones e * 2 = chosen-length ring e (points ring) ∙ ap (λ (k : ℕ). ones k * 2) (mod-eq_of_lt l) in
      omega (arith, h.1, n)

  pub is_smallest : IsSmallest ring chain size (smallest_refused ring chain size)
  unfolding w choice
  is_smallest =
      subst (IsSmallest ring chain size) (sym is_found)
      (record {
        many = shape.1;
        few = limits.0;
        own = refl;
        four = (limits.1, limits.2);
        least = smallest;
        counted = refl;
        fewest = λ e l q. smallest.fewest e l (enough e l q) q;
        rings = chosen-length ring choice (points ring) ∙ ap (λ (k : ℕ). ones k * 2) (mod-eq_of_lt smallest.low);
      })
