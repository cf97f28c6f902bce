-- What the loop of simplify_chain has collected before the point i (`Collected`), and its turns: the point stays, with a snap
-- point, or it goes.
use Prim.Native.Nat.{ℕ, suc, ◌+◌, ◌-◌, ◌≤◌, ◌<◌}
use native.Mathlib.Numerals.{add-one}
use native.Mathlib.Omega.{arith}
use mathlib.Core.Path.{◌≡◌, refl, sym, ap, ◌∙◌}
use mathlib.Core.Bool.{Bool, true, false, cond}
use mathlib.Core.List.{List, [], ◌∷◌, ◌++◌}
use lib.ListN.{length, get_or, set, replicate, length-set}
use lib.Seq.{get_or-set_same, get_or-set_other}
use Rattle.laws.specs.Double.{lit, ◌+f◌, ◌*f◌}
use Rattle.laws.specs.Table.{tab}
use Rattle.laws.proofs.Lists.{all_set, all_same}
use Rattle.laws.proofs.Table.{tab_ext}
use Rattle.vector.specs.declared.GridPoint.{GridPoint}
use Rattle.vector.specs.declared.Point.{Point}
use Rattle.vector.specs.Grid.{origin}
use Rattle.vector.specs.Size.{OnSheet, AllOnSheet}
use Rattle.vector.proofs.Sheet.{origin_on}
use Rattle.arclength.specs.Arclength.{point_at, arc, point_at_arclength}
use Rattle.chain.specs.Chain as Chain
use Rattle.chain.specs.Chain.{Stretch, no_stretch}
use Rattle.chain.specs.Stretches.{stretch_in, stretches_in, nowhere, Simplifies}

-- w is the last point kept
pub record Collected (c : List GridPoint) (points : List GridPoint) (snaps : List Point) (count w i : ℕ) : Type 0 where
  pub last : w ≡ Chain.last_kept c (i - 1)
  pub low : w < i
  pub few : count < i
  pub places : length points ≡ 60
  pub rooms : length snaps ≡ 60
  pub start : get_or points 0 origin ≡ point_at c 0
  pub end : get_or points count origin ≡ point_at c w
  pub stretches : tab (stretch_in points snaps) count ≡ Chain.stretches_to c (i - 1)
  pub unused_points : (k : ℕ) → count < k → get_or points k origin ≡ origin
  pub unused_snaps : (k : ℕ) → count ≤ k → get_or snaps k nowhere ≡ nowhere
  pub on_sheet : AllOnSheet points

-- ---- one stretch more
-- in the arrays
stretch-more : (points : List GridPoint) (snaps : List Point) (k : ℕ) → k + 1 < length points → k < length snaps → (l : List Stretch)
    → tab (stretch_in points snaps) k ≡ l → (a b : GridPoint) (p : Point) → get_or points k origin ≡ a
    → tab (stretch_in (set points (k + 1) b) (set snaps k p)) (k + 1) ≡ l ++ (record { from = a; to = b; snap = p } ∷ [])
unfolding tab
stretch-more points snaps k h g l e a b p f =
    ap (tab (stretch_in ps ss)) (add-one k) ∙ (λ j. old j ++ (record { from = fr j; to = to j; snap = sn j } ∷ []))
  where
    ps : List GridPoint
    ps = set points (k + 1) b

    ss : List Point
    ss = set snaps k p

    old : tab (stretch_in ps ss) k ≡ l
    old =
        tab_ext (stretch_in ps ss) (stretch_in points snaps) k
        (λ i m.
        let x = get_or-set_other points (k + 1) i b origin (λ q. omega arith) in
        let y = get_or-set_other points (k + 1) (suc i) b origin (λ q. omega arith) in
        let z = get_or-set_other snaps k i p no_stretch.snap (λ q. omega arith) in
        λ j. record { from = x j; to = y j; snap = z j })
        ∙ e

    fr : get_or ps k origin ≡ a
    fr = get_or-set_other points (k + 1) k b origin (λ q. omega arith) ∙ f

    to : get_or ps (suc k) origin ≡ b
    to = ap (λ (m : ℕ). get_or ps m origin) (sym (add-one k)) ∙ get_or-set_same points (k + 1) b origin h

    sn : get_or ss k no_stretch.snap ≡ p
    sn = get_or-set_same snaps k p no_stretch.snap g

-- in the definition: one more point of the chain seen, with w the last kept before it
module _ (c : List GridPoint) (i w : ℕ) (p : 0 < i) (e : w ≡ Chain.last_kept c (i - 1)) where
  next : i + 1 - 1 ≡ suc (i - 1)
  next = omega arith

  back : suc (i - 1) ≡ i
  back = omega arith

  kept : (t : Bool) → Chain.stays c (i - 1) ≡ t → Chain.last_kept c (i + 1 - 1) ≡ cond t i w
  unfolding Chain.last_kept
  kept t h = let d = sym e in rw next (λ j. cond (h j) (back j) (d j))

  stretches : (t : Bool) → Chain.stays c (i - 1) ≡ t
      → Chain.stretches_to c (i + 1 - 1) ≡ cond t (Chain.stretches_to c (i - 1) ++ (Chain.stretch c w i ∷ [])) (Chain.stretches_to c (i - 1))
  unfolding Chain.stretches_to
  stretches t h =
      let d = sym e in
      let l = Chain.stretches_to c (i - 1) in
      rw next (λ j. cond (h j) (l ++ (Chain.stretch c (d j) (back j) ∷ [])) l)

  kept-taken : Chain.stays c (i - 1) ≡ true → i ≡ Chain.last_kept c (i + 1 - 1)
  kept-taken h = sym (kept true h)

  kept_passed : Chain.stays c (i - 1) ≡ false → w ≡ Chain.last_kept c (i + 1 - 1)
  kept_passed h = sym (kept false h)

  stretches-taken : Chain.stays c (i - 1) ≡ true → Chain.stretches_to c (i - 1) ++ (Chain.stretch c w i ∷ []) ≡ Chain.stretches_to c (i + 1 - 1)
  stretches-taken h = sym (stretches true h)

  stretches_passed : Chain.stays c (i - 1) ≡ false → Chain.stretches_to c (i - 1) ≡ Chain.stretches_to c (i + 1 - 1)
  stretches_passed h = sym (stretches false h)

-- ---- the loop
-- nothing stored
blank-points : (k : ℕ) → get_or (replicate 60 origin) k origin ≡ origin
blank-points = all_same (λ x. x ≡ origin) origin 60 origin refl refl

blank-snaps : (k : ℕ) → get_or (replicate 60 nowhere) k nowhere ≡ nowhere
blank-snaps = all_same (λ x. x ≡ nowhere) nowhere 60 nowhere refl refl

-- a chain of no point
pub none : (c : List GridPoint) → length c ≡ 0 → Simplifies c (record { points = replicate 60 origin; snaps = replicate 60 nowhere; count = 0 })
unfolding stretches_in Chain.simplify_chain Chain.stretches_to tab
none [] e = record {
  stretches = refl;
  start = refl;
  unused_points = λ k h. blank-points k;
  unused_snaps = λ k h. blank-snaps k;
  few = omega arith;
  on_sheet = all_same OnSheet origin 60 origin origin_on origin_on;
}
none (p ∷ c) e = absurd (omega (arith, e))

-- the first point is kept
pub kept-first : (c : List GridPoint) (a : GridPoint) → a ≡ point_at c 0 → OnSheet a → Collected c (set (replicate 60 origin) 0 a) (replicate 60 nowhere) 0 0 1
unfolding Chain.last_kept Chain.stretches_to tab
kept-first c a e h = record {
  last = refl;
  low = omega arith;
  few = omega arith;
  places = refl;
  rooms = refl;
  start = e;
  end = e;
  stretches = refl;
  unused_points = λ k l. get_or-set_other (replicate 60 origin) 0 k a origin (λ q. omega arith) ∙ blank-points k;
  unused_snaps = λ k l. blank-snaps k;
  on_sheet = all_set OnSheet origin (replicate 60 origin) 0 a (all_same OnSheet origin 60 origin origin_on origin_on) h;
}

module _ (c points : List GridPoint) (snaps : List Point) (count w i : ℕ) (kept : Collected c points snaps count w i) where
  -- the point i stays
  pub kept_more : i < 60 → Chain.stays c (i - 1) ≡ true → (b : GridPoint) → b ≡ point_at c i → OnSheet b → (p : Point)
      → p ≡ point_at_arclength c (lit 5 1 *f (arc c w +f arc c i))
      → Collected c (set points (count + 1) b) (set snaps count p) (count + 1) i (i + 1)
  unfolding Chain.stretch
  kept_more h t b eb ob p ep = record {
    last = kept-taken c i w (omega arith) kept.last t;
    low = omega arith;
    few = omega arith;
    places = simp length-set kept.places;
    rooms = simp length-set kept.rooms;
    start = get_or-set_other points (count + 1) 0 b origin (λ q. omega arith) ∙ kept.start;
    end = get_or-set_same points (count + 1) b origin (omega arith) ∙ eb;
    stretches =
        stretch-more points snaps count (omega arith) (omega arith) (Chain.stretches_to c (i - 1)) kept.stretches (point_at c w) b p kept.end
        ∙ (λ j. Chain.stretches_to c (i - 1) ++ (record { from = point_at c w; to = eb j; snap = ep j } ∷ []))
        ∙ stretches-taken c i w (omega arith) kept.last t;
    unused_points = λ k l. get_or-set_other points (count + 1) k b origin (λ q. omega arith) ∙ kept.unused_points k (omega arith);
    unused_snaps = λ k l. get_or-set_other snaps count k p nowhere (λ q. omega arith) ∙ kept.unused_snaps k (omega arith);
    on_sheet = all_set OnSheet origin points (count + 1) b kept.on_sheet ob;
  }

  -- it goes
  pub kept_same : Chain.stays c (i - 1) ≡ false → Collected c points snaps count w (i + 1)
  kept_same t = record {
    last = kept_passed c i w (omega arith) kept.last t;
    low = omega arith;
    few = omega arith;
    places = kept.places;
    rooms = kept.rooms;
    start = kept.start;
    end = kept.end;
    stretches = kept.stretches ∙ stretches_passed c i w (omega arith) kept.last t;
    unused_points = kept.unused_points;
    unused_snaps = kept.unused_snaps;
    on_sheet = kept.on_sheet;
  }

  -- no point is left
  pub kept_whole : i ≤ 60 → i ≡ length c → Simplifies c (record { points = points; snaps = snaps; count = count })
  unfolding stretches_in Chain.simplify_chain
  kept_whole h e = record {
    stretches = kept.stretches ∙ ap (λ (m : ℕ). Chain.stretches_to c (m - 1)) e;
    start = kept.start;
    unused_points = kept.unused_points;
    unused_snaps = kept.unused_snaps;
    few = omega arith;
    on_sheet = kept.on_sheet;
  }
