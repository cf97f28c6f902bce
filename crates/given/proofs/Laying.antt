-- Marks put edge by edge into an array (`MarkedTo`), and that they are the ones that survive: the next kept place decides it.
use Prim.Native.Nat.{ℕ, suc, ◌+◌, ◌%◌, ◌≤◌, ◌<◌}
use native.Mathlib.Nat.{mod-lt}
use native.Mathlib.Omega.{arith}
use native.Mathlib.Numerals.{add-one}
use mathlib.Core.Path.{◌≡◌, refl, sym, ap, ◌∙◌}
use mathlib.Core.Bool.{Bool, true, false, cond}
use mathlib.Core.List.{List, ◌∷◌, [], ◌++◌}
use lib.Ieee.{Float}
use lib.ListN.{length, get_or, set, replicate, take, length-set}
use lib.Dec.{eqb}
use borrow.Author.Tests.{eq-eqb, eqb-true}
use lib.Seq.{length-take-le, get_or-take, take-set-le, get_or-set_same, get_or-set_other}
use Rattle.laws.specs.Table.{tab}
use Rattle.laws.proofs.Lists.{all_same}
use Rattle.laws.proofs.Search.{any_hit}
use Rattle.laws.proofs.Table.{get_d_tab, is_tab}
use Rattle.vector.specs.declared.GridPoint.{GridPoint}
use Rattle.vector.specs.declared.Point.{Point}
use Rattle.vector.specs.declared.Ring.{Ring}
use Rattle.vector.specs.Grid.{origin, at}
use Rattle.vector.specs.Rings.{points_of}
use Rattle.vector.proofs.Rings as rings
use Rattle.marks.specs.declared.EdgeMark.{EdgeMark}
use Rattle.marks.specs.declared.EdgeMark.TheVariants.{Straight, Snap}
use Rattle.marks.proofs.Edges.{marks-more}
use Rattle.clean.specs.declared.CleanedRing.{CleanedRing}
use Rattle.survivors.specs.Survivors.{survives, surviving}
use Rattle.survivors.proofs.Survivors.{surviving-many, surviving-at, survives-next}
use Rattle.outline.specs.Outline.{Segment}
use Rattle.nodes.specs.Flat.{node_in_of}
use Rattle.call.specs.Marked.{Marking, mark_of, lead_point, lead_line, given_mark, called_for}
use Rattle.given.specs.declared.lead.LeadLine.{LeadLine}
use Rattle.given.specs.Steps.{sought, OutlineRead, places_in, MarksOf, mark_left, MarkedTo, Survive}

-- a kept place is one of the ring's
module _ (ring : Ring) (kinds : List ℕ) (snaps : List Float) (c : CleanedRing) (h : MarksOf ring kinds snaps c) where
  pub places-many : length (places_in c) ≡ c.ring.count
  places-many = length-take-le c.ring.count c.places (omega (arith, h.count, h.room))

  pub place-low : (j : ℕ) → j < c.ring.count → get_or c.places j 0 < ring.count
  place-low j l =
      let e = get_or-take c.ring.count c.places j 0 l in
      let b = h.kept.below j (omega (arith, l, places-many)) in
      omega (arith, e, b)

pub marked_to_none : (f : ℕ → EdgeMark) → MarkedTo f 0 (replicate 60 Straight)
unfolding tab
marked_to_none f = record { marks = refl; unused = λ k h. all_same (λ x. x ≡ Straight) Straight 60 Straight refl refl k; places = refl }

pub marked_to_more : (f : ℕ → EdgeMark) (i : ℕ) (es : List EdgeMark) (e : EdgeMark) → MarkedTo f i es → i < 60 → e ≡ f i → MarkedTo f (i + 1) (set es i e)
unfolding tab
marked_to_more f i es e so l q =
    let m = take-set-le i es i e (omega arith) ∙ so.marks in
    let g = get_or-set_same es i e Straight (omega (arith, so.places)) ∙ q in
    record {
      marks = marks-more (set es i e) i (rw (length-set es i e) (omega (arith, so.places))) ∙ (λ j. m j ++ (g j ∷ [])) ∙ ap (tab f) (sym (add-one i));
      unused = λ k h. get_or-set_other es i k e Straight (λ q. omega arith) ∙ so.unused k (omega arith);
      places = length-set es i e ∙ so.places;
    }

-- the mark that the code lays, with the two kept places, the place after the first and the given point that it found
pub mark-next : (ring : Ring) (c : CleanedRing) (kinds : List ℕ) (snaps : List Float) (ss : List Segment) (j k kept after : ℕ) (p : Point)
    → k ≡ get_or c.places j 0 → kept ≡ get_or c.places ((j + 1) % c.ring.count) 0 → after ≡ (k + 1) % ring.count → p ≡ node_in_of snaps k
    → cond (eqb kept after) (mark_of (get_or kinds k 0) p (lead_point ss (get_or ring.points k origin) (get_or ring.points after origin))) Straight
    ≡ mark_left ring c kinds snaps ss j
mark-next ring c kinds snaps ss j k kept after p a b d e =
    let f : after ≡ (get_or c.places j 0 + 1) % ring.count = d ∙ ap (λ (k : ℕ). (k + 1) % ring.count) a in
    let g : p ≡ node_in_of snaps (get_or c.places j 0) = e ∙ ap (node_in_of snaps) a in
    λ i. cond (eqb (b i) (f i))
    (mark_of (get_or kinds (a i) 0) (g i) (lead_point ss (get_or ring.points (a i) origin) (get_or ring.points (f i) origin))) Straight

-- the outline's nearest point is looked at where the kind is 2 alone
mark-same : (kind : ℕ) (p q u : Point) → (kind ≡ 2 → q ≡ u) → mark_of kind p q ≡ mark_of kind p u
unfolding mark_of
mark-same kind p q u h = go (eqb kind 1) (eqb kind 2) refl
  where
    go : (a b : Bool) → eqb kind 2 ≡ b → cond a (Snap p) (cond b (Snap q) Straight) ≡ cond a (Snap p) (cond b (Snap u) Straight)
    go true b e = refl
    go false true e = ap Snap (h (eqb-true kind 2 e))
    go false false e = refl

module _ (ring : Ring) (c : CleanedRing) (g : Marking) (o : LeadLine) (h : MarksOf ring g.kinds g.snaps c)
    (t : OutlineRead g.kinds g.outline g.loops o) where
  abbrev r : List GridPoint
  r = points_of ring

  abbrev ks : List ℕ
  ks = places_in c

  abbrev ms : List EdgeMark
  ms = tab (given_mark g r) ring.count

  abbrev many : length ks ≡ c.ring.count
  many = places-many ring g.kinds g.snaps c h

  points-many : length r ≡ ring.count
  points-many = length-take-le ring.count ring.points (rings.room ring h.sheet)

  -- the mark given to the edge from place k
  given_is : (k : ℕ) → k < ring.count
      → mark_of (get_or g.kinds k 0) (node_in_of g.snaps k)
      (lead_point (sought o) (get_or ring.points k origin) (get_or ring.points ((k + 1) % ring.count) origin)) ≡ given_mark g r k
  unfolding given_mark called_for
  given_is k l =
      let f = rings.room ring h.sheet in
      let a = rings.at_in ring.points ring.count f (omega (arith, l)) k l in
      let b = rings.at_next ring.points ring.count f (omega (arith, l)) k ((k + 1) % ring.count) refl in
      mark-same (get_or g.kinds k 0) (node_in_of g.snaps k)
      (lead_point (sought o) (get_or ring.points k origin) (get_or ring.points ((k + 1) % ring.count) origin))
      (lead_point (lead_line g) (at r k) (at r (suc k)))
      (λ e.
      let s = t.is (any_hit (λ i. eqb (get_or g.kinds i 0) 2) k (length g.kinds) (omega (arith, l, h.marks)) (eq-eqb (get_or g.kinds k 0) 2 e)) in
      λ i. lead_point (s i) (sym a i) (sym b i))

  -- edge j after cleaning
  left_is : (j : ℕ) → j < c.ring.count
      → mark_left ring c g.kinds g.snaps (sought o) j ≡ cond (survives ring.count ks (get_or ks j 0)) (get_or ms (get_or ks j 0) Straight) Straight
  left_is j l =
      let k = get_or c.places j 0 in
      let low = place-low ring g.kinds g.snaps c h j l in
      let z : 1 ≤ c.ring.count = omega (arith, l) in
      let a : get_or ks j 0 ≡ k = get_or-take c.ring.count c.places j 0 l in
      let b : get_or ks ((j + 1) % c.ring.count) 0 ≡ get_or c.places ((j + 1) % c.ring.count) 0 =
      get_or-take c.ring.count c.places ((j + 1) % c.ring.count) 0 (mod-lt (j + 1) z) in
      let d : suc j % length ks ≡ (j + 1) % c.ring.count = (λ i. (sym (add-one j) i) % (many i)) in
      let s : survives ring.count ks (get_or ks j 0) ≡ eqb (get_or c.places ((j + 1) % c.ring.count) 0) ((k + 1) % ring.count) =
      survives-next ring.count ks h.kept j (omega (arith, l, many))
      ∙ (λ i. eqb ((ap (λ (x : ℕ). get_or ks x 0) d ∙ b) i) ((ap (λ (x : ℕ). suc x % ring.count) a ∙ ap (λ (x : ℕ). x % ring.count) (sym (add-one k))) i))
      in
      let m : get_or ms (get_or ks j 0) Straight ≡ given_mark g r k =
      ap (λ (x : ℕ). get_or ms x Straight) a ∙ get_d_tab (given_mark g r) ring.count k Straight low in
      λ i. cond (sym s i) ((given_is k low ∙ sym m) i) Straight

  pub survive : (es : List EdgeMark) → MarkedTo (mark_left ring c g.kinds g.snaps (sought o)) c.ring.count es → Survive g r ks es
  survive es so =
      let f = mark_left ring c g.kinds g.snaps (sought o) in
      let u : surviving Straight ring.count ks ms ≡ tab f c.ring.count =
      is_tab (surviving Straight ring.count ks ms) f c.ring.count Straight (surviving-many Straight ring.count ks ms ∙ many)
      (λ j l. surviving-at Straight ring.count ks ms j (omega (arith, l, many)) ∙ sym (left_is j l)) in
      let v : surviving Straight ring.count ks ms ≡ surviving Straight (length r) ks (tab (given_mark g r) (length r)) =
      ap (λ (x : ℕ). surviving Straight x ks (tab (given_mark g r) x)) (sym points-many) in
      record {
        marks = ap (λ (n : ℕ). take n es) many ∙ so.marks ∙ sym u ∙ v;
        unused = λ k l. so.unused k (omega (arith, l, many));
        places = so.places;
      }
