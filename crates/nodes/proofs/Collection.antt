-- The collected nodes: they stay the same while the list grows, and what they decide is what the whole scan finds.
use mathlib.Core.Path.{◌≡◌, refl, sym, ap, ◌∙◌, subst}
use mathlib.Core.List.{List, [], ◌∷◌, map}
use Prim.Native.Nat.{ℕ, zero, suc, ◌+◌, ◌-◌, ◌≤◌, ◌<◌}
use native.Mathlib.Nat.{zero-add, not-suc-le-zero, le_of_suc-le-suc}
use native.Mathlib.Omega.{arith}
use mathlib.Core.Bool.{Bool, true, ◌&&◌}
use lib.IntN.{ℤ}
use lib.Dec.{T, leb, leb→le}
use lib.ListN.{length, get_or}
use lib.Seq.{get_or-take, length-take-le}
use lib.Ieee.{Float, nan}
use lib.Ieee.Fits.{and_i, and_l, and_r}
use Rattle.laws.specs.Bounded.{first}
use Rattle.laws.specs.Integer.{eq_z}
use Rattle.laws.proofs.Booleans.{bool_ext}
use Rattle.laws.proofs.SignedTests.{eq_z→}
use Rattle.laws.proofs.Search.{first-within, first-beyond}
use Rattle.vector.specs.declared.Point.{Point}
use Rattle.keys.specs.Keys.{key}
use Rattle.nodes.specs.Nodes.{number}
use Rattle.nodes.specs.Growth.{InRange, Grown}
use Rattle.keys.specs.declared.SoughtKey.{SoughtKey}
use Rattle.nodes.specs.Flat.{node_in_of, nodes_in, over, Usable, has_at}
use Rattle.keys.specs.Keys.{sought_key, key_of, Sought}
use Rattle.nodes.proofs.Flat.{length_in, node_in, at-over}
use Rattle.nodes.specs.declared.nearby.Span.{Span}
use Rattle.nodes.specs.declared.nearby.RingBox.{RingBox}
use Rattle.nodes.specs.declared.nearby.Nearby.{Nearby}
use Rattle.nodes.specs.Nearby.{most_nearby, Spans, Framed, inside_at, inside, xs_of, surrounds, CollectedOf, ValidNearby, NearbyLists, has_listed}
use Rattle.nodes.specs.Nearby.{strictly, in_span, well_in}
use Rattle.nodes.specs.Nearby.{well_inside}
use Rattle.nodes.proofs.Scan.{has-is, fewer, found-is}
use Rattle.keys.proofs.Rounding.{wider}
use Rattle.nodes.proofs.Spans.{in_span_lem, well_in_lem}
use Rattle.keys.proofs.Skip.{scaled-of}
use Rattle.nodes.proofs.Chosen.{chosen_ext, below, listed, unlisted}

T→true : (b : Bool) → T b → b ≡ true
T→true b t = bool_ext b true (λ z. tt) (λ z. t)

-- ---- what is read of each
map_at : (f : ℕ → Float) (e : Float) (l : List ℕ) (j : ℕ) → j < length l → get_or (map f l) j e ≡ f (get_or l j 0)
map_at f e [] j h = absurd (not-suc-le-zero h)
map_at f e (x ∷ l) zero h = refl
map_at f e (x ∷ l) (suc j) h = map_at f e l j (le_of_suc-le-suc h)

map_ext : (f g : ℕ → Float) (l : List ℕ) → ((j : ℕ) → j < length l → f (get_or l j 0) ≡ g (get_or l j 0)) → map f l ≡ map g l
map_ext f g [] h = refl
map_ext f g (x ∷ l) h = λ i. h 0 (omega arith) i ∷ map_ext f g l (λ j k. h (suc j) (omega arith)) i

-- ---- it stays true while the first places keep their nodes
same-inside : (l m : List Float) (w : RingBox) (i : ℕ) → node_in_of l i ≡ node_in_of m i → inside_at w l i ≡ inside_at w m i
unfolding inside_at
same-inside l m w i e = ap (λ (p : Point). in_span w.x p.x && in_span w.y p.y) e

later : (l m : List Float) (w : RingBox) (n count : ℕ) (numbers : List ℕ) (xs : List Float) → ((i : ℕ) → i < n → node_in_of m i ≡ node_in_of l i)
    → CollectedOf l w n numbers xs count → CollectedOf m w n numbers xs count
later l m w n count numbers xs h c =
    let k : (i : ℕ) → i < n → node_in_of l i ≡ node_in_of m i = (λ i u. sym (h i u)) in
    let e : inside w l n ≡ inside w m n = chosen_ext (inside_at w l) (inside_at w m) n 0 (λ i u. same-inside l m w i (k i (omega (arith, u)))) in
    record {
      places = c.places;
      places_x = c.places_x;
      few = c.few;
      are = c.are ∙ e;
      are_x =
          c.are_x ∙ map_ext (λ i. (node_in_of l i).x) (λ i. (node_in_of m i).x) (inside w l n)
          (λ j u. ap (λ (p : Point). p.x) (k (get_or (inside w l n) j 0) (omega (arith, below (inside_at w l) n 0 j u)))) ∙ ap (xs_of m) e;
    }

-- so while the list grows
held_grown : {P : Point → Type 0} (l : List Float) (used : ℕ) (ns : List Point) (c : Nearby) (numbers : List ℕ) (xs : List Float) → Grown P (nodes_in l used) ns
    → ValidNearby l used c numbers xs → ValidNearby (over l ns) (length ns) c numbers xs
held_grown l used ns c numbers xs g k =
    let h = length_in l used in
    record {
      old = omega (arith, k.old, g.longer, h);
      framed = k.framed;
      complete = λ u. later l (over l ns) c.ring_box c.old c.count numbers xs
          (λ i v. at-over l ns i (omega (arith, v, k.old, g.longer, h)) ∙ g.same i (omega (arith, v, k.old, h))
          ∙ node_in l used i (omega (arith, v, k.old)))
          (k.complete u);
    }

pub held-over : {P : Point → Type 0} (l m : List Float) (used v : ℕ) (ns : List Point) (c : Nearby) (numbers : List ℕ) (xs : List Float) → m ≡ over l ns
    → v ≡ length ns → Grown P (nodes_in l used) ns → ValidNearby l used c numbers xs → ValidNearby m v c numbers xs
held-over l m used v ns c numbers xs e f g k =
    subst (λ (z : ℕ). ValidNearby m z c numbers xs) (sym f)
    (subst (λ (z : List Float). ValidNearby z (length ns) c numbers xs) (sym e) (held_grown l used ns c numbers xs g k))

-- ---- what it holds
module _ (l : List Float) (w : RingBox) (n count : ℕ) (numbers : List ℕ) (xs : List Float) (c : CollectedOf l w n numbers xs count) where
  size : length (inside w l n) ≡ count
  size = ap length (sym c.are) ∙ length-take-le count numbers (omega (arith, c.places, c.few))

  listed_at : (j : ℕ) → j < count → get_or numbers j 0 ≡ get_or (inside w l n) j 0
  listed_at j h = sym (get_or-take count numbers j 0 h) ∙ ap (λ (z : List ℕ). get_or z j 0) c.are

  listed-low : (j : ℕ) → j < count → get_or numbers j 0 < n
  listed-low j h = omega (arith, listed_at j h, below (inside_at w l) n 0 j (omega (arith, size)))

  listed-x : (j : ℕ) → j < count → get_or xs j nan ≡ (node_in_of l (get_or numbers j 0)).x
  listed-x j h =
      sym (get_or-take count xs j nan h) ∙ ap (λ (z : List Float). get_or z j nan) c.are_x
      ∙ map_at (λ i. (node_in_of l i).x) nan (inside w l n) j (omega (arith, size, h))
      ∙ ap (λ (i : ℕ). (node_in_of l i).x) (sym (listed_at j h))

  pub lists : NearbyLists l n numbers xs count
  lists = record { places = c.places; places_x = c.places_x; few = c.few; low = listed-low; same = listed-x }

-- ---- what it decides
-- a node with keys strictly inside is in the box
pub keyed_inside : (l : List Float) (w : RingBox) (kx ky : ℤ) (i : ℕ) → Framed w → InRange (node_in_of l i) → surrounds w kx ky ≡ true → has_at l kx ky i ≡ true
    → inside_at w l i ≡ true
unfolding inside_at
keyed_inside l w kx ky i f r s h =
    let x = (node_in_of l i).x in
    let y = (node_in_of l i).y in
    let t = subst T (sym (sym (has-is l kx ky i) ∙ h)) tt in
    let a : kx ≡ key x = eq_z→ kx (key x) (and_l (eq_z kx (key x)) (eq_z ky (key y)) t) in
    let b : ky ≡ key y = eq_z→ ky (key y) (and_r (eq_z kx (key x)) (eq_z ky (key y)) t) in
    let v = subst T (sym s) tt in
    let p = in_span_lem w.x x f.0 (wider x r.0) (subst (λ (k : ℤ). T (strictly w.x k)) a (and_l (strictly w.x kx) (strictly w.y ky) v)) in
    let q = in_span_lem w.y y f.1 (wider y r.1) (subst (λ (k : ℤ). T (strictly w.y k)) b (and_r (strictly w.x kx) (strictly w.y ky) v)) in
    T→true _ (and_i (in_span w.x x) (in_span w.y y) p q)

module _ (l : List Float) (w : RingBox) (n used count : ℕ) (numbers : List ℕ) (xs : List Float) (kx ky : ℤ) (c : CollectedOf l w n numbers xs count)
    (u : Usable l used) (le : n ≤ used) (f : Framed w) (s : surrounds w kx ky ≡ true)
    (j : ℕ) (e : j ≡ first (has_listed l numbers kx ky) count 0) where
  only : (k : ℕ) → k < n → has_at l kx ky k ≡ true → inside_at w l k ≡ true
  only k h t = keyed_inside l w kx ky k f (u.ranged k (omega arith)) s t

  room : count ≤ length numbers
  room = omega (arith, c.places, c.few)

  rest : n + (used - n) ≡ used
  rest = omega arith

  -- a collected node is the first of all
  pub decided : j < count → get_or numbers j 0 ≡ first (has_at l kx ky) used 0
  decided h =
      let a = listed (has_at l kx ky) (inside_at w l) n count numbers room c.are only j e h in
      a ∙ sym (first-within (has_at l kx ky) n (used - n) 0 (omega (arith, a, listed-low l w n count numbers xs c j h)))
      ∙ ap (λ (m : ℕ). first (has_at l kx ky) m 0) rest

  -- or the search goes on after the old nodes
  pub undecided : count ≤ j → first (has_at l kx ky) (used - n) n ≡ first (has_at l kx ky) used 0
  undecided h =
      let a = unlisted (has_at l kx ky) (inside_at w l) n count numbers room c.are only j e h in
      sym (ap (λ (m : ℕ). first (has_at l kx ky) m 0) (sym rest) ∙ first-beyond (has_at l kx ky) n (used - n) 0 (omega (arith, a))
      ∙ ap (first (has_at l kx ky) (used - n)) (zero-add n))

-- ---- the search of a point p, whose keys are those of a and b, where the collection decides
module _ (l : List Float) (used : ℕ) (c : Nearby) (numbers : List ℕ) (xs : List Float) (p : Point) (a b : SoughtKey) (h : ValidNearby l used c numbers xs)
    (u : Usable l used) (e : a ≡ sought_key p.x) (f : b ≡ sought_key p.y) (v : Sought a) (w : Sought b)
    (d : (leb c.count most_nearby && well_inside c.ring_box a.scaled b.scaled) ≡ true) where
  both : T (leb c.count most_nearby && well_inside c.ring_box a.scaled b.scaled)
  both = subst T (sym d) tt

  all : CollectedOf l c.ring_box c.old numbers xs c.count
  all = h.complete (leb→le c.count most_nearby (and_l (leb c.count most_nearby) (well_inside c.ring_box a.scaled b.scaled) both))

  -- a sought coordinate is between the limits of a span, so its key is strictly between those of the ends
  strict : (s : Span) (k : SoughtKey) → Spans s → Sought k → T (well_in s k.scaled) → T (strictly s (key_of k))
  strict s k r o t = well_in_lem s k.own r (wider k.own o.ranged) (subst (λ (y : Float). T (well_in s y)) (scaled-of k o) t)

  within : surrounds c.ring_box (key_of a) (key_of b) ≡ true
  within =
      let m = c.ring_box in
      let t = and_r (leb c.count most_nearby) (well_inside m a.scaled b.scaled) both in
      T→true (surrounds m (key_of a) (key_of b))
      (and_i (strictly m.x (key_of a)) (strictly m.y (key_of b))
      (strict m.x a h.framed.0 v (and_l (well_in m.x a.scaled) (well_in m.y b.scaled) t))
      (strict m.y b h.framed.1 w (and_r (well_in m.x a.scaled) (well_in m.y b.scaled) t)))

  pub searchable : Usable l c.old × NearbyLists l c.old numbers xs c.count
  searchable = (fewer l c.old used h.old u, lists l c.ring_box c.old c.count numbers xs all)

  module _ (j : ℕ) (g : j ≡ first (has_listed l numbers (key_of a) (key_of b)) c.count 0) where
    pub found : j < c.count → get_or numbers j 0 ≡ number (nodes_in l used) p
    found k = decided l c.ring_box c.old used c.count numbers xs (key_of a) (key_of b) all u h.old h.framed within j g k ∙ found-is l used p a b e f

    pub not_found : (r : ℕ) → c.count ≤ j → r ≡ first (has_at l (key_of a) (key_of b)) (used - c.old) c.old → r ≡ number (nodes_in l used) p
    not_found r k s =
        s ∙ undecided l c.ring_box c.old used c.count numbers xs (key_of a) (key_of b) all u h.old h.framed within j g k ∙ found-is l used p a b e f
