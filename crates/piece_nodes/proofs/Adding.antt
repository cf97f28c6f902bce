-- Points added one by one to the lent node list: the state of a loop that does so (`Adds`), its turn (`next`), and what
-- holds in every turn while there is room for all (`CanAdd`).
use mathlib.Core.Path.{◌≡◌, refl, sym, ap, ◌∙◌, subst}
use mathlib.Core.List.{List, [], ◌∷◌, ◌++◌}
use Prim.Native.Nat.{ℕ, zero, suc, ◌+◌, ◌-◌, ◌*◌, ◌≤◌, ◌<◌}
use native.Mathlib.Nat.{le_trans, le_refl}
use native.Mathlib.Numerals.{add-one}
use native.Mathlib.Omega.{arith}
use lib.ListN.{length, get_or, set, drop, length-set}
use lib.Seq.{take-suc-set, get_or-take, drop-set-lt, drop-drop}
use lib.Ieee.{Float}
use Rattle.vector.specs.declared.Point.{Point}
use Rattle.nodes.specs.declared.Placed.{Placed}
use Rattle.nodes.specs.Nodes.{most_places, node_at, add_node, Added, add_nodes}
use Rattle.nodes.specs.Growth.{Grown, Anything, InRange, EachNode}
use Rattle.nodes.specs.Flat.{node_in_of, nodes_in, over, Usable, placed}
use Rattle.nodes.specs.declared.nearby.Nearby.{Nearby}
use Rattle.nodes.specs.Nearby.{ValidNearby}
use Rattle.nodes.proofs.Collection.{held-over}
use Rattle.nodes.proofs.Growth.{add_node-grown, add_nodes-grown, add_nodes-number, grown-each}
use Rattle.nodes.proofs.Flat.{length_in, node_in, at-over, in_over, length_over, over-over, over_in}
use Rattle.piece_nodes.specs.Adding.{CanAdd, Adds}
use Rattle.quads.specs.Flat.{ListedTo}

-- the listed nodes of a usable list are in range, and so are those of a list that is written over it
pub nodes-ranged : {l : List Float} {u : ℕ} → Usable l u → EachNode InRange (nodes_in l u)
nodes-ranged {l} {u} g j b = let h : j < u = omega (arith, b, length_in l u) in subst InRange (sym (node_in l u j h)) (g.ranged j h)

pub over-usable : (l : List Float) (ns : List Point) {m : List Float} {v : ℕ} → m ≡ over l ns → v ≡ length ns → EachNode InRange ns → length ns ≤ most_places
    → length ns * 2 ≤ length l → Usable m v
over-usable l ns e f h a b =
    record {
      room = omega (arith, f, b, ap length e ∙ length_over l ns b);
      few = omega (arith, f, a);
      ranged = λ j k. let i : j < length ns = omega (arith, f, k) in subst InRange (sym (ap (λ (m : List Float). node_in_of m j) e ∙ at-over l ns j i)) (h j i);
    }

module _ (l : List Float) (u : ℕ) (p : ℕ → Point) where
  -- the first i points are added
  abbrev E : ℕ → Added
  E i = add_nodes (nodes_in l u) p i

  grown : (i : ℕ) → Grown Anything (nodes_in l u) (E i).nodes
  grown i = add_nodes-grown (nodes_in l u) p i (λ j h. tt)

  longer : (i : ℕ) → u ≤ length (E i).nodes
  longer i = omega (arith, (grown i).longer, length_in l u)

  up : (i d : ℕ) → length (E i).nodes ≤ length (E (i + d)).nodes
  unfolding add_nodes
  up i zero = let e : i + zero ≡ i = omega arith in subst (λ (k : ℕ). length (E i).nodes ≤ length (E k).nodes) (sym e) (le_refl (length (E i).nodes))
  up i (suc d) =
      let e : i + suc d ≡ suc (i + d) = omega arith in
      subst (λ (k : ℕ). length (E i).nodes ≤ length (E k).nodes) (sym e)
      (le_trans (up i d) (add_node-grown {P = Anything} (E (i + d)).nodes (p (i + d)) tt).longer)

  rise : (i n : ℕ) → i ≤ n → length (E i).nodes ≤ length (E n).nodes
  rise i n h = let e : i + (n - i) ≡ n = omega arith in subst (λ (k : ℕ). length (E i).nodes ≤ length (E k).nodes) e (up i (n - i))

module _ {l : List Float} {u : ℕ} {p : ℕ → Point} where
  pub start : (ks : List ℕ) → u * 2 ≤ length l → length ks ≡ 60 → Adds l u p 0 ks l u ks
  unfolding add_nodes
  start ks h k = record { numbers = refl; rest = refl; long = k; used = sym (length_in l u); nodes = sym (over_in l u h) }

  -- the nodes that are listed now
  pub now-is : {i : ℕ} {os : List ℕ} {m : List Float} {v : ℕ} {ks : List ℕ} → Adds l u p i os m v ks → nodes_in m v ≡ (E l u p i).nodes
  now-is {i} {os} s = (λ j. nodes_in (s.nodes j) (s.used j)) ∙ in_over l (E l u p i).nodes

  pub next : {i : ℕ} {os : List ℕ} {m : List Float} {v : ℕ} {ks : List ℕ} {q : Point} {r : Placed} {m' : List Float} → Adds l u p i os m v ks → i < 60 → q ≡ p i
      → r ≡ placed (nodes_in m v) q → m' ≡ over m (add_node (nodes_in m v) q)
      → Adds l u p (i + 1) os m' r.used (set ks i r.number)
  unfolding add_nodes
  next {i} {os} {m} {v} {ks} {q} {r} {m'} s h e a b =
      let n : nodes_in m v ≡ (E l u p i).nodes = now-is s in
      let f : r ≡ placed (E l u p i).nodes (p i) = a ∙ (λ j. placed (n j) (e j)) in
      let k = add_node-grown {P = Anything} (E l u p i).nodes (p i) tt in
      let g : m' ≡ over l (add_node (E l u p i).nodes (p i)) =
      b ∙ (λ j. over (s.nodes j) (add_node (n j) (e j))) ∙ over-over l (E l u p i).nodes (add_node (E l u p i).nodes (p i)) k.longer in
      let d : drop 1 (drop i ks) ≡ drop 1 (drop i os) = ap (drop 1) s.rest in
      subst (λ (k : ℕ). Adds l u p k os m' r.used (set ks i r.number)) (sym (add-one i))
      (record {
        numbers = take-suc-set ks i r.number (omega (arith, s.long)) ∙ (λ j. s.numbers j ++ ((f j).number ∷ []));
        rest =
            drop-set-lt (suc i) ks i r.number (omega arith)
            ∙ rw (add-one i) at (sym (drop-drop 1 i ks) ∙ d ∙ drop-drop 1 i os);
        long = length-set ks i r.number ∙ s.long;
        used = ap (λ (r : Placed). r.used) f;
        nodes = g;
      })

  -- a place that was used before is as it was
  pub read : {i : ℕ} {os : List ℕ} {m : List Float} {v : ℕ} {ks : List ℕ} → Adds l u p i os m v ks → (j : ℕ) → j < u → node_in_of m j ≡ node_at (nodes_in l u) j
  read {i} s j h =
      ap (λ (m : List Float). node_in_of m j) s.nodes ∙ at-over l (E l u p i).nodes j (omega (arith, longer l u p i))
      ∙ (grown l u p i).same j (omega (arith, length_in l u))

  -- what was collected of the list stays true of it
  pub held : {c : Nearby} {numbers : List ℕ} {xs : List Float} {i : ℕ} {os : List ℕ} {m : List Float} {v : ℕ} {ks : List ℕ} → Adds l u p i os m v ks
      → ValidNearby l u c numbers xs → ValidNearby m v c numbers xs
  held {c} {numbers} {xs} {i} {os} {m} {v} s h = held-over l m u v (E l u p i).nodes c numbers xs s.nodes s.used (grown l u p i) h

  -- the numbers are those of listed nodes
  pub listed : {n : ℕ} {os : List ℕ} {m : List Float} {v : ℕ} {ks : List ℕ} → Adds l u p n os m v ks → ListedTo v ks n
  listed {n} {os} {m} {v} {ks} s j h =
      omega (arith, sym (get_or-take n ks j 0 h) ∙ ap (λ (k : List ℕ). get_or k j 0) s.numbers, (add_nodes-number (nodes_in l u) p n j h).low, s.used)

  -- while there is room for all n
  module _ {n : ℕ} (g : CanAdd l u p n) {i : ℕ} {os : List ℕ} {m : List Float} {v : ℕ} {ks : List ℕ} (s : Adds l u p i os m v ks) where
    pub same_size : i ≤ n → length m ≡ length l
    same_size o = ap length s.nodes ∙ length_over l (E l u p i).nodes (omega (arith, rise l u p i n o, g.room))

    pub used-more : u ≤ v
    used-more = omega (arith, longer l u p i, s.used)

    -- the next one fits
    pub ahead : {q : Point} → i < n → q ≡ p i → length (add_node (nodes_in m v) q) * 2 ≤ length m
    unfolding add_nodes
    ahead {q} o e =
        let f : length (add_node (nodes_in m v) q) ≡ length (E l u p (suc i)).nodes = λ j. length (add_node (now-is s j) (e j)) in
        omega (arith, f, rise l u p (suc i) n o, g.room, same_size (omega arith))

    pub usable : i ≤ n → Usable m v
    usable o =
        over-usable l (E l u p i).nodes s.nodes s.used
        (grown-each {P = InRange} (nodes_in l u) (E l u p i).nodes (add_nodes-grown {P = InRange} (nodes_in l u) p i (λ j h. g.ranged j (omega arith)))
        (nodes-ranged g.usable))
        (omega (arith, rise l u p i n o, g.fits)) (omega (arith, rise l u p i n o, g.room))
