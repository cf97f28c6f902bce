-- `segment`: the corners up to the list's end, then those from its first on, and the last edge made straight; the other places are blank.
use Rattle.std.proofs.Common.{◌≡◌, ℕ, ◌+◌, ◌-◌, ◌%◌, ◌≤◌, ◌<◌, List, ◌++◌, length, get_or, take, drop, set, refl, sym, ap, ◌∙◌, arith}
use native.Mathlib.Nat.{mod-eq_of_lt, add-mod_right}
use native.Mathlib.Decide.{dec_lt}
use lib.ListN.{replicate, get_or-append, length-append, length-drop}
use lib.Seq.{get_or-take, get_or-drop, get_or-append-add, length-take-le, take_at, drop_at, drop-append-add, drop-drop, drop-set-lt}
use borrow.Rule.Slice.PartMut.{put_mid, post_of}
use Rattle.std.proofs.lemmas.List.{get_or_default, drop-replicate}
use Rattle.laws.specs.Table.{tab}
use Rattle.laws.proofs.Table.{is_tab}
use Rattle.parts.specs.declared.list.Vertex.{Vertex}
use Rattle.parts.specs.Vertices.{no_vertex, blank, vertex, straight, closing}
use Rattle.parts.proofs.Segments.{closed, same_vertex}
use Rattle.sub_polygons.proofs.Blanks.{blanks}
use Rattle.sub_polygons.proofs.segment.Goals as goal

-- a corners from v on, and the others of m from the first on, put over the first m places
module _ (vs : List Vertex) (b : Vertex) (qs rs : List Vertex) (v m a : ℕ) (n : m ≤ length vs) (o : m ≤ 60) (l : a ≤ m) (w : v + a ≤ length vs)
    (back : a < m → v + a ≡ length vs) (q : qs ≡ take (v + a - v) (drop v vs)) (r : rs ≡ take (m - a) vs) where
  abbrev out : List Vertex
  out = replicate 60 b

  abbrev laid : List Vertex
  laid = put_mid a (m - a) (qs ++ drop a out) rs

  ahead : length qs ≡ a
  ahead = ap length q ∙ length-take-le (v + a - v) (drop v vs) (omega (arith, length-drop v vs)) ∙ omega arith

  behind : length rs ≡ m - a
  behind = ap length r ∙ length-take-le (m - a) vs (omega arith)

  one-after : laid ≡ qs ++ (rs ++ post_of a (m - a) (qs ++ drop a out))
  one-after = ap (λ (k : List Vertex). k ++ (rs ++ post_of a (m - a) (qs ++ drop a out))) (take_at qs (drop a out) a ahead)

  long : m ≤ length laid
  long =
      omega (
        arith,
        ap length one-after,
        length-append qs (rs ++ post_of a (m - a) (qs ++ drop a out)),
        length-append rs (post_of a (m - a) (qs ++ drop a out)),
        ahead,
        behind,
      )

  place : (i : ℕ) → i < m → Dec (i < a) → vertex laid i ≡ vertex vs ((v + i) % length vs)
  place i h (yes k) =
      let s : v + a - v ≡ a = omega arith in
      ap (λ (k : List Vertex). vertex k i) one-after ∙ get_or-append qs _ no_vertex i (omega (arith, ahead)) ∙ ap (λ (k : List Vertex). vertex k i) q
      ∙ get_or-take (v + a - v) (drop v vs) i no_vertex (omega arith) ∙ get_or-drop v vs i no_vertex
      ∙ ap (vertex vs) (sym (mod-eq_of_lt (omega arith)))
  place i h (no k) =
      let e : i ≡ length qs + (i - a) = omega (arith, ahead) in
      let f : v + i ≡ (i - a) + length vs = omega (arith, back (omega arith)) in
      ap (λ (k : List Vertex). vertex k i) one-after ∙ ap (vertex (qs ++ (rs ++ post_of a (m - a) (qs ++ drop a out)))) e
      ∙ get_or-append-add qs _ (i - a) no_vertex ∙ get_or-append rs _ no_vertex (i - a) (omega (arith, behind))
      ∙ ap (λ (k : List Vertex). vertex k (i - a)) r ∙ get_or-take (m - a) vs (i - a) no_vertex (omega arith)
      ∙ ap (vertex vs) (sym (ap (λ (k : ℕ). k % length vs) f ∙ add-mod_right (i - a) (length vs) ∙ mod-eq_of_lt (omega arith)))

  round : take m laid ≡ tab (λ i. vertex vs ((v + i) % length vs)) m
  round =
      is_tab (take m laid) (λ i. vertex vs ((v + i) % length vs)) m no_vertex (length-take-le m laid long)
      (λ i h. get_or-take m laid i no_vertex h ∙ place i h (dec_lt i a))

  -- and the last of them with a straight edge
  pub done : 1 ≤ m → (d : Vertex) (p : (get_or laid (m - 1) d).at < 60)
      → take m (set laid (m - 1) (record { at = (get_or laid (m - 1) d).at; edge = 60; below = p })) ≡ tab (closing vs (length vs) v m) m
  done h d p =
      ap (λ (k : Vertex). take m (set laid (m - 1) k))
      (same_vertex _ (straight (vertex laid (m - 1))) (ap (λ (k : Vertex). k.at) (get_or_default laid (m - 1) d no_vertex (omega (arith, long, h)))) refl)
      ∙ closed vs (length vs) v m laid h long round

  -- the places after them are as they were
  pub rest : 1 ≤ m → (x : Vertex) → b.at ≡ 0 → b.edge ≡ 60 → drop m (set laid (m - 1) x) ≡ replicate (60 - m) blank
  rest h x p s =
      let e : a + (m - a) ≡ m = omega arith in
      let f : m ≡ length qs + (m - a) = omega (arith, ahead) in
      drop-set-lt m laid (m - 1) x (omega arith) ∙ ap (drop m) one-after
      ∙ ap (λ (k : ℕ). drop k (qs ++ (rs ++ post_of a (m - a) (qs ++ drop a out)))) f
      ∙ drop-append-add qs (rs ++ post_of a (m - a) (qs ++ drop a out)) (m - a) ∙ drop_at rs (post_of a (m - a) (qs ++ drop a out)) (m - a) behind
      ∙ ap (drop (m - a)) (drop_at qs (drop a out) a ahead) ∙ drop-drop (m - a) a out ∙ ap (λ (k : ℕ). drop k out) e ∙ drop-replicate m 60 b
      ∙ blanks (60 - m) b p s

pub returns : goal.returns
returns c =
    let e = c.min-ahead.ensures in (
      done c.args.vs.now _ c.copy.new.to c.copy-2.new.to c.args.v c.args.m c.min-ahead.result c.requires.3
          (omega (arith, c.requires.0, c.requires.3)) (omega (arith, e)) (omega (arith, e, c.requires.1)) (λ h. omega (arith, e, h))
          c.copy.ensures c.copy-2.ensures c.requires.2 c.index-out-m.result _,
      rest c.args.vs.now _ c.copy.new.to c.copy-2.new.to c.args.v c.args.m c.min-ahead.result c.requires.3
          (omega (arith, c.requires.0, c.requires.3)) (omega (arith, e)) (omega (arith, e, c.requires.1)) (λ h. omega (arith, e, h))
          c.copy.ensures c.copy-2.ensures c.requires.2 _ refl refl,
    )
