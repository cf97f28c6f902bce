-- `reversed`: each turn puts one corner more, counted back, with the edge of the corner before it.
use Rattle.std.proofs.Common.{◌≡◌, ℕ, ◌+◌, ◌-◌, ◌<◌, List, length, drop, reverse, refl, ap, ◌∙◌, arith}
use lib.ListN.{length-set, length-drop, length-reverse}
use lib.Seq.{get_or-drop}
use Rattle.std.specs.List.{zip}
use Rattle.std.proofs.lemmas.Iterator.{YieldsList-from_zip}
use Rattle.std.proofs.lemmas.Iterator.Adapters.{YieldsList-from_rev_slice, YieldsList-from_skip}
use Rattle.std.proofs.lemmas.Iterator.Consumers.{YieldsList-turn, YieldsList-end, YieldsList-from_enumerate}
use Rattle.std.proofs.lemmas.List.{get_or_default, length_push}
use Rattle.std.proofs.lemmas.List.FromFn.{length-enumerate_from, get_or-enumerate_from}
use Rattle.std.proofs.lemmas.Slice.Zip.{length-zip, get_or-zip}
use Rattle.laws.proofs.Table.{more, more-last, tab_none}
use Rattle.parts.specs.declared.list.Vertex.{Vertex}
use Rattle.parts.specs.Vertices.{no_vertex, vertex, backward}
use Rattle.parts.proofs.Segments as Segments
use Rattle.parts.proofs.Stored.{reverse-at}
use Rattle.sub_polygons.proofs.Blanks.{blanks, blanks-next, blanks-last}
use Rattle.sub_polygons.proofs.reversed.Goals as goal
use Rattle.sub_polygons.proofs.reversed.Goals.{In-Some}

abbrev pairs : List Vertex → List (Vertex × Vertex)
pairs vs = zip (reverse vs) (drop 1 (reverse vs))

-- how many pairs there are: one less than the corners
length-pairs : (vs : List Vertex) → length (pairs vs) ≡ length vs - 1
length-pairs vs =
    omega (arith, length-zip (reverse vs) (drop 1 (reverse vs)), length-drop 1 (reverse vs), length-reverse vs)

-- this turn's pair, and its number
turn : (c : In-Some) → (length c.loop-i.yielded + 1 < length c.args.vs.now) × (c.in-Some.i ≡ length c.loop-i.yielded)
    × (c.in-Some.a.now ≡ vertex c.args.vs.now (length c.args.vs.now - 1 - length c.loop-i.yielded))
    × (c.in-Some.b.now ≡ vertex c.args.vs.now (length c.args.vs.now - 2 - length c.loop-i.yielded))
turn c =
    let vs = c.args.vs.now in
    let n = length c.loop-i.yielded in
    let x = c.in-Some in
    let road =
    YieldsList-from_enumerate {s = c.into_iter-i-iterator.result}
    (YieldsList-from_zip (YieldsList-from_rev_slice vs (cc)) (YieldsList-from_skip 1 (YieldsList-from_rev_slice vs (cc)) (cc))) (cc) in
    let t = YieldsList-turn road c.loop-i.yielded c.loop-i.i-iterator c.loop-i.yielded_by c.next.result c.next.new.self
    (x.i, (x.a, x.b)) x.is c.next.ensures.steps in
    let many = length-pairs vs in
    let r = length-reverse vs in
    let l : n + 1 < length vs = omega (arith, t.0, length-enumerate_from 0 (pairs vs), many) in
    let e = t.1 ∙ get_or-enumerate_from 0 (pairs vs) n (x.i, (x.a.now, x.b.now)) (omega (arith, l, many)) in
    let p = ap (λ (q : ℕ × (Vertex × Vertex)). q.1) e
    ∙ get_or-zip (reverse vs) (drop 1 (reverse vs)) n (x.a.now, x.b.now) (omega (arith, l, r)) (omega (arith, l, r, length-drop 1 (reverse vs))) in
    let k : length vs - 1 - (1 + n) ≡ length vs - 2 - n = omega arith in (
      l,
      ap (λ (q : ℕ × (Vertex × Vertex)). q.0) e ∙ omega arith,
      ap (λ (q : Vertex × Vertex). q.0) p ∙ reverse-at vs n x.a.now (omega (arith, l)),
      ap (λ (q : Vertex × Vertex). q.1) p ∙ get_or-drop 1 (reverse vs) n x.b.now ∙ reverse-at vs (1 + n) x.b.now (omega (arith, l)) ∙ ap (vertex vs) k,
    )

pub loop-i-init : goal.loop-i-init
loop-i-init c = (refl, tab_none _, blanks 60 _ refl refl)

pub loop-i-preserved : goal.loop-i-preserved
loop-i-preserved c =
    let l = c.loop-i in
    let vs = c.args.vs.now in
    let m = length vs in
    let t = turn (goal.at.loop-i-preserved c).In-Some in
    let x = c.in-Some in
    let n = length_push l.yielded (x.i, (x.a, x.b)) in
    rw (n, t.1) (
      length-set l.out (length l.yielded) _ ∙ l.invariant.0,
      more (backward vs m) l.out (length l.yielded) _ (omega (arith, l.invariant.0, t.0)) l.invariant.1
          (Segments.backward_in vs m (length l.yielded) _ (omega (arith, t.0)) (ap (λ (c : Vertex). c.at) t.2) (ap (λ (c : Vertex). c.edge) t.3)),
      blanks-next l.out (length l.yielded) _ l.invariant.2,
    )

pub returns : goal.returns
returns c =
    let vs = c.args.vs.now in
    let m = length vs in
    let l = c.loop-i in
    let road =
    YieldsList-from_enumerate {s = c.into_iter-i-iterator.result}
    (YieldsList-from_zip (YieldsList-from_rev_slice vs (cc)) (YieldsList-from_skip 1 (YieldsList-from_rev_slice vs (cc)) (cc))) (cc) in
    let t = YieldsList-end road l.yielded l.i-iterator l.yielded_by c.next.result c.next.new.self c.in-None.is c.next.ensures.steps in
    let e : length l.yielded ≡ m - 1 = omega (arith, t.1, length-enumerate_from 0 (pairs vs), length-pairs vs) in
    let z : 0 ≡ m - 1 - length l.yielded = omega (arith, e) in (
      more-last (backward vs m) l.out (length l.yielded) m _ e (omega arith) (omega (arith, e)) l.invariant.1
          (Segments.same_vertex _ _ (ap (λ (c : Vertex). c.at) (get_or_default vs 0 c.index-vs-0.result no_vertex c.requires.0)) refl
          ∙ Segments.backward-last vs m (length l.yielded) (vertex vs 0) e (ap (vertex vs) z)),
      blanks-last l.out (length l.yielded) m _ e (omega arith) l.invariant.2,
    )
