-- `rotated_points`: each turn puts the point of one corner more, counted round.
use Rattle.std.proofs.Common.{◌≡◌, ℕ, ◌+◌, ◌-◌, ◌%◌, ◌<◌, length, get_or, take, drop, refl, ap, ◌∙◌, arith}
use lib.ListN.{length-set}
use lib.Seq.{get_or-set_other}
use Rattle.std.proofs.lemmas.Iterator.{YieldsList-from_slice}
use Rattle.std.proofs.lemmas.Iterator.Consumers.{YieldsList-turn, YieldsList-from_enumerate, YieldsList-from_chain}
use Rattle.std.proofs.lemmas.List.{length_push}
use Rattle.std.proofs.lemmas.List.FromFn.{length-enumerate_from, get_or-enumerate_from}
use Rattle.laws.proofs.Lists.{all_same, all_set}
use Rattle.laws.proofs.Table.{more, tab_none}
use Rattle.vector.specs.declared.GridPoint.{GridPoint}
use Rattle.vector.specs.Grid.{origin}
use Rattle.vector.specs.Size.{OnSheet}
use Rattle.vector.proofs.Sheet.{origin_on}
use Rattle.parts.specs.declared.list.Vertex.{Vertex}
use Rattle.parts.specs.Vertices.{vertex, corner_point}
use Rattle.parts.proofs.Stored.{turned, turned-at, length-turned}
use Rattle.parts.proofs.list.RingPart.rotated_points.Goals as goal
use Rattle.parts.proofs.list.RingPart.rotated_points.Goals.{In-Some}

-- this turn's corner, and its number
turn : (c : In-Some) → (length c.loop-i.yielded < length c.args.self.now.corners.now) × (c.in-Some.i ≡ length c.loop-i.yielded)
    × (c.in-Some.c.now ≡ vertex c.args.self.now.corners.now ((c.args.v + length c.loop-i.yielded) % length c.args.self.now.corners.now))
turn c =
    let vs = c.args.self.now.corners.now in
    let v = c.args.v in
    let road =
    YieldsList-from_enumerate {s = c.into_iter-i-iterator.result}
    (YieldsList-from_chain (YieldsList-from_slice (take (length vs - v) (drop v vs)) (cc)) (YieldsList-from_slice (take v vs) (cc)) (cc) (cc)) (cc) in
    let t = YieldsList-turn road c.loop-i.yielded _ c.loop-i.yielded_by _ _ (c.in-Some.i, c.in-Some.c) c.in-Some.is c.next.ensures.steps in
    let l : length c.loop-i.yielded < length vs =
    omega (arith, t.0, length-enumerate_from 0 (turned vs v), length-turned vs v c.requires) in
    let e =
    t.1 ∙ get_or-enumerate_from 0 (turned vs v) (length c.loop-i.yielded) (c.in-Some.i, c.in-Some.c.now) (omega (arith, l, length-turned vs v c.requires)) in
    let n : c.in-Some.i ≡ length c.loop-i.yielded = ap (λ (p : ℕ × Vertex). p.0) e ∙ omega arith in
    (l, n, ap (λ (p : ℕ × Vertex). p.1) e ∙ turned-at vs v (length c.loop-i.yielded) c.in-Some.c.now c.requires l)

pub loop-i-init : goal.loop-i-init
loop-i-init c = (
  refl,
  refl,
  tab_none _,
  all_same OnSheet origin 60 _ origin_on origin_on,
  λ k h. all_same (λ x. x ≡ origin) origin 60 origin refl refl k,
)

pub loop-i-preserved : goal.loop-i-preserved
loop-i-preserved c =
    let l = c.loop-i in
    let ring = c.args.self.now.ring.now in
    let vs = c.args.self.now.corners.now in
    let t = turn (goal.at.loop-i-preserved c).In-Some in
    let f : ℕ → GridPoint = (λ k. corner_point ring vs ((c.args.v + k) % length vs)) in
    let q : get_or ring c.from.result origin ≡ f (length l.yielded) =
    ap (λ k. get_or ring k origin) (c.from.ensures ∙ ap (λ (v : Vertex). v.at) t.2) in
    let n = length_push l.yielded (c.in-Some.i, c.in-Some.c) in
    rw (n, t.1) (
      length-set l.out.points (length l.yielded) _ ∙ l.invariant.0,
      l.invariant.1,
      more f l.out.points (length l.yielded) _ (omega (arith, l.invariant.0, t.0, c.args.self.now.few)) l.invariant.2 q,
      all_set OnSheet origin l.out.points (length l.yielded) _ l.invariant.3 (c.args.self.now.sheet _),
      λ k h. get_or-set_other l.out.points (length l.yielded) k _ origin (λ e. omega (arith, e)) ∙ l.invariant.4 k (omega arith),
    )
