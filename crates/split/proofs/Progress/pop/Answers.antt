-- `pop`: whatever stack the state shows, the result shows that stack popped. The part goes out, or its two parts are
-- pushed, first and then second.
use Rattle.std.proofs.Common.{◌≡◌, ℕ, ◌+◌, ◌-◌, ◌*◌, ◌≤◌, ◌<◌, List, length, Some, sym, ap, ◌∙◌, arith}
use mathlib.Core.Option.{some}
use Rattle.laws.specs.Table.{tab}
use Rattle.laws.proofs.Table.{length_tab}
use Rattle.vector.specs.declared.GridPoint.{GridPoint}
use Rattle.corner.specs.Corner.{measure_at, worst}
use Rattle.diagonal.specs.Answer.{answer}
use Rattle.split.specs.Split.{split_polygon_at}
use Rattle.parts.specs.Vertices.{corner_point}
use Rattle.parts.specs.Layout.{end}
use Rattle.parts.proofs.Segments.{from_first}
use Rattle.split.proofs.Popped as Popped
use Rattle.split.proofs.Progress.pop.Goals as goal
use Rattle.split.proofs.Progress.pop.Goals.{After-split_polygon_at}

-- the points of the top
abbrev points : After-split_polygon_at → List GridPoint
points g = tab (corner_point g.args.ring.now g.part-vs.result.now) (length g.part-vs.result.now)

-- its worst corner, and the diagonal from there
abbrev at : After-split_polygon_at → ℕ
at g = g.worst-worst.result.at

worst-is : (g : After-split_polygon_at) → at g ≡ worst (points g)
worst-is g =
    g.worst-worst.ensures.0
    ∙ ap worst (g.as_slice.ensures.0 ∙ g.rotated_points.ensures.0 ∙ from_first g.args.ring.now g.part-vs.result.now (length g.part-vs.result.now))

-- it is one of the top's corners
worst-low : (g : After-split_polygon_at) → at g < length g.part-vs.result.now
worst-low g =
    let e = g.as_slice.ensures.0 ∙ g.rotated_points.ensures.0 in
    let n = ap (λ (l : List GridPoint). length l) e ∙ length_tab _ (length g.part-vs.result.now) in
    omega (arith, n, g.worst-worst.ensures.2)

chosen : (g : After-split_polygon_at) (k : ℕ) → g.split_polygon_at.result ≡ Some k
    → some k ≡ split_polygon_at g.args.limits (points g) g.args.self.now.done.cuts (at g)
chosen g k e = sym (ap answer e) ∙ g.split_polygon_at.ensures

range : (g : After-split_polygon_at) (k : ℕ) → g.split_polygon_at.result ≡ Some k
    → (2 ≤ k) × (k + 2 ≤ length g.part-vs.result.now) × (g.args.self.now.done.cuts < 32)
range g k e =
    let r = Popped.range g.args.limits (points g) g.args.self.now.done.cuts (at g) k
    (length g.part-vs.result.now) (length_tab _ _) (omega (arith, g.part-vs.ensures.size.1)) (chosen g k e) in
    (r.0, r.1, omega (arith, r.2, g.requires.3))

-- the top's place, and that it is there
tops : (g : After-split_polygon_at)
    → let w = g.args.self.now.waiting in
    let t = w.count - 1 in
    (end w (t + 1) ≤ 124) × (end w (t + 1) + end g.args.self.now.done.pieces g.args.self.now.done.pieces.count ≤ 60 + 2 * g.args.self.now.done.cuts)
    × (w.count ≡ t + 1)
    × (length g.part-vs.result.now ≡ end w (t + 1) - end w t)
    × (end w t + 3 ≤ end w (t + 1))
tops g =
    let s = g.args.self.now in
    let e : s.waiting.count ≡ s.waiting.count - 1 + 1 = omega (arith, g.requires.1) in
    let p = Popped.top s (s.waiting.count - 1) e g.requires.0 in
    let l = Popped.lent s.waiting (s.waiting.count - 1) g.part-vs.result.now g.part-vs.ensures.corners g.part-vs.ensures.size.0 in
    (p.2, p.3, e, l.0, p.0)

pub split_polygon_at-requires : goal.split_polygon_at-requires
split_polygon_at-requires c =
    let v = c.part-vs in
    let e = c.as_slice.ensures.0 ∙ c.rotated_points.ensures.0 in
    let n = ap (λ (l : List GridPoint). length l) e ∙ length_tab _ (length v.result.now) in
    let f = e ∙ from_first c.args.ring.now v.result.now (length v.result.now) in (
      v.ensures.size.1,
      omega (arith, n, c.worst-worst.ensures.2),
      c.worst-worst.ensures.1 ∙ ap (λ (l : List GridPoint). measure_at l c.worst-worst.result.at) f,
    )

pub returns-in_default : goal.returns-in_default
returns-in_default c =
    let g = (goal.at.returns-in_default c).After-split_polygon_at in
    let z = tops g in
    let s = c.args.self.now in
    let v = c.part-vs in
    let vs = v.result.now in
    let l = Popped.lent s.waiting (s.waiting.count - 1) vs v.ensures.corners v.ensures.size.0 in (
      Popped.within-gone s _ z.2 c.requires.0 _ _ _ vs (length vs) l.0 c.push.new.self c.push.ensures,
      λ es len u w.
          Popped.follows-gone s _ z.2 c.requires.0 _ _ _ vs (length vs) l.0 c.args.ring.now es l.1
          c.args.limits u w (at g) (worst-is g) (sym (ap answer c.in_default.is) ∙ c.split_polygon_at.ensures) c.push.new.self
          c.push.ensures,
    )

pub first_part-first-requires : goal.first_part-first-requires
first_part-first-requires c =
    let g = (goal.at.first_part-first-requires c).After-split_polygon_at in
    let r = range g c.in-Some.k c.in-Some.is in
    (worst-low g, r.0, r.1)

pub second_part-second-requires : goal.second_part-second-requires
second_part-second-requires c =
    let g = (goal.at.second_part-second-requires c).After-split_polygon_at in
    let r = range g c.in-Some.k c.in-Some.is in
    (worst-low g, r.0, r.1)

-- the two parts, pushed
pub as_slice-requires-2 : goal.as_slice-requires-2
as_slice-requires-2 c =
    let r = range (goal.at.as_slice-requires-2 c).After-split_polygon_at c.in-Some.k c.in-Some.is in
    let x = c.first_part-first in
    omega (arith, x.type_inv, x.ensures.3, r.1, c.part-vs.ensures.size.2)

pub push-requires-2 : goal.push-requires-2
push-requires-2 c =
    let g = (goal.at.push-requires-2 c).After-split_polygon_at in
    let z = tops g in
    let r = range g c.in-Some.k c.in-Some.is in
    let s = c.args.self.now in
    let n : length c.as_slice-2.result.now ≡ c.in-Some.k + 1 = c.as_slice-2.ensures.1 ∙ c.first_part-first.ensures.3 in (
      omega (arith, s.waiting.few, z.2),
      omega (arith, n, r.0),
      omega (arith, n, r.1, c.part-vs.ensures.size.2),
      omega (arith, n, r.1, z.0, z.3),
    )

pub as_slice-requires-3 : goal.as_slice-requires-3
as_slice-requires-3 c =
    let r = range (goal.at.as_slice-requires-3 c).After-split_polygon_at c.in-Some.k c.in-Some.is in
    let x = c.second_part-second in
    omega (arith, x.type_inv, x.ensures.3, r.0, r.1, c.part-vs.ensures.size.2)

pub push-requires-3 : goal.push-requires-3
push-requires-3 c =
    let g = (goal.at.push-requires-3 c).After-split_polygon_at in
    let z = tops g in
    let r = range g c.in-Some.k c.in-Some.is in
    let h = c.requires.0 in
    let p = c.push-2.ensures in
    let a : length c.as_slice-2.result.now ≡ c.in-Some.k + 1 = c.as_slice-2.ensures.1 ∙ c.first_part-first.ensures.3 in
    let b : length c.as_slice-3.result.now ≡ length c.part-vs.result.now - c.in-Some.k + 1 = c.as_slice-3.ensures.1 ∙ c.second_part-second.ensures.3 in (
      omega (arith, p.count, h.parts, r.2, z.2),
      omega (arith, b, r.1),
      omega (arith, b, r.0, r.1, c.part-vs.ensures.size.2),
      omega (arith, p.last, a, b, r.0, r.1, r.2, z.1, z.3, z.4),
    )

pub returns : goal.returns
returns c =
    let g = (goal.at.returns c).After-split_polygon_at in
    let z = tops g in
    let k = c.in-Some.k in
    let r = range g k c.in-Some.is in
    let s = c.args.self.now in
    let v = c.part-vs in
    let vs = v.result.now in
    let l = Popped.lent s.waiting (s.waiting.count - 1) vs v.ensures.corners v.ensures.size.0 in
    let x = c.first_part-first in
    let y = c.second_part-second in
    let q =
    Popped.halved-at c.args.ring.now _ vs (length vs) (at g) k r.1 x.result y.result c.as_slice-2.result.now c.as_slice-3.result.now
    c.as_slice-2.ensures.0 c.as_slice-2.ensures.1 c.as_slice-3.ensures.0 c.as_slice-3.ensures.1 x.ensures.3 y.ensures.3
    c.push-2.new.self c.push-3.new.self c.push-2.ensures c.push-3.ensures x.ensures.0 y.ensures.0 x.ensures.1 y.ensures.1 x.ensures.2 y.ensures.2 in (
      Popped.within-cut s _ z.2 c.requires.0 _ _ _ vs (length vs) l.0 c.args.ring.now (at g) k r.2 c.push-3.new.self _ q,
      λ es len u w.
          Popped.follows-cut s _ z.2 c.requires.0 _ _ _ vs (length vs) l.0 c.args.ring.now es l.1
          c.args.limits u w (at g) (worst-is g) len k (chosen g k c.in-Some.is) c.push-3.new.self _ q,
    )
