-- `make_sub_polygon`: the part is kept or turned round by the sign of its area.
use Prim.Native.Nat.{ℕ, ◌-◌, ◌≤◌}
use mathlib.Core.Path.{◌≡◌, refl, ap, ◌∙◌}
use mathlib.Core.List.{List}
use mathlib.Core.Bool.{true, false}
use native.Mathlib.Omega.{arith}
use lib.Dec.{lit≤}
use lib.IntN.{nat_abs}
use lib.ListN.{length, take, drop, replicate}
use lib.Seq.{length-take-le}
use Rattle.laws.proofs.Signed.{back}
use Rattle.parts.specs.declared.list.Vertex.{Vertex}
use Rattle.parts.specs.Vertices.{blank}
use Rattle.parts.proofs.Segments as Segments
use Rattle.sub_polygons.proofs.make_sub_polygon.Goals as goal

-- the places after the first m corners
blank-after : (vs : List Vertex) (m : ℕ) → m ≤ length vs → (r : List Vertex) → drop (length (take m vs)) r ≡ replicate (60 - length (take m vs)) blank
    → drop m r ≡ replicate (60 - m) blank
blank-after vs m h r e = rw (length-take-le m vs h) at e

pub returns-then-area-ge0 : goal.returns-then-area-ge0
returns-then-area-ge0 c =
    let ring = c.args.ring.now in
    let vs = c.args.vs in
    let b = back c.polygon_area-area.result (omega (arith, c.polygon_area-area.ensures.1)) ∙ c.polygon_area-area.ensures.0 in
    let n = Segments.by_sign _ _ true b c.if-area-ge0.true in
    let e = c.as_slice.ensures.0 ∙ c.rotated_points.ensures.0 ∙ Segments.front-points ring vs c.args.m (omega arith) in (
      λ es len. Segments.kept-part ring vs c.args.m _ e es len (omega arith) c.requires.3 n,
      Segments.none-turned ring vs c.args.m _ e n,
      lit≤ tt,
      refl,
      c.requires.4,
    )

pub returns : goal.returns
returns c =
    let ring = c.args.ring.now in
    let vs = c.args.vs in
    let z = back c.polygon_area-area.result (omega (arith, c.polygon_area-area.ensures.1)) in
    let b = z ∙ c.polygon_area-area.ensures.0 in
    let n = Segments.by_sign _ _ false b c.if-area-ge0.false in
    let e = c.as_slice.ensures.0 ∙ c.rotated_points.ensures.0 ∙ Segments.front-points ring vs c.args.m (omega arith) in
    let r = Segments.back-front vs c.args.m (omega arith) c.reversed.result c.reversed.ensures.0 in
    let v = c.unsigned_abs.ensures.value in
    let d : c.unsigned_abs.result ≡ nat_abs c.polygon_area-area.result = v ∙ ap nat_abs z in (
      λ es len. Segments.turned-part ring vs c.args.m _ e es len (omega arith) c.requires.3 c.reversed.result r n,
      v ∙ ap nat_abs b ∙ Segments.all-turned ring vs c.args.m _ e n,
      rw d c.polygon_area-area.ensures.1,
      refl,
      blank-after vs c.args.m (omega arith) c.reversed.result c.reversed.ensures.1,
    )
