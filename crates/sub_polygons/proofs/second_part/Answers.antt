-- `second_part`: the corners from the diagonal's end on, back to its start.
use Prim.Native.Nat.{◌+◌, ◌-◌, ◌%◌}
use mathlib.Core.Path.{ap, ◌∙◌}
use lib.ListN.{length}
use native.Mathlib.Omega.{arith}
use Rattle.parts.specs.Cut.{turned_area}
use Rattle.parts.proofs.Segments as Segments
use Rattle.sub_polygons.proofs.second_part.Goals as goal

pub make_sub_polygon-requires : goal.make_sub_polygon-requires
make_sub_polygon-requires c = (
  omega arith,
  omega arith,
  c.args.part.now.sheet,
  Segments.seg_straight c.args.part.now.corners.now c.segment.result (length c.args.part.now.corners.now)
      ((c.args.v + c.args.k) % (length c.args.part.now.corners.now)) (length c.args.part.now.corners.now - c.args.k + 1)
      (omega arith) c.segment.ensures.0,
  c.segment.ensures.1,
)

pub returns : goal.returns
returns c =
    let g = c.segment in
    let m = c.make_sub_polygon.ensures in (
      λ es len. m.0 es len
          ∙ Segments.second_is c.args.part.now.ring.now c.args.part.now.corners.now
          (length c.args.part.now.corners.now) c.args.v c.args.k (omega arith) g.result es (omega arith) (omega arith)
          g.ensures.0,
      m.1
          ∙ ap turned_area
          (Segments.second-points c.args.part.now.ring.now c.args.part.now.corners.now
          (length c.args.part.now.corners.now) c.args.v c.args.k (omega arith) g.result (omega arith) (omega arith)
          g.ensures.0),
      m.2,
      m.3,
      m.4,
    )
