-- `lay_out`: the answer of the pieces, done or failed, is the definition's.
use native.Mathlib.Omega.{arith}
use mathlib.Core.Path.{sym, ap, ◌∙◌}
use lib.Seq.{length-take-le}
use Rattle.vector.proofs.Rings.{room}
use Rattle.pieces.specs.Flat.{every_mark, row}
use Rattle.pieces.proofs.Cases.{if_done, if_failed}
use Rattle.call.proofs.Course.{Divisible}
use Rattle.marks.specs.Edges.{part_in}
use Rattle.divider.specs.Steps.{lists_in}
use Rattle.divider.proofs.Leaving.{moved}
use Rattle.divider.proofs.Laying.{count_is, can-subdivide, mark-room-in}
use Rattle.divider.proofs.LaidOut.{cell_room, laid_done, laid-failed}
use Rattle.divider.proofs.lay_out.Goals as goal
use Rattle.divider.proofs.lay_out.Goals.{Start}
use Rattle.pieces.proofs.Sides.{every_length}

-- what was asked: the ring can be divided
sought : (s : Start) → let a = s.args in Divisible a.limits a.own (part_in a.ring.now) (lists_in a.nodes.now a.node_count a.rims.now a.cells.now a.cell_count)
sought s = record { prepared = s.requires.0.prepared; whole = s.requires.1 }

pub subdivide_all-laid-requires : goal.subdivide_all-laid-requires
subdivide_all-laid-requires c =
    let a = c.args in
    let r = c.reserve_of-reserve in
    let t = c.split_bad_vertices-s in
    let w = t.ensures.0 a.ring.now.edges c.requires.0.held.marks in (
      can-subdivide a.limits a.own a.ring.now a.nodes.now a.node_count a.rims.now a.cells.now a.cell_count
          (sought (goal.at.subdivide_all-laid-requires c).Start) t.result w
          r.result.cells r.ensures.cells c.requires.0.held.ring.points t.ensures.1,
      mark-room-in a.limits a.own a.ring.now a.nodes.now a.node_count a.rims.now a.cells.now a.cell_count
          (sought (goal.at.subdivide_all-laid-requires c).Start) t.result w,
      c.requires.3,
    )

pub returns-in-Err : goal.returns-in-Err
returns-in-Err c =
    let a = c.args in
    let r = c.reserve_of-reserve in
    let t = c.split_bad_vertices-s in
    let m = c.requires.0.held.marks in
    let d = c.subdivide_all-laid in
    moved d.ensures.1 d.ensures.3 d.ensures.2
    (laid-failed a.limits a.own a.ring.now a.nodes.now a.node_count a.rims.now a.cells.now a.cell_count (sought (goal.at.returns-in-Err c).Start) t.result
    (t.ensures.0 a.ring.now.edges m) m (t.ensures.0 every_mark every_length) r.result.cells _ _ _ (if_failed _ (sym (ap row c.in-Err.is) ∙ d.ensures.0))
    r.ensures.cells)

pub overflow_add-result : goal.overflow_add-result
overflow_add-result c =
    let a = c.args in
    let t = c.split_bad_vertices-s in
    let m = c.requires.0.held.marks in
    let h =
    cell_room a.limits a.own a.ring.now a.nodes.now a.node_count a.rims.now a.cells.now a.cell_count (sought (goal.at.overflow_add-result c).Start) t.result
    (t.ensures.0 a.ring.now.edges m) m (t.ensures.0 every_mark every_length) _ _ (if_done _ (sym (ap row c.in-Ok.is) ∙ c.subdivide_all-laid.ensures.0)) in
    omega (arith, c.well_formed.1.1.1.1.1.1.1.0)

pub returns-in-Ok : goal.returns-in-Ok
returns-in-Ok c =
    let a = c.args in
    let t = c.split_bad_vertices-s in
    let m = c.requires.0.held.marks in
    let w = t.ensures.0 a.ring.now.edges m in
    let d = c.subdivide_all-laid in
    let s = sought (goal.at.returns-in-Ok c).Start in
    moved d.ensures.1 d.ensures.3 d.ensures.2
    (laid_done a.limits a.own a.ring.now a.nodes.now a.node_count a.rims.now a.cells.now a.cell_count s t.result w m (t.ensures.0 every_mark every_length)
    c.reserve_of-reserve.result.cells _ _ _ _ _ _ _ _ (if_done _ (sym (ap row c.in-Ok.is) ∙ d.ensures.0))
    (sym (length-take-le a.ring.now.ring.count a.ring.now.ring.points (room a.ring.now.ring c.requires.0.held.ring)))
    c.mark_count.ensures.0
    w.cuts
    (count_is a.limits a.own a.ring.now a.nodes.now a.node_count a.rims.now a.cells.now a.cell_count s t.result w)
    w.turned
    c.requires.2)
