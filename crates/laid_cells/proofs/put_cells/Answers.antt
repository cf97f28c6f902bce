use mathlib.Core.Path.{◌∙◌}
use Prim.Native.Nat.{◌*◌}
use lib.ListN.{length}
use Rattle.quads.specs.Quads.{cells_to}
use Rattle.quads.proofs.CellList as cell
use native.Mathlib.Omega.{arith}
use Rattle.laid_cells.proofs.put_cells.Goals as goal

pub loop-k-init : goal.loop-k-init
loop-k-init c = unfold cells_to in cell.over_none _

pub loop-k-preserved : goal.loop-k-preserved
loop-k-preserved c =
    let l = c.loop-k in
    let r = c.args.round.now in
    let n = length r.middles.now in
    let z = cell.cells-length r.centre r.middles.now r.corners.now l.k in
    cell.turn c.args.cells.now l.cells (l.k * 4) (cells_to r.centre r.middles.now r.corners.now l.k) _ _ l.invariant (omega (arith, z))
    (omega (arith, z, c.requires, c.loop-k-test.true)) c.put_cell.ensures
    ∙ cell.one_more r.centre r.middles.now r.corners.now c.args.cells.now l.k _
    (c.cell.ensures ∙ cell.cells_at r.centre r.middles.now r.corners.now n l.k c.loop-k-test.true)
