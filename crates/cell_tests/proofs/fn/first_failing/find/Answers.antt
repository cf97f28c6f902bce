use Rattle.std.proofs.Common.{sym, subst}
use Rattle.quads.specs.Flat.{Listed}
use Rattle.quads.proofs.CellList as cell
use Rattle.cell_tests.proofs.fn.first_failing.find.Goals as goal

pub holds-requires : goal.holds-requires
holds-requires c =
    let s = c.captures in
    let r = c.requires in
    (r.0, subst (Listed s.used) (sym c.cell.ensures) (cell.cell-listed s.round.now r.1 c.args.arg1.now r.2))
