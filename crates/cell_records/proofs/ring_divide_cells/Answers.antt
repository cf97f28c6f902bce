-- `ring_divide_cells` has the promise: the numbers are those of the call over this list, and they are written into it.
use mathlib.Core.Path.{refl}
use Rattle.limits.specs.Limits.{delivered}
use Rattle.cell_records.proofs.Recorded.{promised}
use Rattle.cell_records.proofs.ring_divide_cells.Goals as goal

pub returns : goal.returns
returns c =
    let d = c.flat_divide-laid in
    promised delivered _ d.result _ _ _ (d.ensures.0 c.args.cells.now refl) d.ensures.2 c.write.ensures
