-- `put_cells`, the loop's invariant: the first k cells stand over the list as it came.
use mathlib.Core.Path.{◌≡◌}
use Rattle.quads.specs.Quads.{cells_to}
use Rattle.quads.specs.Flat.{over_cells}
use Rattle.laid_cells.proofs.put_cells.Given as goal

abbrev pub invariant-loop-k : goal.invariant-loop-k
invariant-loop-k l =
    l.cells ≡ over_cells l.initial.cells (cells_to l.round.centre l.round.middles.now l.round.corners.now l.k)
