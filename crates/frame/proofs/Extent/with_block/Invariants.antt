-- `Extent::with_block`, the loop's invariant: the box with the first points.
use Rattle.std.proofs.Common.{◌≡◌}
use Rattle.frame.specs.Bounds as Bounds
use Rattle.frame.proofs.Extent.with_block.Given as goal

abbrev pub invariant-loop-pair : goal.invariant-loop-pair
invariant-loop-pair l = l.e ≡ Bounds.widened l.initial.e l.reading.points l.pair-index
