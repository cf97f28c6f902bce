-- `nearest_in_loop`, the loop's invariant: the best found is that of the segments passed.
use mathlib.Core.Path.{◌≡◌}
use Rattle.laws.specs.Table.{tab}
use Rattle.outline.specs.Outline.{segment, nearest_from}
use Rattle.outline.proofs.nearest_in_loop.Given as goal

abbrev pub invariant-loop-i : goal.invariant-loop-i
invariant-loop-i l = l.found ≡ nearest_from l.p l.initial.found (tab (segment l.ring) l.i)
