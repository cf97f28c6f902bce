-- `cleared`, the loop's invariant: the first i points are those that are kept.
use Rattle.std.proofs.Common.{◌≡◌, length, take}
use Rattle.laws.specs.Table.{tab}
use Rattle.clean_steps.proofs.KeptPoints.{point}
use Rattle.clean.proofs.cleared.Given as goal

abbrev pub invariant-loop-i : goal.invariant-loop-i
invariant-loop-i l = (length l.point-items ≡ l.r.count) × (take l.i l.point-items ≡ tab (point l.r) l.i)
