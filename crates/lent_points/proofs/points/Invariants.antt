-- `points`, the loop's invariant: the first i places hold the points read.
use Rattle.std.proofs.Common.{◌≡◌, length, take}
use Rattle.laws.specs.Table.{tab}
use Rattle.call.specs.Lent.{point_in}
use Rattle.lent_points.proofs.points.Given as goal

abbrev pub invariant-loop-i : goal.invariant-loop-i
invariant-loop-i l = (length l.p-items ≡ l.n) × (take l.i l.p-items ≡ tab (point_in l.l) l.i)
