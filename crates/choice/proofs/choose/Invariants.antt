-- `choose`, the loop's invariant: the points chosen among those passed are written, and `rest` has the digits that are left.
use Rattle.choice.proofs.Digits.{Written}
use Rattle.choice.proofs.choose.Given as goal

abbrev pub invariant-loop-p : goal.invariant-loop-p
invariant-loop-p l = Written l.ring l.choice l.p-index l.rest l.count l.points
