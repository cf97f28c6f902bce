-- `pops`: whatever stack the start shows, the result shows that stack popped until none is left. The loop's invariant: after i turns
-- the state shows the stack after i pops; an empty stack stays as it is.
use Rattle.std.proofs.Common.{◌≡◌, List, length}
use Rattle.marks.specs.declared.EdgeMark.{EdgeMark}
use Rattle.split.specs.Split as Split
use Rattle.split.specs.Split.{Stack}
use Rattle.split.specs.State.{Follows, ProgressInvariant}
use Rattle.split.proofs.Progress.pops.Given as goal

abbrev pub invariant-loop-i : goal.invariant-loop-i
invariant-loop-i l =
    ProgressInvariant l.self
    × ((es : List EdgeMark) → length es ≡ 60 → (t : Stack) → Follows l.ring es l.initial.self t → Follows l.ring es l.self (Split.pops l.limits l.i t))
