-- `root_head`, the loop's invariant: a is the whole part of n's root, or above it. The measure is a.
use Rattle.root.proofs.Heron.{Above}
use Rattle.root.proofs.root_head.Given as goal

abbrev pub invariant-loop-a : goal.invariant-loop-a
invariant-loop-a l =
    Above l.n l.a

abbrev pub decreases-loop-a : goal.decreases-loop-a
decreases-loop-a l =
    l.a
