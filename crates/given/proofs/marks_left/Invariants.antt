-- `marks_left`. The loop's invariant: the edges before j have the marks that are left (`MarkedTo`).
use Prim.Native.Nat.{◌≤◌}
use Rattle.given.specs.Steps.{sought, mark_left, MarkedTo}
use Rattle.given.proofs.marks_left.Given as goal

abbrev pub invariant-loop-j : goal.invariant-loop-j
invariant-loop-j l =
    (l.j ≤ l.clean.ring.count) × MarkedTo (mark_left l.ring l.clean l.marking.kinds.now l.marking.snaps.now (sought l.lead)) l.j l.edges
