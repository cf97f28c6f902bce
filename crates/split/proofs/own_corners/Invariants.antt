-- `own_corners`. The loop's invariant: the places filled are the ring's own corners.
use Rattle.std.proofs.Common.{◌≡◌, length}
use Rattle.split.specs.State.{Own}
use Rattle.split.proofs.own_corners.Given as goal

abbrev pub invariant-loop-i : goal.invariant-loop-i
invariant-loop-i l = (length l.c-items ≡ 60) × Own l.c-items l.i
