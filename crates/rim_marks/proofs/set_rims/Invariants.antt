-- `set_rims`, the loop's invariant: the rims stand as the numbers passed set them.
use mathlib.Core.Path.{◌≡◌}
use lib.ListN.{length}
use Rattle.rim_marks.specs.Marking.{set_at}
use Rattle.rim_marks.proofs.set_rims.Given as goal

abbrev pub invariant-loop-k : goal.invariant-loop-k
invariant-loop-k l =
    l.rims ≡ set_at l.initial.rims l.list l.on (length l.yielded)
