-- `passes`, the loop's invariant: more passes of what is left come to the same end, in the same ring. The measure is
-- the number of points, which every turn but the last lowers.
use mathlib.Core.Path.{◌≡◌}
use Rattle.clean.proofs.Passing.{end}
use Rattle.clean.proofs.passes.Given as goal

abbrev pub invariant-loop-r : goal.invariant-loop-r
invariant-loop-r l = record {
  ring : l.r.ring.now ≡ l.initial.r.ring.now;
  tol : l.r.tol ≡ l.initial.r.tol;
  end : end l.r ≡ end l.initial.r;
}

abbrev pub decreases-loop-r : goal.decreases-loop-r
decreases-loop-r l =
    l.r.count
