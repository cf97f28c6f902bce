-- `bent`, the loop's invariant: the first of the new places hold what is kept of the first i, and the
-- places that were kept before, by which they are judged, are unchanged.
use Rattle.clean_steps.specs.Places.{bent_places}
use Rattle.clean_steps.specs.KeptPlaces.{kept_points}
use Rattle.clean_steps.proofs.Filter.{Filter}
use Rattle.flat_points.proofs.bent.Given as goal

abbrev pub invariant-loop-i : goal.invariant-loop-i
invariant-loop-i l =
    Filter l.r (bent_places l.r.tol (kept_points l.r)) l.places l.count l.i
