-- `spaced`, the loop's invariant: the first of the new places hold what is kept of the places up to the one at hand.
use Prim.Native.Nat.{◌+◌, ◌≤◌}
use Rattle.clean_steps.specs.Places.{spaced_places}
use Rattle.clean_steps.specs.KeptPlaces.{kept_points}
use Rattle.clean_steps.proofs.Filter.{Filter}
use Rattle.clean_steps.proofs.KeptPlaces.spaced.Given as goal

abbrev pub invariant-loop-p : goal.invariant-loop-p
invariant-loop-p l =
    Filter l.self (spaced_places l.self.tol (kept_points l.self)) l.places l.count (l.p-index + 1) × (1 ≤ l.count)
