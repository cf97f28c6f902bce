-- `collect_in`: its loop keeps that what is collected is all of the places passed.
use Prim.Native.Nat.{ℕ, ◌-◌, ◌≤◌}
use mathlib.Core.Path.{◌≡◌}
use mathlib.Core.List.{List}
use lib.ListN.{length}
use lib.Ieee.{Float}
use Rattle.nodes.specs.declared.nearby.RingBox.{RingBox}
use Rattle.nodes.specs.Nearby.{most_nearby}
use Rattle.survey.specs.Survey.{GoesOn}
use Rattle.survey.proofs.collect_in.Given as goal

abbrev pub State : List Float → RingBox → ℕ → List ℕ → List Float → ℕ → ℕ → List ℕ → List Float → ℕ → Type 0
State nodes w from numbers₀ xs₀ n i numbers xs k =
    (k ≤ most_nearby) × (length numbers ≡ most_nearby) × (length xs ≡ most_nearby) × GoesOn nodes w from numbers₀ xs₀ n i numbers xs k

abbrev pub invariant-loop-i : goal.invariant-loop-i
invariant-loop-i l =
    (l.i ≤ l.to) × State l.nodes l.w l.from l.initial.numbers l.initial.xs l.n l.i l.numbers l.xs l.k

abbrev pub decreases-loop-i : goal.decreases-loop-i
decreases-loop-i l =
    l.to - l.i
