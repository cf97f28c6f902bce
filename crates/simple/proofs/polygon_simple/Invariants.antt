-- `polygon_simple`. No pair of edges passed so far crosses: the inner loop says so of the edges passed for edge i, the outer
-- of the edges before i. The scan is left at the first pair that crosses.
use mathlib.Core.Path.{◌≡◌}
use mathlib.Core.Bool.{false}
use Rattle.laws.specs.Bounded.{any}
use Rattle.simple.specs.Simple as Simple
use Rattle.simple.proofs.polygon_simple.Given as goal

abbrev pub invariant-loop-j : goal.invariant-loop-j
invariant-loop-j l = (l.found ≡ false) × (any (Simple.edges_cross l.ring l.i) l.j ≡ false)

abbrev pub invariant-scan : goal.invariant-scan
invariant-scan l = (l.found ≡ false) × (any (λ e. any (Simple.edges_cross l.ring e) l.n) l.i ≡ false)
