-- `blocked`. The loop's invariant: no edge passed so far is crossed; the scan is left at the first that is.
use mathlib.Core.Bool.{false}
use mathlib.Core.Path.{◌≡◌}
use Rattle.laws.specs.Bounded.{any}
use Rattle.obstacles.specs.Obstacles.{crosses_edge}
use Rattle.obstacles.proofs.blocked.Given as goal

abbrev pub invariant-scan : goal.invariant-scan
invariant-scan l = (l.found ≡ false) × (any (crosses_edge l.part l.k) l.e ≡ false)
