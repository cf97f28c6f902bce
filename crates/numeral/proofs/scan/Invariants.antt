-- `scan`, the loop's invariant: the first bytes were met.
use Rattle.numeral.specs.Numeral as Numeral
use lib.ListN.{length}
use mathlib.Core.Path.{◌≡◌}
use Prim.Native.Nat.{◌≤◌}
use Rattle.numeral.proofs.scan.Given as goal

abbrev pub invariant-loop-b : goal.invariant-loop-b
invariant-loop-b l =
    (length l.body ≤ 19) × (l.s ≡ Numeral.scan_to l.body l.b-index)
