-- `write`. The loop's invariant: the first k cells stand in their places, and the list is as long as it came.
use Prim.Native.Nat.{◌≤◌}
use mathlib.Core.Path.{◌≡◌}
use lib.ListN.{length}
use Rattle.cell_records.specs.Records.{written}
use Rattle.cell_records.proofs.write.Given as goal

abbrev pub invariant-loop-k : goal.invariant-loop-k
invariant-loop-k l =
    (l.k ≤ l.laid.count) × (length l.cells ≡ length l.initial.cells) × (l.cells ≡ written l.initial.cells l.laid.at l.laid.numbers l.k)
