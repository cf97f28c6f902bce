-- `check`, the loop's invariant: the sum so far is the definition's, and at most 129,540 a byte.
use Prim.Native.Nat.{◌*◌, ◌≤◌}
use mathlib.Core.Path.{◌≡◌}
use Rattle.blocks.specs.Fields as Fields
use Rattle.blocks.proofs.check.Given as goal

abbrev pub invariant-loop-i : goal.invariant-loop-i
invariant-loop-i l =
    (l.sum ≤ l.i * 129540) × (l.sum ≡ Fields.check_to l.bytes l.i)
