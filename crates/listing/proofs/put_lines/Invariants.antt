-- `put_lines`, the loop's invariant: the lines of the first i nodes are written.
use Prim.Native.Nat.{◌≤◌}
use Rattle.text.specs.Page.{Wrote}
use Rattle.listing.specs.Sheet.{lines}
use Rattle.listing.proofs.put_lines.Given as goal

abbrev pub invariant-loop-i : goal.invariant-loop-i
invariant-loop-i l =
    (l.i ≤ l.count) × Wrote l.initial.page (lines l.nodes l.i) l.page
