-- `print_sheet`. The loop's invariant: the lines of the first i nodes were written, as many bytes as they have. The test gives what a line asks for.
use Prim.Native.Nat.{◌-◌, ◌≤◌}
use mathlib.Core.Path.{◌≡◌}
use lib.ListN.{length}
use Rattle.std.specs.Io.KnownBytes.{Appends}
use Rattle.nodes.specs.Flat.{Usable}
use Rattle.listing.specs.Sheet.{lines}
use Rattle.telling.specs.Reached.{EndedWith}
use Rattle.sheet_lines.proofs.print_sheet.Given as goal

abbrev pub invariant-loop-i : goal.invariant-loop-i
invariant-loop-i g l =
    (l.i ≤ l.used) × Usable l.nodes l.used × (l.sent ≡ length (lines l.nodes l.i)) × EndedWith l.used l.nodes
    × Appends (g.W.Write.contents l.initial.output) (g.W.Write.contents l.output) (lines l.nodes l.i)

abbrev pub decreases-loop-i : goal.decreases-loop-i
decreases-loop-i g l =
    l.used - l.i
