-- `write_counted`, the loop's invariant: the count is what it was, and what was taken of the text; and that is what was written.
use Rattle.std.proofs.Common.{◌+◌, ◌-◌, ◌≤◌, ◌≡◌, length, take}
use Rattle.std.specs.Io.KnownBytes.{Appends}
use Rattle.stream.proofs.write_counted.Given as goal

abbrev pub invariant-loop-done : goal.invariant-loop-done
invariant-loop-done g l =
    (l.done ≤ length l.text) × (l.sent ≡ l.initial.sent + l.done)
    × Appends (g.W.Write.contents l.initial.output) (g.W.Write.contents l.output) (take l.done l.text)

abbrev pub decreases-loop-done : goal.decreases-loop-done
decreases-loop-done g l =
    length l.text - l.done
