-- `extent_of`, the loop's invariant: what is left to do completes the box.
use Rattle.std.proofs.Common.{◌≡◌, ◌-◌, length}
use Rattle.frame.specs.Bounds as Bounds
use Rattle.frame.proofs.extent_of.Given as goal

abbrev pub invariant-loop-i : goal.invariant-loop-i
invariant-loop-i l = Bounds.extent_from l.job (length l.whole - l.i) l.i l.e ≡ Bounds.extent_of l.job
