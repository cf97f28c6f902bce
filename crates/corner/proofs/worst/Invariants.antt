-- `worst`, for every count from 1 to 60. The loop's invariant: `worst` is the worst of the corners before i, the last of equal ones, with
-- its measure.
use Prim.Native.Nat.{◌-◌, ◌<◌}
use mathlib.Core.Path.{◌≡◌}
use Rattle.corner.specs.Corner as Corners
use Rattle.corner.proofs.worst.Given as goal

abbrev pub invariant-loop-i : goal.invariant-loop-i
invariant-loop-i l =
    (l.worst.at < l.i) × (l.worst.at ≡ Corners.worst_to l.part (l.i - 1)) × (l.worst.measure ≡ Corners.measure_at l.part l.worst.at)
