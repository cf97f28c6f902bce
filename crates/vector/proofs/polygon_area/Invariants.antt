-- `polygon_area`, for every count from 0 to 60. The loop's invariant: the total is the fan of the
-- edges passed. It is no larger than a term of the old sum for each edge and one more (Fan.fan_small), so nothing wraps,
-- and at the end it is the area (Fan.fan_area_lem).
use mathlib.Core.Path.{◌≡◌}
use Rattle.vector.specs.Fan as Fan
use Rattle.vector.proofs.polygon_area.Given as goal

abbrev pub invariant-loop-i : goal.invariant-loop-i
invariant-loop-i l = l.total ≡ Fan.fan_to l.ring l.i
