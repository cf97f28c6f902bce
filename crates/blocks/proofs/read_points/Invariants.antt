-- `read_points`, the loop's invariant: the first k coordinates are in their places.
use mathlib.Core.Path.{◌≡◌}
use lib.ListN.{length, take}
use Rattle.laws.specs.Table.{tab}
use Rattle.blocks.specs.Fields as Fields
use Rattle.blocks.proofs.read_points.Given as goal

abbrev pub invariant-loop-k : goal.invariant-loop-k
invariant-loop-k l =
    (length l.point-items ≡ 120) × (take l.k l.point-items ≡ tab (Fields.coordinate l.bytes) l.k)
