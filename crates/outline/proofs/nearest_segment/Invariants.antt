-- `nearest_segment`, the loop's invariant: the points left hold the loops left, and the best of those, from the best found on, is that of
-- the outline.
use Prim.Native.Nat.{◌≤◌}
use mathlib.Core.Path.{◌≡◌}
use lib.ListN.{length, drop}
use Rattle.outline.specs.Outline.{segments, total, none, nearest_from}
use Rattle.outline.proofs.nearest_segment.Given as goal

abbrev pub invariant-loop-m : goal.invariant-loop-m
invariant-loop-m l =
    (total (drop l.m-index l.loops) ≤ length l.rest) × (total (drop l.m-index l.loops) ≤ 60)
    × (nearest_from l.p l.best (segments l.rest (drop l.m-index l.loops)) ≡ nearest_from l.p none (segments l.points l.loops))
