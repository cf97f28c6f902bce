-- `rotated_points`. The loop's invariant: the places filled are the points of the corners from v on, counted round.
use Rattle.std.proofs.Common.{◌≡◌, ℕ, ◌+◌, ◌%◌, ◌≤◌, length, get_or, take}
use Rattle.laws.specs.Table.{tab}
use Rattle.vector.specs.Grid.{origin}
use Rattle.vector.specs.Size.{AllOnSheet}
use Rattle.parts.specs.Vertices.{corner_point}
use Rattle.parts.proofs.list.RingPart.rotated_points.Given as goal

abbrev pub invariant-loop-i : goal.invariant-loop-i
invariant-loop-i l =
    (length l.out.points ≡ 60) × (l.out.count ≡ length l.self.corners.now)
    × (take (length l.yielded) l.out.points
    ≡ tab (λ k. corner_point l.self.ring.now l.self.corners.now ((l.v + k) % length l.self.corners.now)) (length l.yielded))
    × AllOnSheet l.out.points
    × ((k : ℕ) → length l.yielded ≤ k → get_or l.out.points k origin ≡ origin)
