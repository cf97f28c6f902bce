-- `reversed`. The loop's invariant: the places filled are the corners counted back, each with the edge that now starts there,
-- and those after them blank.
use Rattle.std.proofs.Common.{◌≡◌, ◌-◌, length, take, drop}
use lib.ListN.{replicate}
use Rattle.laws.specs.Table.{tab}
use Rattle.parts.specs.Vertices.{blank, backward}
use Rattle.sub_polygons.proofs.reversed.Given as goal

abbrev pub invariant-loop-i : goal.invariant-loop-i
invariant-loop-i l =
    (length l.out ≡ 60) × (take (length l.yielded) l.out ≡ tab (backward l.vs (length l.vs)) (length l.yielded))
    × (drop (length l.yielded) l.out ≡ replicate (60 - length l.yielded) blank)
