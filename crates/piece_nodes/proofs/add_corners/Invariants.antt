-- `add_corners`. The loop's invariant: the first i corners are added.
use Rattle.piece_nodes.specs.Adding.{corner_at, Adds}
use Rattle.piece_nodes.proofs.add_corners.Given as goal

abbrev pub invariant-loop-i : goal.invariant-loop-i
invariant-loop-i l = Adds l.initial.nodes l.used (corner_at l.points) l.i l.initial.list l.nodes l.at l.list
