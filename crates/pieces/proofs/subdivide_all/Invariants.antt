-- `subdivide_all`. The loop's invariant: the pieces before i are done (`Reached`).
use Rattle.pieces.proofs.Course.{Reached}
use Rattle.pieces.proofs.subdivide_all.Given as goal

abbrev pub invariant-loop-i : goal.invariant-loop-i
invariant-loop-i l =
    Reached l.share l.initial.nodes l.used l.initial.rims l.initial.cells l.first l.ring.ring.points l.ring.edges l.pieces l.i l.nodes l.u l.rims l.cells l.at
