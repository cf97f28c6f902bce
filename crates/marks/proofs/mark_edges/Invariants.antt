-- `mark_edges`, for every count from 0 to 60. The loop's invariant: the edges before i have their marks.
use Rattle.chain.specs.Stretches.{stretches_in}
use Rattle.marks.specs.Edges.{Marked}
use Rattle.marks.proofs.mark_edges.Given as goal

abbrev pub invariant-loop-i : goal.invariant-loop-i
invariant-loop-i l = Marked (stretches_in l.chain) l.ring l.i l.edges
