-- `add_middles`, the loop's invariant: the middles of the edges passed are added, and `far` tells whether one of them is far.
use mathlib.Core.Path.{◌≡◌}
use lib.ListN.{length}
use Rattle.laws.specs.Bounded.{any}
use Rattle.piece_nodes.specs.Adding.{Adds, middle_at, far_at}
use Rattle.piece_nodes.proofs.add_middles.Given as goal

abbrev pub invariant-loop-i : goal.invariant-loop-i
invariant-loop-i l =
    Adds l.initial.nodes l.used (middle_at l.share l.initial.nodes l.used l.vs l.marks (length l.vs)) l.i l.initial.list l.nodes l.at l.list
    × (l.far ≡ any (far_at l.share l.initial.nodes l.used l.vs l.marks (length l.vs)) l.i)
