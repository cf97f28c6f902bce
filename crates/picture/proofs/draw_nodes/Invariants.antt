-- `draw_nodes`. The loop's invariant: the first i nodes were written behind the head and the rings, and as many bytes as all of these have.
use Prim.Native.Nat.{◌+◌, ◌*◌, ◌≤◌}
use mathlib.Core.Path.{◌≡◌}
use lib.ListN.{length}
use Rattle.picture.specs.Picture.{rings_drawn, nodes_drawn, most_rings, Grows, Left}
use Rattle.picture.proofs.draw_nodes.Given as goal

abbrev pub invariant-loop-i : goal.invariant-loop-i
invariant-loop-i g l =
    record {
      sent : l.sent ≡ length (nodes_drawn l.job l.i);
      bound : l.sent ≤ most_rings + 256 * l.i;
      left : Left l.job l.used l.nodes l.rims;
      text : Grows (g.W.Write.contents l.initial.output) (g.W.Write.contents l.output) (rings_drawn l.job) (nodes_drawn l.job l.i);
    }
