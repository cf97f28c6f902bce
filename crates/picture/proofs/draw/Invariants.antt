-- `draw`. The loop's invariant: what the first blocks reach, and that what is drawn of them was written (`At`). A turn ends the run, or comes to
-- the next block.
use Prim.Native.Nat.{◌+◌, ◌-◌, ◌/◌, ◌<◌}
use mathlib.Core.Bool.{cond}
use mathlib.Core.Path.{◌≡◌}
use lib.ListN.{length}
use Rattle.frame.specs.Bounds.{extent_of, frame_of}
use Rattle.picture.proofs.Drawing.{At}
use Rattle.picture.proofs.draw.Given as goal

abbrev pub invariant-loop-f : goal.invariant-loop-f
invariant-loop-f g l =
    At l.job l.run.state l.run.ring l.run.nodes l.run.rims l.sent (g.W.Write.contents l.initial.output) (g.W.Write.contents l.output)
    × (length l.job < 4294967296)
    × (l.f ≡ frame_of (extent_of l.job))

abbrev pub decreases-loop-f : goal.decreases-loop-f
decreases-loop-f g l =
    cond l.run.state.ended 0 (length l.job / 512 + 2 - l.run.state.block)
