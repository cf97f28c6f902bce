-- `draw`. The loop's invariant: the drawing is that of the bytes read so far, those that the reader gave, and the writer got their blocks.
use Rattle.draw.specs.Given.{UnderWay}
use Rattle.draw.proofs.Reaching.{nearer}
use Rattle.draw.proofs.draw.Given as goal

abbrev pub invariant-loop-input : goal.invariant-loop-input
invariant-loop-input g l =
    UnderWay (g.R.Read.remaining l.initial.input) (g.R.Read.remaining l.input) (g.W.Write.contents l.initial.output) (g.W.Write.contents l.output) l.d l.sent

abbrev pub decreases-loop-input : goal.decreases-loop-input
decreases-loop-input g l =
    nearer l.d.state
