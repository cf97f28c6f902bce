-- `run`. The loop's invariant: the state, the ring that waits, the nodes, their rim marks and the count of bytes written were reached by the bytes read so far,
-- those that the reader gave; and what the writer holds has grown by their text.
use Prim.Native.Nat.{◌-◌}
use mathlib.Core.Bool.{cond}
use Rattle.run.specs.Given.{UnderWay}
use Rattle.run.proofs.run.Given as goal

abbrev pub invariant-loop-told : goal.invariant-loop-told
invariant-loop-told g l =
    UnderWay (g.R.Read.remaining l.initial.input) (g.R.Read.remaining l.input) (g.W.Write.contents l.initial.output) (g.W.Write.contents l.output)
    l.job.state l.job.ring l.job.nodes l.job.rims l.sent

abbrev pub decreases-loop-told : goal.decreases-loop-told
decreases-loop-told g l = cond l.job.state.ended 0 (65537 - l.job.state.block)
