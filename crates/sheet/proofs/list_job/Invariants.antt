-- `list_job`: it prints the nodes of a run that has ended. The loop's invariant: the state, the ring that waits, the nodes and their rim marks were reached
-- by the bytes read so far, those that the reader gave.
use Prim.Native.Nat.{◌-◌}
use mathlib.Core.Bool.{cond}
use Rattle.sheet.specs.Came.{Came}
use Rattle.sheet.proofs.list_job.Given as goal

abbrev pub invariant-loop : goal.invariant-loop
invariant-loop g l =
    Came (g.R.Read.remaining l.initial.input) (g.R.Read.remaining l.input) l.job.state l.job.ring l.job.nodes l.job.rims

abbrev pub decreases-loop : goal.decreases-loop
decreases-loop g l = cond l.job.state.ended 0 (65537 - l.job.state.block)
