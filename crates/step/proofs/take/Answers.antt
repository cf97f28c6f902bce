-- `take`: a ring that waits leaves the cell list empty.
use Rattle.job.specs.Step.{taken}
use Rattle.step.proofs.take.Goals as goal

pub returns-in-Ring : goal.returns-in-Ring
unfolding taken
returns-in-Ring c = rw (c.in-Ring.is, c.requires.1) (c.wait.ensures c.args.nodes.now c.args.rims.now)
