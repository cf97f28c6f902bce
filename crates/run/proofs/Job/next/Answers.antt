-- `Job::next`: the block that is stepped over is what the read gave.
use Rattle.std.proofs.Common.{rules}
use Rattle.run.proofs.Job.next.Goals as goal

pub returns-clause-read : goal.returns-clause-read
returns-clause-read g c =
    let s = c.step.ensures in
    record { onward = record { block = _; bytes = s.1; few = search rules; going = search rules; steps = s.0 }; read = c.fill_block-got.ensures.read }
