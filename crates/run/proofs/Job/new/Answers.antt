-- `Job::new`: the zeros of the node list are the definition's.
use mathlib.Core.Path.{refl, ap}
use lib.ListN.{replicate}
use Rattle.run.proofs.Reaching.{zero_bits}
use Rattle.run.proofs.Job.new.Goals as goal

pub returns : goal.returns
returns c = record { state = c.new.ensures; points = refl; nodes = ap (replicate 3072) zero_bits; rims = refl; cells = refl }
