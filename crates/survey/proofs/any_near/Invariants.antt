-- `any_near`: its loop keeps what the nodes so far reach.
use mathlib.Core.Path.{◌≡◌}
use Rattle.survey.proofs.Reached.{reached}
use Rattle.survey.proofs.any_near.Given as goal

abbrev pub invariant-loop-p : goal.invariant-loop-p
invariant-loop-p l = l.near ≡ reached l.fn.w l.block l.p-index
