-- `simplify_chain`, for every count from 0 to 60. The loop's invariant: what is collected before the
-- point i is what the definition has (`Collected`).
use Rattle.chain.proofs.Collect.{Collected}
use Rattle.chain.proofs.simplify_chain.Given as goal

abbrev pub invariant-loop-i : goal.invariant-loop-i
invariant-loop-i l =
    Collected l.chain l.points l.snaps l.count l.previous l.i
