-- `best_diagonal`. The loop's invariant: the best held is the best among the offsets passed, with its score.
use Prim.Native.Nat.{◌-◌}
use mathlib.Core.Path.{◌≡◌}
use Rattle.diagonal.specs.Diagonal.{best_to}
use Rattle.diagonal.proofs.Choosing.{held, Scored}
use Rattle.diagonal.proofs.best_diagonal.Given as goal

abbrev pub invariant-loop-k : goal.invariant-loop-k
invariant-loop-k l = (held l.best ≡ best_to l.limits l.part (l.k - 2)) × Scored l.part l.best
