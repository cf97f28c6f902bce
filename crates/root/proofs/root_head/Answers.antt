use Prim.Native.Nat.{◌^◌}
use Rattle.root.proofs.Heron.{guess, step, Guess, first, second, third}
use Rattle.root.proofs.root_head.Goals as goal
use Rattle.root.proofs.root_head.Goals.{Start}

one : (c : Start) → Guess c.args.n (2 ^ 25) (2 ^ 28) (guess c.args.n)
one c = first c.args.n c.requires.1

two : (c : Start) → Guess c.args.n (2 ^ 24) (2 ^ 29) (step c.args.n (guess c.args.n))
two c = second c.args.n (guess c.args.n) c.requires.1 (one c)

pub loop-a-init : goal.loop-a-init
loop-a-init c = third c.args.n (step c.args.n (guess c.args.n)) (two c)
