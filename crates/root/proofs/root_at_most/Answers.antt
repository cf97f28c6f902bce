-- `root_at_most`: by `root-above` where no root is taken.
use mathlib.Core.Path.{sym, subst}
use lib.Dec.{T}
use lib.Ieee.{binary64, fits, of_bits}
use Rattle.root.proofs.AtLeast.{root-above}
use Rattle.root.proofs.root_at_most.Goals as goal
use Rattle.root.proofs.root_at_most.Goals.{Start}

-- what owning an `f64` tells: the format holds it
held : (c : Start) → T (fits binary64 c.args.x)
held c = subst T (sym c.well_formed.0.1) tt

pub returns-then-t : goal.returns-then-t
unfolding of_bits
returns-then-t c = sym (root-above c.args.x c.args.t (held (goal.at.returns-then-t c).Start) c.if-x.true c.if-t.true)
