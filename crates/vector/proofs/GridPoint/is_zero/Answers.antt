-- `is_zero`: the derived equality is the definition's.
use mathlib.Core.Path.{◌∙◌}
use Rattle.vector.specs.Grid.{origin}
use Rattle.vector.proofs.Same.{derived_same}
use Rattle.vector.proofs.GridPoint.is_zero.Goals as goal

pub returns : goal.returns
returns c = c.eq.ensures ∙ derived_same c.args.self origin
