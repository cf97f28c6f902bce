use mathlib.Core.Path.{refl}
use lib.Ieee.{of_bits, round}
use Rattle.laws.specs.Double.{lit}
use Rattle.quads.specs.Quads as Quads
use Rattle.quads.proofs.halfway.Goals as goal

pub returns : goal.returns
unfolding Quads.middle lit round of_bits
returns c = refl
