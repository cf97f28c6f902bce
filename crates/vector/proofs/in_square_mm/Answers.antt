-- `in_square_mm`: by its definition.
use mathlib.Core.Path.{◌∙◌, ap}
use lib.Ieee.{of_bits, of_int, binary64}
use native.Mathlib.Omega.{arith}
use Rattle.laws.specs.Units as Units
use Rattle.laws.proofs.Signed as signed
use Rattle.vector.proofs.in_square_mm.Goals as goal

pub returns : goal.returns
unfolding Units.mm² of_bits of_int
returns c =
    let e = c.to_double.ensures ∙ ap (of_int binary64) (signed.back c.args.z (omega arith)) in
    rw e
