use mathlib.Core.Path.{ap, ◌∙◌}
use mathlib.Core.Bool.{not}
use lib.Ieee.{of_bits, round}
use Rattle.laws.specs.Double.{lit, ◌≤f◌}
use Rattle.vector.specs.Plane as Plane
use Rattle.quads.specs.Quads as Quads
use Rattle.cell_tests.proofs.turns_left.Goals as goal

pub returns : goal.returns
unfolding Quads.turns_left lit round of_bits
returns c =
    let k = c.cross in
    ap (λ x. not (x ≤f lit 1 15)) (k.ensures ∙ (λ i. Plane.cross (c.sub-u.ensures i) (c.sub-v.ensures i)))
