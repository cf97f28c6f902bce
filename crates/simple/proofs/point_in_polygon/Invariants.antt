-- `point_in_polygon`. The loop's invariant: `inside` is the parity of the edges met so far.
use mathlib.Core.Path.{◌≡◌}
use Rattle.laws.specs.Bounded.{parity}
use Rattle.simple.specs.Simple as Simple
use Rattle.simple.proofs.point_in_polygon.Given as goal

abbrev pub invariant-loop-i : goal.invariant-loop-i
invariant-loop-i l = l.inside ≡ parity (Simple.meets_edge l.ring l.p) l.i
