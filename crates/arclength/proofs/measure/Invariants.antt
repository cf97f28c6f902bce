-- `measure`, for every count from 0 to 60. The loop's invariant: the places up to i hold the lengths of
-- the steps to those points, and of the chain up to them, and those after them 0; the last point and the last length are at hand.
use Prim.Native.Nat.{◌+◌, ◌-◌}
use mathlib.Core.Path.{◌≡◌}
use lib.ListN.{length, take, drop, replicate}
use Rattle.laws.specs.Double.{nat}
use Rattle.laws.specs.Table.{tab}
use Rattle.arclength.specs.Arclength as Arclength
use Rattle.arclength.specs.Arclength.{point_at, step_to}
use Rattle.arclength.proofs.measure.Given as goal

abbrev pub invariant-loop-i : goal.invariant-loop-i
invariant-loop-i l = record {
  steps : length l.step ≡ 60;
  arcs : length l.arc ≡ 60;
  step_is : take (l.i + 1) l.step ≡ tab (step_to l.chain) (l.i + 1);
  arc_is : take (l.i + 1) l.arc ≡ tab (Arclength.arc l.chain) (l.i + 1);
  step_rest : drop (l.i + 1) l.step ≡ replicate (60 - (l.i + 1)) (nat 0);
  arc_rest : drop (l.i + 1) l.arc ≡ replicate (60 - (l.i + 1)) (nat 0);
  end_is : l.end ≡ Arclength.arc l.chain l.i;
  last_is : l.last ≡ point_at l.chain l.i;
}
