-- `loops_out`. The loop keeps the sum of the loops passed, none of which is short.
use Rattle.std.proofs.Common.{◌≡◌, ◌≤◌, take, false}
use Rattle.laws.specs.Bounded.{any}
use Rattle.outline.specs.Outline.{total}
use Rattle.given_tests.proofs.Scans.{short}
use Rattle.given_tests.proofs.loops_out.Given as goal

abbrev pub invariant-loop-m : goal.invariant-loop-m
invariant-loop-m l = (l.total ≤ 60) × (any (short l.loops) l.m-index ≡ false) × (l.total ≡ total (take l.m-index l.loops))
