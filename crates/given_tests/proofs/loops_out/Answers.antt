-- `loops_out`: each return is one case of the definition, by the sum so far.
use Rattle.std.proofs.Common.{get_or, refl, arith}
use borrow.Author.Tests.{le-ltb}
use Rattle.laws.proofs.Search.{any-zero, any-pass}
use Rattle.given_tests.proofs.Scans.{short, sum_next}
use Rattle.given_tests.proofs.loops_out.Goals as goal

pub loop-m-init : goal.loop-m-init
loop-m-init c = (omega arith, any-zero _, refl)

pub loop-m-preserved : goal.loop-m-preserved
loop-m-preserved c =
    let ms = c.args.loops.now in
    let o = c.loop-m in (
      omega arith,
      any-pass (short ms) o.m-index o.invariant.1 (le-ltb (get_or ms o.m-index 0) 3 (omega arith)),
      sum_next ms c.args.n o.m-index o.total (omega arith) o.invariant.2,
    )
