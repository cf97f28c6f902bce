use mathlib.Core.Bool.{true, false}
use lib.IntN.{pos}
use lib.Dec.{lit≤}
use lib.Ieee.{fin, of_bits, neg}
use Rattle.laws.proofs.Between.{between-within}
use Rattle.extent.proofs.side.Goals as goal

pub returns-then-is_nan : goal.returns-then-is_nan
unfolding of_bits neg
returns-then-is_nan c = (tt, lit≤ tt)

pub returns : goal.returns
unfolding of_bits neg
returns c =
    let b = c.clamp.ensures.bound c.if-is_nan.ensures.not_nan in
    between-within 1025 (fin true 1025 (pos 0)) c.clamp.result (fin false 1025 (pos 0)) (tt, lit≤ tt) (tt, lit≤ tt) b.0 b.1
