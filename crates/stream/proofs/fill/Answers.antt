-- `fill`: what one read more gave stands after what came before.
use Rattle.std.proofs.Common.{rules}
use Rattle.stream.proofs.Reading.{read_on}
use Rattle.stream.proofs.fill.Goals as goal

pub loop-done-preserved : goal.loop-done-preserved
loop-done-preserved g c =
    let before = c.loop-done.invariant in (
      search rules,
      search rules,
      read_on _ _ _ c.loop-done.done c.in-Ok.more c.loop-done.bytes c.read.new.buf before.0 c.in-Ok.ensures.bound.0 before.2 c.in-Ok.ensures.bytes.0,
    )
