-- `write_block`: the body, then its check in the last four bytes.
use Rattle.block_writer.proofs.Words.{closed}
use native.Mathlib.Omega.{arith}
use Rattle.block_writer.proofs.write_block.Goals as goal

pub returns : goal.returns
returns c =
    let a = c.args in
    closed a.points.now a.size a.number a.out.now c.write_body.new.out _ _ (omega arith) c.write_body.ensures
    c.check-sum.ensures c.put_word.ensures
