use native.Mathlib.Omega.{arith}
use borrow.Author.Rules.{rules}
use Rattle.std.specs.Slice.Iter.{iter_rest}
use Rattle.text.proofs.Forms.{begun, stands_for_room, stands_for-written, whole}
use Rattle.text.proofs.Page.form.Goals as goal

pub loop-b-init : goal.loop-b-init
loop-b-init g c =
    begun g.M.Slots.stands g.M.Slots.takes c.args.form.now c.args.numbers.now c.args.self.now c.requires (iter_rest c.iter-left.result) (search rules)

pub put-requires : goal.put-requires
put-requires g c = stands_for_room c.loop-b.invariant c.loop-b-test.true

pub loop-b-preserved : goal.loop-b-preserved
loop-b-preserved g c = stands_for-written c.loop-b.invariant c.loop-b-test.true c.put.ensures.taken c.put.ensures.written

pub returns : goal.returns
returns g c = whole c.loop-b.invariant (omega (arith, c.loop-b.auto.b-index-end, c.loop-b-test.false))
