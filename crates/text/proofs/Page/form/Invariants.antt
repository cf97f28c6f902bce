-- `Page::form`, the loop's invariant: a form being filled.
use Rattle.std.specs.Slice.Iter.{iter_rest}
use Rattle.text.proofs.Forms.{Filling}
use Rattle.text.proofs.Page.form.Given as goal

abbrev pub invariant-loop-b : goal.invariant-loop-b
invariant-loop-b g l = Filling g.M.Slots.stands g.M.Slots.takes l.form l.numbers l.initial.self (iter_rest l.left) l.b-index l.self
