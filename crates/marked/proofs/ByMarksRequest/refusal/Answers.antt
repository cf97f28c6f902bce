-- `refusal`: a ring whose count passed has 3 points or more, and what passes can be prepared.
use Prim.Native.Nat.{◌/◌}
use mathlib.Core.Path.{sym, ◌∙◌}
use lib.ListN.{length}
use Rattle.laws.proofs.Booleans.{neither}
use Rattle.call.specs.Call.{counts_out}
use Rattle.call.specs.Lent.{odd}
use Rattle.call.proofs.Tests.{counts_in}
use Rattle.marked.proofs.Preparing.{passing}
use Rattle.marked.proofs.Refusing.{no_chain}
use Rattle.marked.proofs.ByMarksRequest.refusal.Goals as goal

pub marks_out-requires : goal.marks_out-requires
marks_out-requires c =
    let r = c.args.self.ring.now in
    let o = odd r in
    let n = counts_out (length r / 2) 0 in
    (counts_in (length r / 2) 0 (neither o n (sym (c.counts_out.ensures ∙ no_chain o n) ∙ c.if-counts_out.false)).1).1

pub returns-clause-passing : goal.returns-clause-passing
returns-clause-passing c z = passing _ _ _ _ z
