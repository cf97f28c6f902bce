-- `marks_out`: the library's search over the kinds and their places is the definition's.
use Rattle.std.proofs.Common.{rules, tests, arith, sym, ◌∙◌}
use Rattle.std.proofs.lemmas.Bool.Decides.{nat_tests}
use Rattle.std.proofs.lemmas.Iterator.{YieldsList-from_slice}
use Rattle.std.proofs.lemmas.Iterator.Consumers.{YieldsList-from_enumerate}
use Rattle.std.proofs.lemmas.Iterator.Search.{any_from_yields_List}
use Rattle.given_tests.proofs.Scans.{out_of, marks_listed}
use Rattle.given_tests.proofs.marks_out.Goals as goal
use Rattle.given_tests.proofs.marks_out.Goals.{then-kinds-n, else-kinds-n}

pub returns-else-snaps-n : goal.returns-else-snaps-n
returns-else-snaps-n c =
    let ks = c.args.marking.kinds.now in
    let s = c.args.marking.snaps.now in
    elim c.if-kinds-n.branch [
      | then-kinds-n w ↦ grind (arith, nat_tests)
      | else-kinds-n w ↦
          any_from_yields_List (out_of s) _ _ _ c.any.ensures.ran (YieldsList-from_enumerate (YieldsList-from_slice ks cc) c.enumerate.ensures.count)
          (λ x b q k. search (rules, tests))
          ∙ marks_listed ks s c.args.n w.if-kinds-n.false (sym w.value-is ∙ c.if-snaps-n.false)
    ]
