use mathlib.Core.Path.{ap, ◌∙◌}
use lib.ListN.{length}
use borrow.Author.Tests.{eq-eqb, ne_eqb}
use Rattle.wear.specs.declared.Record.{Record}
use Rattle.wear.specs.Wear.{Added, added, wear_of}
use Rattle.wear.specs.Bytes.{record_in, returned, left, bytes_of}
use Rattle.wear.proofs.wear_add.Goals as goal

pub returns-in_default : goal.returns-in_default
unfolding returned left
returns-in_default c = let e = ne_eqb _ _ c.in_default.ensures.cases in (c.from.ensures ∙ rw e, rw e)

pub returns : goal.returns
unfolding returned left
returns c =
    let s = c.args in
    let e = eq-eqb (length s.«record».now) 34 c.in-Some.ensures.cases.long in
    let d = c.from-r.ensures ∙ ap record_in c.in-Some.ensures.cases.same in
    let a = ap (λ (r : Record). added r s.code s.cuts) d in (
      rw e (c.from-2.ensures ∙ ap wear_of (c.add-answer.ensures.0 ∙ ap (λ (x : Added). x.values) a)),
      rw e (c.write.ensures ∙ ap bytes_of (c.add-answer.ensures.1 ∙ ap (λ (x : Added). x.kept) a)),
    )
