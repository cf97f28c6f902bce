-- `joins`: the derived equality of points is the definition's, and each return is one of its cases.
use Rattle.std.proofs.Common.{sym, ◌∙◌, add-one}
use Rattle.vector.proofs.Same.{derived_same}
use Rattle.marks.specs.Marks as Marks
use Rattle.marks.proofs.joins.Goals as goal
use Rattle.marks.proofs.joins.Goals.{then-eq, else-eq}

pub returns-then-eq-2 : goal.returns-then-eq-2
unfolding Marks.joins
returns-then-eq-2 c =
    let a = c.args in
    rw (sym (add-one c.args.j)) (elim c.if-eq.branch [
      | then-eq w ↦
          rw (sym (c.eq.ensures ∙ derived_same _ a.a) ∙ w.if-eq.true, sym (w.value-is ∙ w.eq-then-eq.ensures ∙ derived_same _ a.b) ∙ c.if-eq-2.true)
          c.if-eq-2.true
      | else-eq w ↦ cc
    ])

pub returns-then-eq-3 : goal.returns-then-eq-3
unfolding Marks.joins
returns-then-eq-3 c =
    let a = c.args in
    let first = sym (c.eq.ensures ∙ derived_same _ a.a) in
    let back = sym (c.eq-else-eq-2.ensures ∙ derived_same _ a.b) ∙ c.if-eq-3.true in
    let last = c.eq-then-eq-3.ensures ∙ derived_same _ a.a in
    rw (sym (add-one c.args.j)) (elim c.if-eq.branch [
      | then-eq w ↦ rw (first ∙ w.if-eq.true, sym (w.value-is ∙ w.eq-then-eq.ensures ∙ derived_same _ a.b) ∙ c.if-eq-2.false, back) last
      | else-eq w ↦ rw (first ∙ w.if-eq.false, back) last
    ])

pub returns-else-eq-3 : goal.returns-else-eq-3
unfolding Marks.joins
returns-else-eq-3 c =
    let a = c.args in
    let first = sym (c.eq.ensures ∙ derived_same _ a.a) in
    let back = sym (c.eq-else-eq-2.ensures ∙ derived_same _ a.b) ∙ c.if-eq-3.false in
    rw (sym (add-one c.args.j)) (elim c.if-eq.branch [
      | then-eq w ↦
          rw (first ∙ w.if-eq.true, sym (w.value-is ∙ w.eq-then-eq.ensures ∙ derived_same _ a.b) ∙ c.if-eq-2.false, back) c.if-eq-3.false
      | else-eq w ↦ rw (first ∙ w.if-eq.false, back) c.if-eq-3.false
    ])
