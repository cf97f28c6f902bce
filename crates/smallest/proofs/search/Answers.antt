use Rattle.std.proofs.Common.{ℕ, ◌≡◌, ◌<◌, ◌^◌, sym, ap, ◌∙◌, subst, arith, rules}
use Rattle.table.specs.Answers.{values}
use Rattle.lone_ring.specs.Number.{points, number_of_fault}
use Rattle.least.specs.Trial.{choice_of}
use Rattle.smallest.specs.Smallest.{number_of_refusal, refused, found, row_of, smallest_of, smallest_refused}
use Rattle.smallest.proofs.Entry.{tested-passes, tested-fails, among, has-least}
use Rattle.smallest.proofs.search.Goals as goal

pub returns-in_err-refusal : goal.returns-in_err-refusal
unfolding smallest_refused
returns-in_err-refusal c =
    let a = c.args in
    let e : row_of c.from_residual.result ≡ refused (number_of_refusal c.in_err-refusal.field-0.0) = search rules in
    e ∙ tested-fails a.ring.now a.chain.now a.size (values c.answer-own.result).code _ (sym c.in_err-refusal.ensures)
    ∙ ap (smallest_of a.ring.now a.chain.now a.size) c.answer-own.ensures

pub invariant_of-all : goal.invariant_of-all
invariant_of-all c = record { few = (tested-passes _ _ _ (sym c.in_ok-refusal.ensures.0)).0 }

pub unreachable-requires : goal.unreachable-requires
unreachable-requires c =
    let a = c.args in
    let s = c.in_ok-refusal.ensures in
    let p = tested-passes _ _ _ (sym s.0) in
    let h = has-least a.ring.now a.chain.now a.size (values c.answer-own.result).code c.answer-own.ensures p.0 p.1 p.2 in
    let w = c.from.ensures ∙ s.1 in
    let k = subst (λ (w : ℕ). choice_of a.ring.now a.chain.now a.size (points a.ring.now) w < 2 ^ points a.ring.now) (sym w) h in
    omega (arith, k, c.in_default.ensures)

pub returns : goal.returns
unfolding smallest_refused
returns c =
    let a = c.args in
    let s = c.in_ok-refusal.ensures in
    let f = number_of_fault c.in_ok-refusal.refusal in
    let p = tested-passes _ _ _ (sym s.0) in
    ap (found f) (sym c.in-Some.ensures.1)
    ∙ ap (λ (w : ℕ). found w (choice_of a.ring.now a.chain.now a.size (points a.ring.now) c.from.result)) (sym c.from.ensures)
    ∙ ap (λ (w : ℕ). found w (choice_of a.ring.now a.chain.now a.size (points a.ring.now) w)) (c.from.ensures ∙ s.1)
    ∙ among a.ring.now a.chain.now a.size _ p.0 p.1 p.2
    ∙ ap (smallest_of a.ring.now a.chain.now a.size) c.answer-own.ensures
