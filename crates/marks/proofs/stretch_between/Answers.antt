-- `stretch_between`: what `find` over the stretches gives, as the first that joins the two.
use Rattle.std.proofs.Common.{ℕ, ◌≡◌, true, false, ap, ◌∙◌, arith, rules, tests}
use Rattle.std.proofs.lemmas.Iterator.{first_from_Range}
use Rattle.laws.specs.Bounded.{below}
use Rattle.laws.proofs.Search.{below-found, first-start}
use Rattle.chain.specs.Stretches.{stretch_in}
use Rattle.marks.specs.Marks.{joins}
use Rattle.marks.proofs.stretch_between.Goals as goal

pub returns : goal.returns
returns c =
    let a = c.args in
    let s = a.chain.now in
    let p = λ (k : ℕ). joins a.a a.b (stretch_in s.points s.snaps k) in
    below-found p 0 s.count (omega arith) c.find.result
    (first_from_Range _ _ _ c.find.result (λ k. p k ≡ true) (λ k. p k ≡ false) c.find.ensures.ran (λ x q k. search (rules, tests))
    (λ x q k. search (rules, tests)))
    ∙ ap (below s.count) (first-start p s.count)
