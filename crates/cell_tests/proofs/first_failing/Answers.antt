-- `first_failing`: what `find` over the places gives, as the first place that fails.
use Rattle.std.proofs.Common.{ℕ, ◌≡◌, true, false, not, length, get_or, ap, ◌∙◌, arith, rules, tests}
use Rattle.std.proofs.lemmas.Iterator.{first_from_Range}
use Rattle.laws.specs.Bounded.{below}
use Rattle.laws.proofs.Search.{below-found, first-start}
use Rattle.nodes.specs.Flat.{nodes_in}
use Rattle.quads.specs.Quads as Quads
use Rattle.quads.specs.Quads.{no_cell}
use Rattle.quads.specs.Round.{cells_of}
use Rattle.cell_tests.proofs.first_failing.Goals as goal

pub returns : goal.returns
returns c =
    let a = c.args in
    let p = λ (k : ℕ). not (Quads.holds (nodes_in a.nodes.now a.used) (get_or (cells_of a.round.now) k no_cell)) in
    let n = length a.round.now.middles.now in
    below-found p 0 n (omega arith) c.find.result
    (first_from_Range _ _ _ c.find.result (λ k. p k ≡ true) (λ k. p k ≡ false) c.find.ensures.ran (λ x q k. search (rules, tests))
    (λ x q k. search (rules, tests)))
    ∙ ap (below n) (first-start p n)
