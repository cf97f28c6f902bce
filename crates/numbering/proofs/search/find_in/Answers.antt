-- `find_in`: what `find` over the places gives, as the first of them.
use Rattle.std.proofs.Common.{ℕ, true, false, ◌≡◌, Bool, rules, tests}
use Rattle.std.proofs.lemmas.Iterator.{first_from_Range}
use Rattle.keys.specs.Keys.{key_of}
use Rattle.nodes.specs.Nodes.{has_key}
use Rattle.laws.proofs.Search.{below-found}
use Rattle.numbering.proofs.search.find_in.Goals as goal

pub returns : goal.returns
returns g c =
    let p : ℕ → Bool = λ i. has_key (key_of c.args.key.x) (key_of c.args.key.y) (g.P.Places.at c.args.places i) in
    below-found p c.args.from c.args.to c.requires.0 c.find.result
    (first_from_Range _ _ _ c.find.result (λ k. p k ≡ true) (λ k. p k ≡ false) c.find.ensures.ran (λ x q k. search (rules, tests))
    (λ x q k. search (rules, tests)))
