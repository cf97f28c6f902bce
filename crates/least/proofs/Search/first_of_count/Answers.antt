use Rattle.std.proofs.Common.{ℕ, Bool, ◌≡◌, ◌<◌, ◌-◌, ◌^◌, ◌∙◌, Option, Some, None, MatchOption, true, false, sym, ap, subst, arith, rules, tests}
use Rattle.std.proofs.lemmas.Iterator.{first_from_Range}
use Rattle.laws.specs.Bounded.{first, below}
use Rattle.laws.proofs.Search.{below-found, below-given, below-absent, first-le, first-start}
use Rattle.choice.specs.Search.{hits, first_of_count}
use Rattle.lone_ring.specs.Number.{points}
use Rattle.least.specs.Trial.{trial_of}
use Rattle.least.proofs.Search.first_of_count.Goals as goal

-- a place below n, or n itself where there is none
place : (p : ℕ → Bool) (n : ℕ) (r : Option ℕ) → r ≡ below n (first p (n - 0) 0) → MatchOption r (first p n 0 ≡ n) (λ c. (c < n) × (first p n 0 ≡ c))
place p n None e = let f = below-absent n _ e in omega (arith, f, first-start p n, first-le p n 0)
place p n (Some c) e = let f = below-given n _ c e in (f.1, sym (first-start p n) ∙ sym f.0)

pub returns : goal.returns
unfolding first_of_count
returns c =
    let a = c.args.self.now in
    let p = hits (trial_of a.ring.now a.chain.now a.size (points a.ring.now)) a.wanted c.args.k in
    subst (λ (n : ℕ). MatchOption c.find.result (first p n 0 ≡ n) (λ c. (c < n) × (first p n 0 ≡ c))) (c.power.ensures ∙ ap (λ (n : ℕ). 2 ^ n) c.points.ensures)
    (place p c.power.result c.find.result (below-found p 0 c.power.result (omega arith) c.find.result
    (first_from_Range _ _ _ c.find.result (λ k. p k ≡ true) (λ k. p k ≡ false) c.find.ensures.ran (λ x q k. search (rules, tests))
    (λ x q k. search (rules, tests)))))
