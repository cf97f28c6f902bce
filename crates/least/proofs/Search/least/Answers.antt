use Rattle.std.proofs.Common.{ℕ, ◌≡◌, ◌<◌, ◌+◌, ◌^◌, ap, ◌∙◌, subst, rules}
use Rattle.std.specs.Iterator.Runs.{ItemsCountUp}
use Rattle.std.proofs.iter.runs.Sources.{range_runs}
use Rattle.choice.specs.Search.{first_of_count}
use Rattle.lone_ring.specs.Number.{points}
use Rattle.least.specs.Trial.{trial_of}
use Rattle.laws.proofs.Mapped.{first_mapped}
use Rattle.least.proofs.Counts.{least_found}
use Rattle.least.proofs.Search.least.Goals as goal

pub returns : goal.returns
returns c =
    let a = c.args.self.now in
    let t = trial_of a.ring.now a.chain.now a.size (points a.ring.now) in
    let w = a.wanted in
    let n = 2 ^ points a.ring.now in
    let r = c.find_map.ensures.runs in
    let u = r.0 in
    let up : ItemsCountUp u 3 (points a.ring.now + 1) =
    subst (λ (x : ℕ). ItemsCountUp u x (points a.ring.now + 1)) (ap (λ x. x.start) r.1)
    (subst (λ (x : ℕ). ItemsCountUp u u.from.start x) (ap (λ x. x.end) r.1 ∙ ap (λ (n : ℕ). n + 1) c.points.ensures) (range_runs u u.seen)) in
    least_found t w n (points a.ring.now) c.find_map.result
    (first_mapped _ u (λ k y. (y < n) × (first_of_count t w n k ≡ y)) (λ k. first_of_count t w n k ≡ n) (λ x y q. search rules) (λ x q. search rules)
    (λ x y q p. search rules) 3 (points a.ring.now + 1) up c.find_map.result r.2)
