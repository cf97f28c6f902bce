use Rattle.std.proofs.Common.{rules, ◌≡◌, ℕ, max, ◌∙◌}
use Rattle.std.specs.List.{fold}
use Rattle.wear.proofs.Laws.{fold-highest}
use Rattle.wear.proofs.highest.Goals as goal

pub returns : goal.returns
returns c =
    let l = c.args.cuts.now in
    let e : c.fold.result ≡ fold (λ (a x : ℕ). max a x) 0 l = search rules in
    e ∙ fold-highest l
