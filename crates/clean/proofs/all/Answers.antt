-- `all`: each place holds its own number.
use Prim.Native.Nat.{ℕ, ◌<◌}
use mathlib.Core.Path.{◌≡◌}
use borrow.Author.Rules.{rules}
use lib.ListN.{get_or}
use Rattle.laws.proofs.Table.{is_tab}
use Rattle.clean.proofs.all.Goals as goal

pub returns : goal.returns
returns c =
    let l = c.from_fn.result in
    let k = c.from_fn.ensures.items in
    let each : (i : ℕ) → i < 60 → get_or l i 0 ≡ i = λ i h. let m = (k.at i 0 h).2 in search (rules, m) in
    is_tab l (λ (i : ℕ). i) 60 0 k.long each
