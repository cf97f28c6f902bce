use Prim.Native.Nat.{ℕ}
use mathlib.Core.Path.{ap, ◌∙◌}
use lib.ListN.{take}
use Rattle.std.specs.Prelude.{sum}
use Rattle.wear.specs.Wear.{values_in, highest, held_cuts}
use Rattle.wear.proofs.Laws.{total-sum}
use Rattle.wear.proofs.reported.Goals as goal

pub returns : goal.returns
unfolding values_in
returns c =
    let r = c.args.r.now in
    λ j. record {
      total = (c.total.ensures ∙ ap (λ (n : ℕ). sum (take n r.cuts)) c.from.ensures ∙ total-sum (held_cuts r)) j;
      highest = (c.highest.ensures ∙ ap (λ (n : ℕ). highest (take n r.cuts)) c.from.ensures) j;
      rings = c.from-2.ensures j;
    }
