-- `width`: the number lies between two powers of ten, or is 0.
use mathlib.Core.Path.{ap, ◌∙◌}
use native.Mathlib.Omega.{arith}
use Prim.Native.Nat.{ℕ, ◌+◌}
use Rattle.text.proofs.Decimal.{at-most_20}
use Rattle.listing.proofs.Texts.{long-or}
use Rattle.listing.proofs.width.Goals as goal

pub returns : goal.returns
returns c =
    let n = c.args.n in
    let k = c.checked_ilog10 in
    let e = ap (λ (m : ℕ). m + 1) c.unwrap_or.ensures ∙ long-or k.result n c.ranges.n.fits k.ensures.none k.ensures.power_le k.ensures.next_power_gt in
    (e, omega (arith, e, at-most_20 n))
