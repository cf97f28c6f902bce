use mathlib.Core.Path.{◌≡◌, refl, ap, ◌∙◌}
use Prim.Native.Nat.{ℕ}
use lib.ListN.{length, get_or}
use lib.Ieee.{of_bits, of_int, round}
use Rattle.laws.specs.Double.{nat, ◌/f◌}
use Rattle.nodes.specs.Flat.{node_in_of}
use Rattle.quads.specs.Quads as Quads
use Rattle.quads.specs.Quads.{total}
use native.Mathlib.Omega.{arith}
use Rattle.quads.proofs.mean.Goals as goal

pub loop-v-init : goal.loop-v-init
unfolding total of_bits of_int round
loop-v-init c = (refl, refl)

pub returns : goal.returns
unfolding Quads.mean
returns c =
    let l = c.loop-v in
    let ns = c.args.nodes.now in
    let vs = c.args.vs.now in
    let e : l.v-index ≡ length vs = omega arith in
    λ j. record {
      x = (l.invariant.0 ∙ ap (total (λ (k : ℕ). (node_in_of ns (get_or vs k 0)).x)) e) j /f nat (length vs);
      y = (l.invariant.1 ∙ ap (total (λ (k : ℕ). (node_in_of ns (get_or vs k 0)).y)) e) j /f nat (length vs);
    }
