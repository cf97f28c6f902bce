-- `mean`, the loop's invariant: x and y are the sums over the corners passed, in their order.
use mathlib.Core.Path.{◌≡◌}
use Prim.Native.Nat.{ℕ}
use lib.ListN.{get_or}
use Rattle.nodes.specs.Flat.{node_in_of}
use Rattle.quads.specs.Quads.{total}
use Rattle.quads.proofs.mean.Given as goal

abbrev pub invariant-loop-v : goal.invariant-loop-v
invariant-loop-v l =
    (l.x ≡ total (λ (k : ℕ). (node_in_of l.nodes (get_or l.vs k 0)).x) l.v-index)
    × (l.y ≡ total (λ (k : ℕ). (node_in_of l.nodes (get_or l.vs k 0)).y) l.v-index)
