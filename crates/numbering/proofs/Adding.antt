-- One point added to the lent list: it is listed already and nothing changes, or it stands in the next place.
use mathlib.Core.Path.{◌≡◌, sym, ap, ◌∙◌}
use mathlib.Core.List.{List, [], ◌∷◌, ◌++◌}
use Prim.Native.Nat.{ℕ, ◌+◌, ◌*◌, ◌≤◌, ◌<◌}
use native.Mathlib.Omega.{arith}
use lib.ListN.{length, set, length-append}
use lib.Ieee.{Float}
use Rattle.vector.specs.declared.Point.{Point}
use Rattle.nodes.specs.Nodes.{number, add_node}
use Rattle.nodes.specs.declared.Placed.{Placed}
use Rattle.nodes.specs.Flat.{nodes_in, over, placed}
use Rattle.nodes.proofs.Numbers.{number-le}
use Rattle.nodes.proofs.Growth.{add_node-old, add_node-new}
use Rattle.nodes.proofs.Flat.{length_in, over_in, over_snoc}

-- the list l of n nodes has become m, with u nodes, and p's number is i
abbrev Adds : List Float → List Float → ℕ → Point → ℕ → ℕ → Type 0
Adds l m n p i u = (◌≡◌ {A = Placed} (record { number = i; used = u }) (placed (nodes_in l n) p)) × (m ≡ over l (add_node (nodes_in l n) p))

module _ (l : List Float) (n i : ℕ) (p : Point) (e : i ≡ number (nodes_in l n) p) where
  pub old : n * 2 ≤ length l → i < n → Adds l l n p i n
  old h k =
      let q : add_node (nodes_in l n) p ≡ nodes_in l n = add_node-old (nodes_in l n) p (omega (arith, length_in l n)) in
      ((λ j. record { number = e j; used = (sym (ap length q ∙ length_in l n)) j }), sym (ap (over l) q ∙ over_in l n h))

  appended : n ≤ i → add_node (nodes_in l n) p ≡ nodes_in l n ++ (p ∷ [])
  appended k = add_node-new (nodes_in l n) p (omega (arith, length_in l n))

  pub longer : n ≤ i → length (add_node (nodes_in l n) p) ≡ n + 1
  longer k = omega (arith, length_in l n, ap length (appended k), length-append (nodes_in l n) (p ∷ []))

  pub new : n * 2 + 2 ≤ length l → n ≤ i → Adds l (set (set l (n * 2) p.x) (n * 2 + 1) p.y) n p n (n + 1)
  new h k =
      let a : n ≡ number (nodes_in l n) p = omega (arith, length_in l n, number-le (nodes_in l n) p) in
      let b : n + 1 ≡ length (add_node (nodes_in l n) p) = sym (longer k) in
      ((λ j. record { number = a j; used = b j }), sym (ap (over l) (appended k) ∙ over_snoc l n p h))
