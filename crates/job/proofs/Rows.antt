-- The row of a divider call can be printed: an accepted ring lists no fewer nodes than before, and its cells stand in the list.
use Prim.Native.Nat.{ℕ, ◌*◌, ◌/◌, ◌≤◌}
use mathlib.Core.Path.{◌≡◌, ap}
use mathlib.Core.List.{List}
use native.Mathlib.Omega.{arith}
use native.Mathlib.Decide.{dec_le}
use lib.ListN.{length}
use lib.Ieee.{Float}
use Rattle.laws.proofs.Table.{length_tab}
use Rattle.limits.specs.Limits.{delivered}
use Rattle.call.specs.Call.{lists_of}
use Rattle.call.specs.Divide.{start_of}
use Rattle.call.specs.Demand.{AcceptedCall}
use Rattle.call.specs.Lent.{Lent, call_of, cell_in, divide_lent}
use Rattle.table.specs.declared.Row.{Row}
use Rattle.divider.specs.Promise.{Promise}
use Rattle.told.specs.Text.{PrintableRow}

module _ (l : Lent) (v : Row) (m : List Float) (t : List ℕ) (p : List ℕ) (q : Promise delivered l v m t p) (e : length p ≡ length l.cells) where
  grown : v.code ≡ 0 → l.node_count_of ≤ v.nodes
  grown h = go (dec_le l.node_count_of v.nodes)
    where
      d : AcceptedCall delivered (start_of (call_of l)) (lists_of (call_of l)) (divide_lent delivered l)
      d = q.accepted h

      same : v.nodes ≡ (divide_lent delivered l).row.nodes
      same = ap (λ (w : Row). w.nodes) q.leaves.values

      go : Dec (l.node_count_of ≤ v.nodes) → l.node_count_of ≤ v.nodes
      go (yes k) = k
      go (no k) = absurd (omega (arith, same, (d.old_nodes v.nodes (omega arith)).0))

  listed : v.code ≡ 0 → v.cells * 4 ≤ length p
  listed h =
      let f = (q.accepted h).cells_fit in
      let s : v.cells ≡ (divide_lent delivered l).row.cells = ap (λ (w : Row). w.cells) q.leaves.values in
      let n = length_tab (cell_in l.cells) (length l.cells / 4) in
      omega arith

  pub printable : PrintableRow l.node_count_of v p
  printable = record { grown = grown; listed = listed }
