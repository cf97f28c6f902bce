-- The promise of the divider call, for every input: what it returns, every place of the lists afterwards, and demand 3 of an accepted ring.
use Rattle.std.specs.Prelude.{ℕ, ◌≡◌, List, Float}
use Rattle.limits.specs.declared.Limits.{Limits}
use Rattle.nodes.specs.Flat.{over}
use Rattle.quads.specs.Flat.{over_cells}
use Rattle.table.specs.declared.Row.{Row}
use Rattle.call.specs.Call.{lists_of}
use Rattle.call.specs.Divide.{CallAnswer, start_of}
use Rattle.call.specs.Demand.{AcceptedCall}
use Rattle.call.specs.Lent.{Lent, call_of, divide_lent}

-- the values v are the row of the answer a; the node list, l before, is m, and the cell list, q before, is p: its nodes and its cells over the places they
-- came from; the rim marks are t
pub record Leaves (a : CallAnswer) (v : Row) (l m : List Float) (t : List ℕ) (q p : List ℕ) : Type 0 where
  pub values : v ≡ a.row
  pub nodes : m ≡ over l a.nodes
  pub rims : t ≡ a.rims
  pub cells : p ≡ over_cells q a.cells

-- a call with the set of limits L over what the caller lent returned v and left the nodes m, the rim marks t and the cells p
pub record Promise (L : Limits) (l : Lent) (v : Row) (m : List Float) (t : List ℕ) (p : List ℕ) : Type 0 where
  pub leaves : Leaves (divide_lent L l) v l.nodes m t l.cells p
  pub accepted : v.code ≡ 0 → AcceptedCall L (start_of (call_of l)) (lists_of (call_of l)) (divide_lent L l)
