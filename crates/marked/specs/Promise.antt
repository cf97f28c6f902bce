-- The promise of the call with given marks, for every input: what it returns, every place of the lists afterwards, and demand 3 of an accepted ring.
use Rattle.std.specs.Prelude.{ℕ, ◌≡◌, List, Float}
use Rattle.limits.specs.declared.Limits.{Limits}
use Rattle.table.specs.declared.Row.{Row}
use Rattle.call.specs.Demand.{AcceptedCall}
use Rattle.call.specs.Marked.{LentMarked, marked_lists, marked_start, divide_marked}
use Rattle.divider.specs.Promise.{Leaves}

-- a call with the set of limits L over what the caller lent returned v and left the nodes m, the rim marks t and the cells p
pub record MarkedPromise (L : Limits) (l : LentMarked) (v : Row) (m : List Float) (t : List ℕ) (p : List ℕ) : Type 0 where
  pub leaves : Leaves (divide_marked L l) v l.nodes m t l.cells p
  pub accepted : v.code ≡ 0 → AcceptedCall L (marked_start l) (marked_lists l) (divide_marked L l)
