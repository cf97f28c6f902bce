-- 01, Cells: "Cells are records of four node numbers in a lent list": what a call over such a list promises, and how its cells come into it.
use Rattle.std.specs.Prelude.{ℕ, zero, suc, ◌+◌, ◌≡◌, cond, List, set, eqb, Float}
use Rattle.limits.specs.declared.Limits.{Limits}
use Rattle.nodes.specs.Flat.{over}
use Rattle.quads.specs.declared.Cell.{Cell}
use Rattle.table.specs.declared.Row.{Row}
use Rattle.table.specs.Answers.{with_cells}
use Rattle.call.specs.Call.{lists_of}
use Rattle.call.specs.Divide.{put, start_of}
use Rattle.call.specs.Demand.{AcceptedCall}
use Rattle.call.specs.Lent.{cell_in, cells_in, LentRecords, call_of_records, divide_records}
use Rattle.cell_records.specs.declared.Laid.{Laid}

-- the promise: a call with the set of limits L over what the caller lent returned v and left the nodes m, the rim marks t and the cells p
pub record RecordsPromise (L : Limits) (l : LentRecords) (v : Row) (m : List Float) (t : List ℕ) (p : List Cell) : Type 0 where
  pub values : v ≡ (divide_records L l).row
  pub nodes : m ≡ over l.nodes (divide_records L l).nodes
  pub rims : t ≡ (divide_records L l).rims
  pub cells : p ≡ (divide_records L l).cells
  pub accepted : v.code ≡ 0 → AcceptedCall L (start_of (call_of_records l)) (lists_of (call_of_records l)) (divide_records L l)

-- the list l with the first n cells of the numbers x in its places from i on, one after the other
abbrev pub written : List Cell → ℕ → List ℕ → ℕ → List Cell
written l i x zero = l
written l i x (suc k) = set (written l i x k) (i + k) (cell_in x k)

-- the call came to r, its cells as numbers, and left the nodes m and the rim marks t
pub record Numbers (L : Limits) (l : LentRecords) (r : Laid) (m : List Float) (t : List ℕ) : Type 0 where
  pub values : r.values ≡ (divide_records L l).row
  pub nodes : m ≡ over l.nodes (divide_records L l).nodes
  pub rims : t ≡ (divide_records L l).rims
  pub cells : put l.cells r.at (cells_in r.numbers r.count) ≡ (divide_records L l).cells

-- the row v of a call over numbers x that has no cells before its own, for a list in which they go to place i: those of the call, or, after an 8, its reserve
abbrev pub new_cells : Row → ℕ → ℕ
new_cells v reserve = cond (eqb v.code 8) reserve v.cells

abbrev pub laid_of : Row → List ℕ → ℕ → ℕ → Laid
laid_of v x i reserve = record { numbers = x; at = i; count = new_cells v reserve; values = with_cells v (i + v.cells) }
