-- 01, Units and What must be recast: a call over the lists that a caller lends. A ring and a chain are numbers, x and y in turn, and so are the nodes; a cell
-- is four numbers, or a record of four; a rim mark is a byte. An odd length of a ring or a chain is a count out of limits, 1. What is left over at the end of
-- a node or cell list is no place, and stays as found.
use Rattle.std.specs.Prelude.{ℕ, ◌+◌, ◌*◌, ◌/◌, ◌%◌, Bool, ◌||◌, not, List, ◌∷◌, length, get_or, eqb, ℤ, pos, Float}
use Rattle.laws.specs.Table.{tab}
use Rattle.vector.specs.declared.GridPoint.{GridPoint}
use Rattle.limits.specs.declared.Limits.{Limits}
use Rattle.nodes.specs.Flat.{nodes_in}
use Rattle.quads.specs.declared.Cell.{Cell}
use Rattle.table.specs.Refusals.{Refusal, ◌when◌, in_order}
use Rattle.limits.specs.Sets.{practice_set}
use Rattle.call.specs.Call.{Lists, Call, lists_of, over24, made_by, no_test}
use Rattle.call.specs.Divide.{CallAnswer, refused_or, core, start_of}

-- point i, and the first n points
abbrev pub point_in : List ℤ → ℕ → GridPoint
point_in l i = record { x = get_or l (i * 2) (pos 0); y = get_or l (i * 2 + 1) (pos 0) }

abbrev pub points_in : List ℤ → ℕ → List GridPoint
points_in l n = tab (point_in l) n

-- cell i, the first n cells, and all of them
abbrev pub cell_in : List ℕ → ℕ → Cell
cell_in l i = record { a = get_or l (i * 4) 0; b = get_or l (i * 4 + 1) 0; c = get_or l (i * 4 + 2) 0; d = get_or l (i * 4 + 3) 0 }

abbrev pub cells_in : List ℕ → ℕ → List Cell
cells_in l n = tab (cell_in l) n

abbrev pub all_cells : List ℕ → List Cell
all_cells l = cells_in l (length l / 4)

-- the lists that doubles and numbers hold, with the cells cs: u nodes and k cells of them used, t the rim marks
abbrev pub lent_lists : List Float → ℕ → List ℕ → List Cell → ℕ → Lists
lent_lists l u t cs k = record { nodes = nodes_in l (length l / 2); node_count_of = u; rims = t; cells = cs; cell_count_of = k }

-- what a caller lends, its cells in a list of A
pub record LentOf (A : Type 0) : Type 0 where
  pub ring : List ℤ
  pub chain : List ℤ
  pub size : ℕ
  pub nodes : List Float
  pub node_count_of : ℕ
  pub rims : List ℕ
  pub cells : List A
  pub cell_count_of : ℕ

-- the same of its parts, in the order in which every entry takes them
abbrev pub lent : {A : Type 0} → List ℤ → List ℤ → ℕ → List Float → ℕ → List ℕ → List A → ℕ → LentOf A
lent ring chain size nodes node_count_of rims cells cell_count_of =
    record { ring = ring; chain = chain; size = size; nodes = nodes; node_count_of = node_count_of; rims = rims; cells = cells; cell_count_of = cell_count_of }

-- the call that the lists stand for, `read` giving the cells
abbrev pub call_by : {A : Type 0} → (List A → List Cell) → LentOf A → Call
call_by read l =
    record {
      ring = points_in l.ring (length l.ring / 2);
      chain = points_in l.chain (length l.chain / 2);
      size = l.size;
      nodes = nodes_in l.nodes (length l.nodes / 2);
      node_count_of = l.node_count_of;
      rims = l.rims;
      cells = read l.cells;
      cell_count_of = l.cell_count_of;
    }

abbrev pub odd : List ℤ → Bool
odd l = not (eqb (length l % 2) 0)

-- its tests, with the entry's own, and the divider call; nodes and cells go back over the places that they came from
abbrev pub tests_for : {A : Type 0} → (ℕ → ℕ → Bool) → (List A → List Cell) → Limits → LentOf A → List Refusal
tests_for own read L l = 1 when (odd l.ring || odd l.chain) ∷ in_order (made_by own L (call_by read l))

abbrev pub divide_for : {A : Type 0} → (ℕ → ℕ → Bool) → (List A → List Cell) → Limits → LentOf A → CallAnswer
divide_for own read L l =
    let c = call_by read l in
    refused_or (lists_of c) (tests_for own read L l) (core L (length c.ring) (start_of c) (lists_of c))

-- the examination entry, which has no test of its own
abbrev pub tests_by : {A : Type 0} → (List A → List Cell) → Limits → LentOf A → List Refusal
tests_by read L l = tests_for no_test read L l

abbrev pub divide_by : {A : Type 0} → (List A → List Cell) → Limits → LentOf A → CallAnswer
divide_by read L l = divide_for no_test read L l

-- ---- cells as numbers, four a cell
abbrev pub Lent : Type 0
Lent = LentOf ℕ

abbrev pub call_of : Lent → Call
call_of l = call_by all_cells l

unfoldable pub divide_lent : Limits → Lent → CallAnswer
divide_lent L l = divide_by all_cells L l

-- 02, Card 8: the practice paper has "an entry of its own over the same divider", its own test of the counts and its own set
abbrev pub practice_tests : Lent → List Refusal
practice_tests l = tests_for over24 all_cells practice_set l

unfoldable pub divide_practice : Lent → CallAnswer
divide_practice l = divide_for over24 all_cells practice_set l

-- ---- cells as records
abbrev pub LentRecords : Type 0
LentRecords = LentOf Cell

abbrev pub call_of_records : LentRecords → Call
call_of_records l = call_by (λ cs. cs) l

unfoldable pub divide_records : Limits → LentRecords → CallAnswer
divide_records L l = divide_by (λ cs. cs) L l
