-- 02, Card 8: the promise of the practice call, and the calls that divide alike through either entry.
use Rattle.std.specs.Prelude.{ℕ, ◌+◌, ◌-◌, ◌≤◌, ◌<◌, ◌≡◌, List, length, get_or, replicate, Float}
use Rattle.limits.specs.declared.Limits.{Limits}
use Rattle.limits.specs.Limits.{delivered}
use Rattle.quads.specs.declared.Cell.{Cell}
use Rattle.quads.specs.Quads.{no_cell}
use Rattle.table.specs.declared.Row.{Row}
use Rattle.table.specs.Refusals.{Passes}
use Rattle.limits.specs.Sets.{practice_set}
use Rattle.call.specs.Call.{Lists, Call, lists_of, node_reserve, cell_reserve}
use Rattle.call.specs.Divide.{CallAnswer, put, ring_tests, cleaned_ring, start_of}
use Rattle.call.specs.Demand.{split_of, AcceptedCall}
use Rattle.call.specs.Lent.{Lent, call_of, divide_practice}
use Rattle.divider.specs.Promise.{Leaves}

-- the practice call over what the caller lent returned v and left the nodes m, the rim marks t and the cells p; demand 3 of an accepted ring, with 12 cuts
pub record PracticePromise (l : Lent) (v : Row) (m : List Float) (t : List ℕ) (p : List ℕ) : Type 0 where
  pub leaves : Leaves (divide_practice l) v l.nodes m t l.cells p
  pub accepted : v.code ≡ 0 → AcceptedCall practice_set (start_of (call_of l)) (lists_of (call_of l)) (divide_practice l)

-- ---- the calls of which the card speaks
-- "the lists hold the examination reserve": that of the set L for a ring of r points
pub record HoldsReserve (L : Limits) (r : ℕ) (x : Lists) : Type 0 where
  pub nodes : node_reserve L r ≤ length x.nodes - x.node_count_of
  pub cells : cell_reserve L r ≤ length x.cells - x.cell_count_of

-- "A ring of at most 24 points, with a chain of at most 24, in which the examination entry makes 12 cuts or fewer .. where the lists hold the examination
-- reserve". A ring that 5 to 7 refuse is not cut
pub record OnPracticePaper (c : Call) : Type 0 where
  pub ring : length c.ring ≤ 24
  pub chain : length c.chain ≤ 24
  pub cuts : Passes (ring_tests (cleaned_ring c)) → (split_of delivered c).cuts ≤ 12
  pub reserve : HoldsReserve delivered (length c.ring) (lists_of c)

-- ---- what it is to divide alike
-- the cells as 8 leaves them: the places of the reserve after the used ones are zero
abbrev pub zeroed : Limits → ℕ → Lists → List Cell
zeroed L r x = put x.cells x.cell_count_of (replicate (cell_reserve L r) no_cell)

-- the answers a, with the set L, and b, with the set M, to a ring of r points over the lists x are alike: the whole row, the nodes and the rim marks are the
-- same, and so are the cells, except with 8: "With 8, the cell places left zero follow each entry's own reserve"
pub record SameAnswer (L M : Limits) (r : ℕ) (x : Lists) (a b : CallAnswer) : Type 0 where
  pub row : b.row ≡ a.row
  pub nodes : b.nodes ≡ a.nodes
  pub rims : b.rims ≡ a.rims
  pub cells : (a.row.code ≡ 8 → ⊥) → b.cells ≡ a.cells
  pub cells_8 : a.row.code ≡ 8 → (a.cells ≡ zeroed L r x) × (b.cells ≡ zeroed M r x)

-- what two such cell lists have, place by place, l before, u of its places used, where the reserve of L is n places and that of M is m, no more: the same
-- before u + m and from u + n on; between, a has zeros and b what was found
pub record Differ (l a b : List Cell) (u m n : ℕ) : Type 0 where
  pub smaller : m ≤ n
  pub used : (i : ℕ) → i < u → (get_or a i no_cell ≡ get_or l i no_cell) × (get_or b i no_cell ≡ get_or l i no_cell)
  pub both : (i : ℕ) → u ≤ i → i < u + m → (get_or a i no_cell ≡ no_cell) × (get_or b i no_cell ≡ no_cell)
  pub between : (i : ℕ) → u + m ≤ i → i < u + n → (get_or a i no_cell ≡ no_cell) × (get_or b i no_cell ≡ get_or l i no_cell)
  pub past : (i : ℕ) → u + n ≤ i → (get_or a i no_cell ≡ get_or l i no_cell) × (get_or b i no_cell ≡ get_or l i no_cell)
