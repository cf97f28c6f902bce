-- The steps of a call: the ring that it prepares, as an array holds it, and what the core asks for. Definitions only.
use Rattle.std.specs.Prelude.{ℕ, ◌+◌, ◌/◌, ◌≤◌, ◌≡◌, cond, eqb, List, ℤ, length, Float, Result, Ok, Err}
use Rattle.vector.specs.Size.{AllOnSheet}
use Rattle.vector.specs.Rings.{most_points}
use Rattle.marks.specs.declared.MarkedRing.{MarkedRing}
use Rattle.marks.specs.Part.{Part}
use Rattle.marks.specs.Edges.{part_in, ValidMarkedRing}
use Rattle.limits.specs.declared.Limits.{Limits}
use Rattle.table.specs.declared.Answer.{Answer}
use Rattle.table.specs.declared.Refusal.{Refusal}
use Rattle.table.specs.declared.Row.{Row}
use Rattle.table.specs.Answers.{values, number_of, refused_row}
use Rattle.call.specs.Call.{Lists, cell_reserve}
use Rattle.call.specs.Divide.{CallAnswer, refused, refused_or, core, start_of}
use Rattle.call.specs.Demand.{Ready, Prepared}
use Rattle.call.specs.Marked.{all_points}
use Rattle.call.specs.Lent.{all_cells, LentRecords, call_of_records, tests_by, lent_lists}
use Rattle.entry.specs.Refusal.{lists_refusal}
use Rattle.divider.specs.declared.CellRoom.{CellRoom}

-- the points of a ring or a chain that was lent are not too many, and are on the sheet
pub record OnPaper (l : List ℤ) : Type 0 where
  pub few : length l / 2 ≤ most_points
  pub sheet : AllOnSheet (all_points l)

-- a ring of r points, cleaned to p with its marks, passed the tests before those of the lists: over any lists that are ready for it, it is prepared; and the
-- set has at most 32 cuts
pub record Passing (L : Limits) (r : ℕ) (p : Part) : Type 0 where
  pub cuts : L.cuts ≤ 32
  pub from : 3 ≤ r
  pub few : r ≤ most_points
  pub prepared : (x : Lists) → Ready L r x → Prepared L r p x

-- m is the cleaned ring p with its marks
pub record Prepares (p : Part) (m : MarkedRing) : Type 0 where
  pub part : part_in m ≡ p
  pub held : ValidMarkedRing m

-- the lists that doubles and numbers hold, u and k of their places used, t the rim marks
abbrev pub lists_in : List Float → ℕ → List ℕ → List ℕ → ℕ → Lists
lists_in l u t q k = lent_lists l u t (all_cells q) k

-- the row of what a step of a call returns: that of its answer, or of a refusal with the caller's two counts
abbrev pub returned : Result Answer Refusal → ℕ → ℕ → Row
returned (Ok a) u k = values a
returned (Err why) u k = refused_row (number_of why) u k

-- what the core asks for: a ring of r points that was prepared, whatever its marks came from, and a set of at most 32 cuts
pub record CanDivideRing (L : Limits) (r : ℕ) (m : MarkedRing) (l : List Float) (u : ℕ) (t q : List ℕ) (k : ℕ) : Type 0 where
  pub cuts : L.cuts ≤ 32
  pub held : ValidMarkedRing m
  pub prepared : Prepared L r (part_in m) (lists_in l u t q k)

-- "tested in rising order": a ring of r points, cleaned to p, that the tests before those of the lists refuse with e, or not, 0; then those of the lists y; and
-- else what the core does over x
abbrev pub divide_by : Limits → ℕ → ℕ → Part → Lists → Lists → CallAnswer
divide_by L e r p y x = let n = cond (eqb e 0) (lists_refusal L r y) e in cond (eqb n 0) (core L r p x) (refused x n)

-- a call whose cells go to place k of the numbers q on, which need not be the list that is tested
abbrev pub divide_into : Limits → LentRecords → List ℕ → ℕ → CallAnswer
divide_into L l q k =
    let c = call_of_records l in
    let x = lists_in l.nodes l.node_count_of l.rims q k in
    refused_or x (tests_by (λ cs. cs) L l) (core L (length c.ring) (start_of c) x)

-- where the tested list has room for a ring, the numbers do
pub record HasRoom (L : Limits) (w : CellRoom) (q : List ℕ) : Type 0 where
  pub reserve : (r : ℕ) → r ≤ most_points → w.used + cell_reserve L r ≤ w.places → w.at + cell_reserve L r ≤ length q / 4
