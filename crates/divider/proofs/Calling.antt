-- A call over lent lists by the outcome of its tests: refused, or what the core does; that a call with a chain is one (`by_chain`); and the promise from what
-- was left. As a call of a list of calls it leaves what call's specs/LentCalls says (`as_called`).
use Prim.Native.Nat.{ℕ, ◌/◌, ◌≤◌}
use native.Mathlib.Omega.{arith}
use mathlib.Core.Path.{◌≡◌, sym, ap, ◌∙◌, subst}
use mathlib.Core.Bool.{cond}
use mathlib.Core.List.{List}
use lib.Dec.{eqb}
use lib.ListN.{length}
use lib.Ieee.{Float}
use borrow.Author.Tests.{ne_eqb}
use Rattle.laws.proofs.Table.{length_tab}
use Rattle.marks.specs.declared.MarkedRing.{MarkedRing}
use Rattle.marks.specs.Part.{Part}
use Rattle.limits.specs.declared.Limits.{Limits}
use Rattle.limits.specs.Limits.{delivered}
use Rattle.quads.specs.declared.Cell.{Cell}
use Rattle.table.specs.declared.Row.{Row}
use Rattle.table.specs.Answers.{refused_row}
use Rattle.table.specs.Refusals.{first_of}
use Rattle.call.specs.Call.{Lists, Call, lists_of}
use Rattle.call.specs.Divide.{CallAnswer, refused, ring_tests, answered, core, start_of}
use Rattle.call.specs.Demand.{Ready, Prepared}
use Rattle.call.specs.Lent.{point_in, cell_in, all_cells, LentRecords, call_of_records, Lent, divide_lent, lent, lent_lists}
use Rattle.call.specs.LentCalls.{Given, numbers, Pool, lend, answer_of, leaves}
use Rattle.call.proofs.Course as Course
use Rattle.call.proofs.Course.{outcome_of}
use Rattle.call.proofs.Demand.{demand3_lent}
use Rattle.split.specs.Split.{split_bad_vertices}
use Rattle.entry.specs.Refusal.{refusal, points_refusal, lists_refusal}
use Rattle.entry.proofs.Tests.{told, lists_ready}
use Rattle.divider.specs.declared.CellRoom.{CellRoom}
use Rattle.divider.specs.Promise.{Leaves, Promise}
use Rattle.divider.specs.Steps.{Passing, Prepares, lists_in, CanDivideRing, divide_by, divide_into, HasRoom}
use Rattle.divider.proofs.Leaving.{refused-leaves}

-- ---- the core, by the outcome of its tests
module _ (L : Limits) (r : ℕ) (p : Part) (l : List Float) (u : ℕ) (rs q : List ℕ) (k : ℕ) where
  abbrev lists : Lists
  lists = lists_in l u rs q k

  pub core-refused : (n : ℕ) → n ≡ first_of (ring_tests p.points) → (n ≡ 0 → ⊥) → Leaves (core L r p lists) (refused_row n u k) l l rs q q
  unfolding core
  core-refused n e z =
      rw (Course.turned-away lists (ring_tests p.points) (answered L r p lists (split_bad_vertices L p) (outcome_of L p lists)) (λ f. z (e ∙ f)), ← e)
      (refused-leaves l u rs q k n)

  pub core-laid : (n : ℕ) → n ≡ first_of (ring_tests p.points) → n ≡ 0 → (v : Row) (m : List Float) (t o : List ℕ)
      → Leaves (answered L r p lists (split_bad_vertices L p) (outcome_of L p lists)) v l m t q o → Leaves (core L r p lists) v l m t q o
  unfolding core
  core-laid n e z v m t o h =
      rw (Course.goes_on lists (ring_tests p.points) (answered L r p lists (split_bad_vertices L p) (outcome_of L p lists)) (sym e ∙ z)) h

-- ---- a call, by its tests before those of the lists, and by these
module _ (L : Limits) (e r : ℕ) (p : Part) (l : List Float) (u : ℕ) (t q : List ℕ) (k : ℕ) (cs : List Cell) (w : CellRoom) where
  abbrev y : Lists
  y = lent_lists l u t cs w.used

  abbrev x : Lists
  x = lists_in l u t q k

  abbrev by : CallAnswer
  by = divide_by L e r p y x

  pub refused-early : (n : ℕ) → n ≡ e → (n ≡ 0 → ⊥) → Leaves by (refused_row n u k) l l t q q
  refused-early n d z =
      let f = ne_eqb e 0 (λ f. z (d ∙ f)) in
      rw (f, f, ← d) (refused-leaves l u t q k n)

  pub refused-late : (n : ℕ) → 0 ≡ e → n ≡ lists_refusal L r y → (n ≡ 0 → ⊥) → Leaves by (refused_row n u k) l l t q q
  refused-late n d f z =
      let g = ne_eqb (lists_refusal L r y) 0 (λ h. z (f ∙ h)) in
      rw (← d, g, ← f) (refused-leaves l u t q k n)

  pub reached : 0 ≡ e → 0 ≡ lists_refusal L r y → (i : Part) → i ≡ p → (v : Row) (m : List Float) (s o : List ℕ) → Leaves (core L r i x) v l m s q o
      → Leaves by v l m s q o
  reached d f i g v m s o h = rw (← d, ← f) (subst (λ (p : Part). Leaves (core L r p x) v l m s q o) g h)

  -- the ring that was prepared, and the numbers that have room for its cells
  module _ (f : 0 ≡ lists_refusal L r y) (h : Passing L r p) (m : MarkedRing) (b : Prepares p m) (o : length cs ≡ w.places) (room : HasRoom L w q)
      (at : w.at ≡ k) where
    tested : Ready L r y
    tested = lists_ready L r y (sym f)

    pub can-divide : CanDivideRing L r m l u t q k
    can-divide =
        let g = room.reserve r h.few (omega (arith, tested.cells_free, tested.stored, o)) in
        let n = length_tab (cell_in q) (length q / 4) in
        record {
          cuts = h.cuts;
          held = b.held;
          prepared =
              subst (λ (p : Part). Prepared L r p x) (sym b.part)
              (h.prepared x
              (record {
                listed = tested.listed;
                stored = omega (arith, at, g, n);
                places = tested.places;
                used = tested.used;
                rimmed = tested.rimmed;
                nodes_free = tested.nodes_free;
                cells_free = omega (arith, at, g, n);
              }));
        }

-- ---- a call with a chain
module _ (L : Limits) (l : LentRecords) where
  abbrev c : Call
  c = call_of_records l

  abbrev e : ℕ
  e = points_refusal L l.ring l.chain l.size

  pub by_chain : (q : List ℕ) (k : ℕ) (v : Row) (m : List Float) (t o : List ℕ)
      → Leaves (divide_by L e (length l.ring / 2) (start_of c) (lists_of c) (lists_in l.nodes l.node_count_of l.rims q k)) v l.nodes m t q o
      → Leaves (divide_into L l q k) v l.nodes m t q o
  unfolding refusal
  by_chain q k v m t o h =
      let x = lists_in l.nodes l.node_count_of l.rims q k in
      subst (λ (r : ℕ). Leaves (cond (eqb (refusal L l) 0) (core L r (start_of c) x) (refused x (refusal L l))) v l.nodes m t q o)
      (sym (length_tab (point_in l.ring) (length l.ring / 2)))
      (subst (λ (n : ℕ). Leaves (cond (eqb n 0) (core L (length l.ring / 2) (start_of c) x) (refused x n)) v l.nodes m t q o) (sym (told L l)) h)

-- ---- the promise
pub promised : (L : Limits) (l : Lent) (v : Row) (m : List Float) (t p : List ℕ) → Leaves (divide_lent L l) v l.nodes m t l.cells p → Promise L l v m t p
promised L l v m t p h = record { leaves = h; accepted = λ z. demand3_lent L l (sym (ap (λ (v : Row). v.code) h.values) ∙ z) }

-- the lent list, its cells as records
abbrev pub recorded : Lent → LentRecords
recorded l = lent l.ring l.chain l.size l.nodes l.node_count_of l.rims (all_cells l.cells) l.cell_count_of

-- with its cells written where they were lent
pub own_promise : (L : Limits) (l : Lent) (v : Row) (m : List Float) (t p : List ℕ)
    → Leaves (divide_into L (recorded l) l.cells l.cell_count_of) v l.nodes m t l.cells p → Promise L l v m t p
unfolding divide_lent
own_promise L l v m t p h = promised L l v m t p h

pub cell-places : (q : List ℕ) → length (all_cells q) ≡ length q / 4
cell-places q = length_tab (cell_in q) (length q / 4)

pub most-cuts : (L : Limits) → L ≡ delivered → L.cuts ≤ 32
most-cuts L d = subst (λ (L : Limits). L.cuts ≤ 32) (sym d) (omega arith)

-- ---- the node list and the rim marks that it leaves are those of a list of calls
pub as_called : (s : Pool) (g : Given ℕ) (v : Row) (m : List Float) (t p : List ℕ) → Promise g.limits (lend s g) v m t p
    → ◌≡◌ {A = Pool} (record { doubles = m; count = v.nodes; rims = t }) (leaves s (answer_of s (numbers g)))
as_called s g v m t p h = λ j. record { doubles = h.leaves.nodes j; count = (h.leaves.values j).nodes; rims = h.leaves.rims j }
