-- The number of a ring on an empty node list does not depend on the lists, where they have its reserve (`anywhere`). The tests of the lists do not hold, and
-- the core looks at the used nodes alone, of which there are none.
use Prim.Native.Nat.{ℕ, ◌-◌, ◌/◌, ◌≤◌, min}
use native.Mathlib.Nat.{min-le_right}
use native.Mathlib.Omega.{arith}
use mathlib.Core.Path.{◌≡◌, refl, sym, ap, ◌∙◌, subst}
use mathlib.Core.Bool.{Bool, true, false, not, ◌||◌, cond}
use mathlib.Core.List.{List, []}
use lib.ListN.{length, get_or, take}
use lib.Dec.{ltb, eqb}
use lib.IntN.{ℤ}
use borrow.Author.Tests.{le-ltb}
use Rattle.laws.specs.Bounded.{any}
use Rattle.laws.proofs.Table.{length_tab}
use Rattle.vector.specs.declared.Point.{Point}
use Rattle.marks.specs.Part.{Part}
use Rattle.limits.specs.declared.Limits.{Limits}
use Rattle.limits.specs.Limits.{delivered}
use Rattle.split.specs.Split.{Stack, split_bad_vertices}
use Rattle.nodes.proofs.Flat.{length_in}
use Rattle.cells.specs.Pieces.{Outcome, done, failed, pieces_to}
use Rattle.table.specs.Refusals.{first_of}
use Rattle.call.specs.Call.{Lists, used_in, Call, lists_of, counts_out, units_out, usable, rims_out, lists_over, lists_out, node_reserve, cell_reserve}
use Rattle.call.specs.Call.{room_out_of, most_places}
use Rattle.call.specs.Divide.{CallAnswer, refused, refused_or, ring_tests, answered, core, start_of}
use Rattle.call.specs.Lent.{Lent, call_of, divide_lent, odd, all_cells, tests_by, point_in, cell_in}
use Rattle.call.proofs.Course.{by_tests-both, refused-code}
use Rattle.limits.specs.Sets.{limits_out}
use Rattle.lone_ring.specs.Number.{points, trial_lent, number_of}
use Rattle.lone_ring.specs.Empty.{Empty, Anywhere}

abbrev SameCode : CallAnswer → CallAnswer → Type 0
SameCode a b = a.row.code ≡ b.row.code

-- ---- the core, over two pairs of lists that have the same used nodes
-- 0 of pieces that were laid out, 8 of one with a cell that fails
outcome_code : Outcome → ℕ
outcome_code (done ns cs) = 0
outcome_code (failed ns n k) = 8

answered-code : (L : Limits) (r : ℕ) (p : Part) (x : Lists) (s : Stack) (o : Outcome) → (answered L r p x s o).row.code ≡ outcome_code o
unfolding answered outcome_code
answered-code L r p x s (done ns cs) = refl
answered-code L r p x s (failed ns n k) = refl

module _ (L : Limits) (r : ℕ) (p : Part) (x y : Lists) (used : used_in x ≡ used_in y) where
  abbrev outcome : List Point → Outcome
  outcome ns = let s = split_bad_vertices L p in pieces_to L.share s.pieces ns (length s.pieces)

  laid_same : SameCode (answered L r p x (split_bad_vertices L p) (outcome (used_in x))) (answered L r p y (split_bad_vertices L p) (outcome (used_in y)))
  laid_same =
      let s = split_bad_vertices L p in
      answered-code L r p x s (outcome (used_in x)) ∙ ap (λ (ns : List Point). outcome_code (outcome ns)) used
      ∙ sym (answered-code L r p y s (outcome (used_in y)))

  refused-same : (n : ℕ) → SameCode (refused x n) (refused y n)
  refused-same n = refused-code x n ∙ sym (refused-code y n)

  core-same : SameCode (core L r p x) (core L r p y)
  unfolding core
  core-same =
      by_tests-both x y (ring_tests p.points) (answered L r p x (split_bad_vertices L p) (outcome (used_in x)))
      (answered L r p y (split_bad_vertices L p) (outcome (used_in y))) SameCode tt
      (λ t. refused-same (first_of (ring_tests p.points))) (λ w. laid_same)

-- ---- the tests of the lists
none-usable : usable [] ≡ true
unfolding usable any
none-usable = refl

module _ (l : Lent) (e : Empty l) where
  abbrev c : Call
  c = call_of l

  abbrev x : Lists
  x = lists_of c

  ring-length : length c.ring ≡ points l.ring
  ring-length = length_tab (point_in l.ring) (points l.ring)

  node-places : length c.nodes ≡ length l.nodes / 2
  node-places = length_in l.nodes (length l.nodes / 2)

  cell-places : length c.cells ≡ length l.cells / 4
  cell-places = length_tab (cell_in l.cells) (length l.cells / 4)

  none-used : used_in x ≡ []
  none-used = ap (λ (k : ℕ). take k c.nodes) e.none

  lists_in_lem : lists_out x ≡ false
  unfolding lists_over rims_out any
  lists_in_lem =
      let a = le-ltb (length c.nodes) c.node_count_of (omega (arith, e.none)) in
      let b = le-ltb (length c.cells) c.cell_count_of (omega (arith, e.stored, cell-places)) in
      let d = le-ltb most_places (length c.nodes) (omega (arith, e.places, node-places)) in
      let u : usable (used_in x) ≡ true = ap usable none-used ∙ none-usable in
      let m = le-ltb (length c.rims) (length c.nodes) (omega (arith, e.marks, node-places)) in
      let n : any (λ i. ltb 1 (get_or c.rims i 0)) c.node_count_of ≡ false = ap (λ (k : ℕ). any (λ i. ltb 1 (get_or c.rims i 0)) k) e.none in
      λ j. a j || b j || d j || not (u j) || (m j || n j)

  room_in : room_out_of delivered (length c.ring) (length c.nodes - c.node_count_of) (length c.cells - c.cell_count_of) ≡ false
  unfolding room_out_of
  room_in =
      let r = length c.ring in
      let n : node_reserve delivered r ≤ length c.nodes - c.node_count_of =
      subst (λ (r : ℕ). node_reserve delivered r ≤ length c.nodes - c.node_count_of) (sym ring-length) (omega (arith, e.nodes, node-places, e.none)) in
      let k : cell_reserve delivered r ≤ length c.cells - c.cell_count_of =
      subst (λ (r : ℕ). cell_reserve delivered r ≤ length c.cells - c.cell_count_of) (sym ring-length) (omega (arith, e.cells, cell-places)) in
      let a = le-ltb (length c.nodes - c.node_count_of) (node_reserve delivered r) n in
      let b = le-ltb (length c.cells - c.cell_count_of) (cell_reserve delivered r) k in
      λ j. a j || b j

  -- the tests by those that can hold: of the two that look at the lists, whether they do
  abbrev order : Bool → Bool → ℕ
  order lists room =
      cond (odd l.ring || odd l.chain) 1
      (cond (counts_out (length c.ring) (length c.chain)) 1
      (cond (units_out c.ring c.chain c.size) 2
      (cond (limits_out delivered) 15
      (cond lists 3
      (cond room 4 0)))))

  tests-of : first_of (tests_by all_cells delivered l) ≡ order false false
  tests-of = λ j. order (lists_in_lem j) (room_in j)

trial-empty : (ring chain : List ℤ) (size : ℕ) → points ring ≤ 12 → Empty (trial_lent ring chain size)
trial-empty ring chain size h =
    let m : min 32 (points ring - 3) ≤ points ring - 3 = min-le_right 32 (points ring - 3) in
    record { none = refl; places = omega arith; marks = omega arith; stored = omega arith; nodes = omega (arith, m, h); cells = omega (arith, m, h) }

anywhere_same : (l : Lent) → points l.ring ≤ 12 → Empty l → (divide_lent delivered l).row.code ≡ number_of l.ring l.chain l.size
unfolding divide_lent number_of
anywhere_same l h e =
    let t = trial_lent l.ring l.chain l.size in
    let f = trial-empty l.ring l.chain l.size h in
    let r = length (call_of l).ring in
    let p = start_of (call_of l) in
    let y = lists_of (call_of l) in
    let z = lists_of (call_of t) in
    let used : used_in y ≡ used_in z = none-used l e ∙ sym (none-used t f) in
    let same : first_of (tests_by all_cells delivered l) ≡ first_of (tests_by all_cells delivered t) = tests-of l e ∙ sym (tests-of t f) in
    subst (λ (n : ℕ). SameCode (refused_or y (tests_by all_cells delivered l) (core delivered r p y)) (cond (eqb n 0) (core delivered r p z) (refused z n)))
    same
    (by_tests-both y z (tests_by all_cells delivered l) (core delivered r p y) (core delivered r p z) SameCode tt
    (λ t. refused-same delivered r p y z used (first_of (tests_by all_cells delivered l)))
    (λ w. core-same delivered r p y z used))

pub anywhere : (l : Lent) → Anywhere l
anywhere l = record { same = anywhere_same l }
