-- THEOREM `as_examined`, Card 8: "A ring of at most 24 points, with a chain of at most 24, in which the examination entry makes 12 cuts or fewer divides
-- alike through either, where the lists hold the examination reserve." For every such call over lent lists (specs/Practice.OnPaper) the practice call and the
-- examination call answer the same row and leave the same nodes, rim marks and cells, except that with 8 each has zeros in its own reserve of cell places
-- (specs/Practice.Alike).
-- THEOREM `as_examined_8`: then the two cell lists differ in no place but those between the end of the practice reserve and that of the examination, where
-- the examination leaves zeros and the practice call what it found.
-- THEOREM `both_entries`: the same of what the two entries return and leave, by their promises.
-- The core is alike for any set of limits and any smaller number of cuts (`core-alike`).
use Prim.Native.Nat.{ℕ, ◌+◌, ◌-◌, ◌≤◌, ◌<◌, min}
use native.Mathlib.Omega.{arith}
use mathlib.Core.Path.{◌≡◌, refl, sym, ap, ◌∙◌, subst}
use mathlib.Core.Bool.{Bool, false, cond, ◌||◌}
use mathlib.Core.List.{List, ◌++◌, append_assoc}
use lib.ListN.{length, get_or, take, drop, replicate, length-replicate, get_or-replicate, get_or-append}
use lib.Seq.{length-take-le, get_or-take, get_or-drop, get_or-append-add}
use lib.Dec.{T, eqb}
use lib.Ieee.{Float}
use borrow.Author.Tests.{le-ltb}
use Rattle.marks.specs.Part.{Part}
use Rattle.limits.specs.declared.Limits.{Limits}
use Rattle.limits.specs.Limits.{delivered}
use Rattle.split.specs.Split.{Stack, split_bad_vertices}
use Rattle.nodes.specs.Flat.{over}
use Rattle.quads.specs.declared.Cell.{Cell}
use Rattle.quads.specs.Quads.{no_cell}
use Rattle.quads.specs.Flat.{over_cells}
use Rattle.cells.specs.Pieces.{Outcome, done, failed, pieces_to}
use Rattle.cells.specs.Asks.{Ask, all_marked, asks_to}
use Rattle.cells.specs.Rims.{rims_by}
use Rattle.table.specs.declared.Row.{Row}
use Rattle.table.specs.Refusals.{Refusal, first_of, Passes, turns_away}
use Rattle.table.proofs.Refusals.{not_8}
use Rattle.limits.specs.Sets.{with_cuts, practice_set}
use Rattle.limits.proofs.Taken.{delivered-taken, practice-taken}
use Rattle.call.specs.Call.{Lists, used_in, Call, lists_of, counts_out, over24, units_out, lists_out, node_reserve, cell_reserve, room_out_of}
use Rattle.call.specs.Divide.{CallAnswer, put, refused, refused_or, ring_tests, asked, rims_left, answered, core, start_of}
use Rattle.call.specs.Lent.{all_cells, Lent, call_of, odd, tests_by, divide_lent, divide_practice, practice_tests}
use Rattle.call.proofs.Tests.{passed}
use Rattle.call.proofs.Course.{by_tests, by_tests-both, refused-code, start-points}
use Rattle.rims.proofs.Edges.{marked-cuts}
use Rattle.divider.specs.Promise as Examination
use Rattle.paper.specs.Practice.{PracticePromise, HoldsReserve, OnPracticePaper, zeroed, SameAnswer, Differ}
use Rattle.paper.proofs.FewerCuts.{same-split}

-- ---- the core
module _ (L M : Limits) (r : ℕ) (p : Part) (x : Lists) where
  refused-alike : (n : ℕ) → T (turns_away n) → SameAnswer L M r x (refused x n) (refused x n)
  unfolding refused
  refused-alike n t = record { row = refl; nodes = refl; rims = refl; cells = λ e. refl; cells_8 = λ e. absurd (not_8 n t e) }

  marks-alike : asked M p (used_in x) ≡ asked L p (used_in x) → (v : ℕ) → rims_left M p x v ≡ rims_left L p x v
  marks-alike q v = ap (λ (qs : List Ask). rims_by x.node_count_of v qs x.rims) q

  answered-alike : asked M p (used_in x) ≡ asked L p (used_in x) → (s : Stack) (o : Outcome) → SameAnswer L M r x (answered L r p x s o) (answered M r p x s o)
  unfolding answered
  answered-alike q s (done ns cs) =
      record { row = refl; nodes = refl; rims = marks-alike q (length ns); cells = λ e. refl; cells_8 = λ e. absurd (omega (arith, e)) }
  answered-alike q s (failed ns n i) =
      record { row = refl; nodes = refl; rims = marks-alike q (length ns); cells = λ e. absurd (e refl); cells_8 = λ e. (refl, refl) }

-- what a ring comes to that is split into s
abbrev laid : Limits → ℕ → Part → Lists → Stack → CallAnswer
laid L r p x s = answered L r p x s (pieces_to L.share s.pieces (used_in x) (length s.pieces))

module _ (L : Limits) (k : ℕ) (h : k ≤ L.cuts) (r : ℕ) (p : Part) (x : Lists) (few : Passes (ring_tests p.points) → (split_bad_vertices L p).cuts ≤ k) where
  abbrev fewer : Limits
  fewer = with_cuts k L

  -- what the pieces ask for, their ring edges by the split of the ring with every edge marked
  asked-alike : (split_bad_vertices L p).cuts ≤ k → asked fewer p (used_in x) ≡ asked L p (used_in x)
  asked-alike g =
      let d = same-split L k p h g in
      let e = same-split L k (all_marked p) h (omega (arith, g, marked-cuts L p)) in
      λ j. asks_to L.share (d j).pieces (e j).pieces (used_in x) (length (d j).pieces)

  pub core-alike : SameAnswer L fewer r x (core L r p x) (core fewer r p x)
  unfolding core
  core-alike =
      by_tests-both x x (ring_tests p.points) (laid L r p x (split_bad_vertices L p))
      (laid fewer r p x (split_bad_vertices fewer p)) (SameAnswer L fewer r x) tt
      (λ t. refused-alike L fewer r p x (first_of (ring_tests p.points)) t)
      (λ w. subst (λ (s : Stack). SameAnswer L fewer r x (laid L r p x (split_bad_vertices L p)) (laid fewer r p x s)) (sym (same-split L k p h (few w)))
      (answered-alike L fewer r p x (asked-alike (few w)) (split_bad_vertices L p)
      (pieces_to L.share (split_bad_vertices L p).pieces (used_in x) (length (split_bad_vertices L p).pieces))))

-- ---- the tests
room_free : (L : Limits) (r : ℕ) (x : Lists)
    → HoldsReserve L r x → room_out_of L r (length x.nodes - x.node_count_of) (length x.cells - x.cell_count_of) ≡ false
unfolding room_out_of
room_free L r x h =
    let e = le-ltb (length x.nodes - x.node_count_of) (node_reserve L r) h.nodes in
    let f = le-ltb (length x.cells - x.cell_count_of) (cell_reserve L r) h.cells in
    λ j. e j || f j

within_24 : (r k : ℕ) → r ≤ 24 → k ≤ 24 → over24 r k ≡ false
unfolding over24
within_24 r k h g = let e = le-ltb 24 r h in let f = le-ltb 24 k g in λ j. e j || f j

min-less : (r : ℕ) → min 12 r ≤ min 32 r
min-less r = omega arith

-- where the examination reserve is free, so is the smaller one
holds-less : (r : ℕ) (x : Lists) → HoldsReserve delivered r x → HoldsReserve practice_set r x
holds-less r x h = let m = min-less (r - 3) in record { nodes = omega (arith, m, h.nodes); cells = omega (arith, m, h.cells) }

module _ (l : Lent) (o : OnPracticePaper (call_of l)) where
  abbrev c : Call
  c = call_of l

  abbrev x : Lists
  x = lists_of c

  abbrev r : ℕ
  r = length c.ring

  abbrev examination : List Refusal
  examination = tests_by all_cells delivered l

  -- the tests of either, by those that can hold
  abbrev order : Bool → Bool → Bool → ℕ
  order over set room =
      cond (odd l.ring || odd l.chain) 1
      (cond (counts_out r (length c.chain)) 1
      (cond over 16
      (cond (units_out c.ring c.chain c.size) 2
      (cond set 15
      (cond (lists_out x) 3
      (cond room 4 0))))))

  same_first : first_of (practice_tests l) ≡ first_of examination
  same_first =
      let over = within_24 r (length c.chain) o.ring o.chain in
      let less = room_free practice_set r x (holds-less r x o.reserve) in
      let free = room_free delivered r x o.reserve in
      (λ j. order (over j) (practice-taken j) (less j)) ∙ sym (λ j. order false (delivered-taken j) (free j))

  pub as_examined : SameAnswer delivered practice_set r x (divide_lent delivered l) (divide_practice l)
  unfolding divide_lent divide_practice
  as_examined =
      let a = core delivered r (start_of c) x in
      let b = core practice_set r (start_of c) x in
      subst (λ (n : ℕ). SameAnswer delivered practice_set r x (refused_or x examination a) (cond (eqb n 0) b (refused x n))) (sym same_first)
      (by_tests-both x x examination a b (SameAnswer delivered practice_set r x) tt
      (λ t. refused-alike delivered practice_set r (start_of c) x (first_of examination) t)
      (λ w. core-alike delivered 12 (omega arith) r (start_of c) x (λ g. o.cuts (subst (λ ps. Passes (ring_tests ps)) (start-points c) g))))

-- ---- the places that 8 zeroes
module _ (l : List Cell) (u n : ℕ) (fits : u + n ≤ length l) where
  abbrev zeros : List Cell
  zeros = replicate n no_cell

  abbrev z : List Cell
  z = put l u zeros

  abbrev rest : List Cell
  rest = zeros ++ drop (u + length zeros) l

  seam : z ≡ take u l ++ rest
  seam = append_assoc (take u l) zeros (drop (u + length zeros) l)

  front : length (take u l) ≡ u
  front = length-take-le u l (omega (arith, fits))

  zero-before : (i : ℕ) → i < u → get_or z i no_cell ≡ get_or l i no_cell
  zero-before i g =
      ap (λ (s : List Cell). get_or s i no_cell) seam ∙ get_or-append (take u l) rest no_cell i (omega (arith, g, front)) ∙ get_or-take u l i no_cell g

  from_front : (i : ℕ) → u ≤ i → get_or z i no_cell ≡ get_or rest (i - u) no_cell
  from_front i g =
      let e : i ≡ length (take u l) + (i - u) = omega (arith, g, front) in
      ap (λ (s : List Cell). get_or s i no_cell) seam
      ∙ ap (λ (j : ℕ). get_or (take u l ++ rest) j no_cell) e ∙ get_or-append-add (take u l) rest (i - u) no_cell

  zero-inside : (i : ℕ) → u ≤ i → i < u + n → get_or z i no_cell ≡ no_cell
  zero-inside i g h =
      from_front i g
      ∙ get_or-append zeros (drop (u + length zeros) l) no_cell (i - u) (omega (arith, g, h, length-replicate n no_cell))
      ∙ get_or-replicate n (i - u) no_cell no_cell (omega (arith, g, h))

  zero-past : (i : ℕ) → u + n ≤ i → get_or z i no_cell ≡ get_or l i no_cell
  zero-past i g =
      let e : i - u ≡ length zeros + (i - u - n) = omega (arith, g, length-replicate n no_cell) in
      let f : u + length zeros + (i - u - n) ≡ i = omega (arith, g, length-replicate n no_cell) in
      from_front i (omega (arith, g))
      ∙ ap (λ (j : ℕ). get_or rest j no_cell) e
      ∙ get_or-append-add zeros (drop (u + length zeros) l) (i - u - n) no_cell
      ∙ get_or-drop (u + length zeros) l (i - u - n) no_cell
      ∙ ap (λ (j : ℕ). get_or l j no_cell) f

zeros_differ : (l : List Cell) (u m n : ℕ) → m ≤ n → u + n ≤ length l → Differ l (put l u (replicate n no_cell)) (put l u (replicate m no_cell)) u m n
zeros_differ l u m n h g =
    let k : u + m ≤ length l = omega (arith, h, g) in
    record {
      smaller = h;
      used = λ i e. (zero-before l u n g i e, zero-before l u m k i e);
      both = λ i e f. (zero-inside l u n g i e (omega (arith, f, h)), zero-inside l u m k i e f);
      between = λ i e f. (zero-inside l u n g i (omega (arith, e)) f, zero-past l u m k i e);
      past = λ i e. (zero-past l u n g i e, zero-past l u m k i (omega (arith, e, h)));
    }

-- with 8 the tests were passed
passed_8 : (l : Lent) → (divide_lent delivered l).row.code ≡ 8 → (call_of l).cell_count_of ≤ length (call_of l).cells
unfolding divide_lent
passed_8 l =
    let c = call_of l in
    let x = lists_of c in
    let rs = tests_by all_cells delivered l in
    by_tests x rs (core delivered (length c.ring) (start_of c) x) (λ a. a.row.code ≡ 8 → x.cell_count_of ≤ length x.cells) tt
    (λ t e. absurd (not_8 (first_of rs) t (sym (refused-code x (first_of rs)) ∙ e)))
    (λ h e. (passed delivered c h.1).ready.stored)

module _ (l : Lent) (o : OnPracticePaper (call_of l)) where
  abbrev n : ℕ
  n = length (call_of l).ring

  abbrev y : Lists
  y = lists_of (call_of l)

  pub as_examined_8 : (divide_lent delivered l).row.code ≡ 8
      → Differ y.cells (divide_lent delivered l).cells (divide_practice l).cells y.cell_count_of (cell_reserve practice_set n) (cell_reserve delivered n)
  as_examined_8 e =
      let z = (as_examined l o).cells_8 e in
      let few = min-less (n - 3) in
      subst (λ (a : List Cell). Differ y.cells a (divide_practice l).cells y.cell_count_of (cell_reserve practice_set n) (cell_reserve delivered n)) (sym z.0)
      (subst (λ (b : List Cell). Differ y.cells (zeroed delivered n y) b y.cell_count_of (cell_reserve practice_set n) (cell_reserve delivered n)) (sym z.1)
      (zeros_differ y.cells y.cell_count_of (cell_reserve practice_set n) (cell_reserve delivered n) (omega (arith, few))
      (omega (arith, o.reserve.cells, passed_8 l e))))

  -- the examination entry returned v and left the nodes m, the rim marks r and the cells p; the practice entry w, k, t and q
  pub both_entries : (v w : Row) (m k : List Float) (r t p q : List ℕ) → Examination.Promise delivered l v m r p → PracticePromise l w k t q
      → (w ≡ v) × (k ≡ m) × (t ≡ r) × ((v.code ≡ 8 → ⊥) → q ≡ p)
      × (v.code ≡ 8 → (p ≡ over_cells l.cells (zeroed delivered n y)) × (q ≡ over_cells l.cells (zeroed practice_set n y)))
  both_entries v w m k r t p q g h =
      let a = as_examined l o in
      let e = ap (λ (v : Row). v.code) g.leaves.values in (
        h.leaves.values ∙ a.row ∙ sym g.leaves.values,
        h.leaves.nodes ∙ ap (over l.nodes) a.nodes ∙ sym g.leaves.nodes,
        h.leaves.rims ∙ a.rims ∙ sym g.leaves.rims,
        (λ z. h.leaves.cells ∙ ap (over_cells l.cells) (a.cells (λ f. z (e ∙ f))) ∙ sym g.leaves.cells),
        (λ f. let z = a.cells_8 (sym e ∙ f) in (g.leaves.cells ∙ ap (over_cells l.cells) z.0, h.leaves.cells ∙ ap (over_cells l.cells) z.1)),
      )
