-- THEOREM `no_loose_middle_by`, Card 10: of any entry, whatever tests it makes; of the divider call (`no_loose_middle`), and of the same over lent lists
-- (`no_loose_middle-lent`, `no_loose_middle-records`, `no_loose_middle-practice`) and with given marks (`no_loose_middle-marked`). For every set of limits,
-- every ring, wherever its marks come from, and whatever the lists held before: if the ring is accepted, each cut of its log has one middle, a listed node's
-- number m, and one number for each of its two ends.
--   Two pieces in different places lie beside the cut: one has come of the first part that it made, by later cuts of that part or by none, and the other of
--   the second. The cut is a straight edge of both, in one sense or the other. In the cells of both, as the answer's own list has them, the two cells along
--   that edge have m for its middle and the same two numbers for its ends. So it is in every piece that has a straight edge between these ends. m is the
--   number of the straight middle, 0.5 × (a + b) in each coordinate, of the nodes that the two ends have: the first listed node with its key.
-- Why: a listed corner keeps its node, the half sum is the same from either end bit for bit, and a point that was listed keeps its number, also through an
-- attempt that was abandoned. The claim is specs/Middles.OneMiddle.
use Prim.Native.Nat.{ℕ, suc, ◌+◌, ◌≤◌, ◌<◌}
use native.Mathlib.Omega.{arith}
use mathlib.Core.Path.{◌≡◌, refl, sym, ap, ap₂, ◌∙◌, subst}
use mathlib.Core.Logic.{inl, inr}
use mathlib.Core.Bool.{Bool}
use mathlib.Core.List.{List, ◌++◌}
use lib.Dec.{T}
use lib.ListN.{length, get_or, take, drop, length-append, get_or-append}
use lib.Seq.{get_or-append-add, take-append_seam, length-take-le}
use Rattle.laws.specs.All.{All}
use Rattle.laws.proofs.Lists.{all-weaken, all-get, mem_get}
use Rattle.vector.specs.declared.GridPoint.{GridPoint}
use Rattle.vector.specs.declared.Point.{Point}
use Rattle.vector.specs.Grid.{at}
use Rattle.vector.specs.Plane.{in_mm}
use Rattle.marks.specs.declared.EdgeMark.TheVariants.{Straight}
use Rattle.marks.specs.Part.{Part, no_part}
use Rattle.limits.specs.declared.Limits.{Limits}
use Rattle.split.specs.Split.{Cut}
use Rattle.cuts.specs.Counts.{Sound}
use Rattle.cuts.specs.Provenance.{Side, no_side, sides, SameSide, same, turned, first_part_of, second_part_of, diagonal, Among, Beside, Carries}
use Rattle.cuts.proofs.Counts.{counted}
use Rattle.cuts.proofs.Sides.{diagonal-straight, side-count, side-at}
use Rattle.cuts.proofs.Provenance.{followed}
use Rattle.nodes.specs.Nodes.{no_node, node_at, number}
use Rattle.nodes.specs.Growth.{◌≈◌, Numbered, node_for}
use Rattle.nodes.proofs.Numbers.{number_at}
use Rattle.quads.specs.declared.Cell.{Cell}
use Rattle.quads.specs.Quads.{middle, no_cell}
use Rattle.cells.specs.Stages.{mark_at}
use Rattle.cells.specs.Claims.{corners_to}
use Rattle.cells.specs.Cover.{SameEnds}
use Rattle.cells.proofs.Bound.{middle_in}
use Rattle.cells.proofs.Middles.{middle_comm}
use Rattle.table.specs.Refusals.{Refusal, Passes, numbered}
use Rattle.table.proofs.Refusals.{not_0}
use Rattle.limits.specs.Sets.{practice_set}
use Rattle.call.specs.Call.{Lists, used_in, Call, lists_of, over24, no_test, tests}
use Rattle.call.specs.Divide.{CallAnswer, put, refused_or, core, start_of, divide}
use Rattle.call.specs.Demand.{Prepared, AcceptedCall, pieces_of, log_of, nodes_from, cells_from}
use Rattle.call.specs.Lent.{LentOf, call_by, tests_for, divide_for, all_cells, Lent, call_of}
use Rattle.call.specs.Lent.{divide_lent, divide_practice, LentRecords, call_of_records, divide_records}
use Rattle.call.proofs.Course.{Course, away, ran, course, refused-code, prepared_by, prepared_if}
use Rattle.call.proofs.NodeList as NodeList
use Rattle.call.proofs.Demand.{demand3_by}
use Rattle.call.specs.Marked.{LentMarked, all_points, marked_lists, marked_start, marked_tests, divide_marked}
use Rattle.call.proofs.Marked.{marked-prepared_if}
use Rattle.middles.specs.Middles.{before, Joins, Along, Meets, onward, backward, listed_in, piece, cell_of, OneMiddle, NoLooseMiddle}
use Rattle.middles.proofs.Numbers.{NumberedCells, AlongBy, along_by, pieces-numbered, cells-room}

-- ---- lists with values put over their places
at-put : (l : List Point) (vs : List Point) (i : ℕ) → i < length vs → node_at (put l 0 vs) i ≡ node_at vs i
at-put l vs i h = get_or-append vs (drop (0 + length vs) l) no_node i h

cell-put : (l : List Cell) (n : ℕ) (vs : List Cell) (i : ℕ) → n ≤ length l → i < length vs → get_or (put l n vs) (n + i) no_cell ≡ get_or vs i no_cell
cell-put l n vs i h k =
    let m = length-take-le n l h in
    get_or-append (take n l ++ vs) (drop (n + length vs) l) no_cell (n + i) (omega (arith, length-append (take n l) vs))
    ∙ ap (λ (m : ℕ). get_or (take n l ++ vs) (m + i) no_cell) (sym m)
    ∙ get_or-append-add (take n l) vs i no_cell

-- ---- the side that a cut became, as an edge of a piece
alike-ends : (s t : Side) (a b : GridPoint) → SameSide s t → t.a ≡ a → t.b ≡ b → SameEnds a b s.a s.b × (t.mark ≡ s.mark)
alike-ends s t a b same e f = (inl (sym e, sym f), refl)
alike-ends s t a b turned e f = (inr (sym e, sym f), refl)

record EdgeOf (q : Part) (d : Side) : Type 0 where
  pub e : ℕ
  pub joins : Joins q d e

edge_of : (q : Part) (d : Side) → d.mark ≡ Straight → Sound q → Among (sides q) d → EdgeOf q d
edge_of q d z s k =
    let m = mem_get no_side k.source in
    let low : m.place < length q.points = subst (λ (n : ℕ). m.place < n) (side-count q s) m.low in
    let w = m.is ∙ side-at q s m.place no_side low in
    let h =
    alike-ends d k.like (at q.points m.place) (at q.points (suc m.place)) k.alike (ap (λ (s : Side). s.a) w) (ap (λ (s : Side). s.b) w) in
    record { e = m.place; joins = record { of_piece = low; straight = sym (ap (λ (s : Side). s.mark) w) ∙ h.1 ∙ z; ends = h.0 } }

-- ---- a piece whose cells have the numbers of the list ms: the three numbers of a side, and that the cells along each edge between its ends have them
module _ (ms : List Point) (q : Part) (cell : ℕ → Cell) (numbered_cells : NumberedCells ms q.points (mark_at q) cell) (s : Side) where
  abbrev u : ℕ
  u = number ms (in_mm s.a)

  abbrev m : ℕ
  m = number ms (middle_in ms s.a s.b)

  abbrev v : ℕ
  v = number ms (in_mm s.b)

  turned-middle : middle_in ms s.b s.a ≡ middle_in ms s.a s.b
  turned-middle = middle_comm (node_for ms (in_mm s.b)) (node_for ms (in_mm s.a))

  module _ (e : ℕ) (j : Joins q s e) where
    by : AlongBy ms q.points cell e
    by = along_by numbered_cells e j.of_piece j.straight

    -- the two cells along the edge, which goes from b to c
    along : (b c : GridPoint) → at q.points e ≡ b → at q.points (suc e) ≡ c
        → Along cell (length q.points) e (number ms (in_mm b)) (number ms (middle_in ms b c)) (number ms (in_mm c))
    along b c f g =
        let n = ap₂ (middle_in ms) f g in
        record {
          end_before = by.end_before.is ∙ ap (λ (z : GridPoint). number ms (in_mm z)) f;
          middle_before = by.middle_before.is ∙ ap (number ms) n;
          middle_after = by.middle_after.is ∙ ap (number ms) n;
          end_after = by.end_after.is ∙ ap (λ (z : GridPoint). number ms (in_mm z)) g;
        }

    pub meets : Meets q cell s u m v e
    meets = go j.ends
      where
        go : SameEnds (at q.points e) (at q.points (suc e)) s.a s.b → Meets q cell s u m v e
        go (inl h) = onward h.0 h.1 (along s.a s.b h.0 h.1)
        go (inr h) =
            backward h.0 h.1
            (subst (λ (z : Point). Along cell (length q.points) e v (number ms z) u) turned-middle (along s.b s.a h.0 h.1))

    -- the three numbers are listed
    pub record Three : Type 0 where
      pub u_low : u < length ms
      pub m_low : m < length ms
      pub v_low : v < length ms

    low : {z w : Point} {k : ℕ} → Numbered ms z k → z ≡ w → number ms w < length ms
    low n f = subst (λ (k : ℕ). k < length ms) (n.is ∙ ap (number ms) f) n.low

    pub three : Three
    three = go j.ends
      where
        go : SameEnds (at q.points e) (at q.points (suc e)) s.a s.b → Three
        go (inl h) =
            record {
              u_low = low by.end_before (ap in_mm h.0);
              m_low = low by.middle_after (ap₂ (middle_in ms) h.0 h.1);
              v_low = low by.end_after (ap in_mm h.1);
            }
        go (inr h) =
            record {
              u_low = low by.end_after (ap in_mm h.1);
              m_low = low by.middle_after (ap₂ (middle_in ms) h.0 h.1 ∙ turned-middle);
              v_low = low by.end_before (ap in_mm h.0);
            }

-- ---- the same numbers in other words for the cells
along_as : {f g : ℕ → Cell} {n e u m v : ℕ} → f (before n e) ≡ g (before n e) → f e ≡ g e → Along f n e u m v → Along g n e u m v
along_as h k a =
    record {
      end_before = ap (λ (z : Cell). z.c) (sym h) ∙ a.end_before;
      middle_before = ap (λ (z : Cell). z.d) (sym h) ∙ a.middle_before;
      middle_after = ap (λ (z : Cell). z.b) (sym k) ∙ a.middle_after;
      end_after = ap (λ (z : Cell). z.c) (sym k) ∙ a.end_after;
    }

meets_as : {q : Part} {f g : ℕ → Cell} {s : Side} {u m v e : ℕ} → f (before (length q.points) e) ≡ g (before (length q.points) e) → f e ≡ g e
    → Meets q f s u m v e → Meets q g s u m v e
meets_as h k (onward c d a) = onward c d (along_as h k a)
meets_as h k (backward c d a) = backward c d (along_as h k a)

-- ---- the claim, of an answer that meets demand 3
module _ (L : Limits) (p : Part) (x : Lists) (a : CallAnswer) (sound : Sound p) (d : AcceptedCall L p x a) where
  abbrev ps : List Part
  ps = pieces_of L p

  -- the nodes and the new cells
  abbrev ms : List Point
  ms = nodes_from L p x

  abbrev qs : List Cell
  qs = cells_from L p x

  abbrev new_cell : ℕ → ℕ → Cell
  new_cell i k = get_or qs (corners_to ps i + k) no_cell

  sounds : All Sound ps
  sounds = (counted L p sound).sound

  listed-is : listed_in a ≡ ms
  listed-is = (λ j. take (d.node_count j) (d.nodes j)) ∙ take-append_seam ms (drop (0 + length ms) x.nodes)

  node-is : (i : ℕ) → i < length ms → node_at a.nodes i ≡ node_at ms i
  node-is i h = ap (λ (l : List Point). node_at l i) d.nodes ∙ at-put x.nodes ms i h

  cell-is : (i k : ℕ) → i < length ps → k < length (piece L p i).points → new_cell i k ≡ cell_of L p x a i k
  cell-is i k h l =
      sym (ap (λ (q : List Cell). get_or q (x.cell_count_of + (corners_to ps i + k)) no_cell) d.cells
      ∙ cell-put x.cells x.cell_count_of qs (corners_to ps i + k) (omega (arith, d.cell_count, d.cells_fit))
      (omega (arith, cells-room L.share ps (used_in x) i h)))

  numbered_cells : (i : ℕ) → i < length ps → NumberedCells ms (piece L p i).points (mark_at (piece L p i)) (new_cell i)
  numbered_cells i h =
      pieces-numbered L.share ps (used_in x) i h (all-weaken Sound (λ (p : Part). 0 < length p.points) (λ p s. omega (arith, s.three)) ps sounds)

  met : (s : Side) (i e : ℕ) → i < length ps → Joins (piece L p i) s e
      → Meets (piece L p i) (cell_of L p x a i) s (number ms (in_mm s.a)) (number ms (middle_in ms s.a s.b)) (number ms (in_mm s.b)) e
  met s i e h j =
      meets_as (cell-is i (before (length (piece L p i).points) e) h (along_by (numbered_cells i h) e j.of_piece j.straight).low) (cell-is i e h j.of_piece)
      (meets ms (piece L p i) (new_cell i) (numbered_cells i h) s e j)

  -- the edge of the piece that carries a cut
  carried : (t : Cut) (r : Part) (i : ℕ) → Carries (log_of L p) ps (diagonal t) r i → EdgeOf (piece L p i) (diagonal t)
  carried t r i k = edge_of (piece L p i) (diagonal t) (diagonal-straight t) (all-get Sound ps i no_part sounds k.low) k.has

  one-middle : (t : Cut) → Beside (log_of L p) ps t → OneMiddle L p x a t
  one-middle t b =
      let s = diagonal t in
      let g = carried t (first_part_of t) b.i b.first in
      let h = carried t (second_part_of t) b.j b.second in
      let u = number ms (in_mm s.a) in
      let m = number ms (middle_in ms s.a s.b) in
      let v = number ms (in_mm s.b) in
      let w = three ms (piece L p b.i) (new_cell b.i) (numbered_cells b.i b.first.low) s g.e g.joins in
      let ends : middle_in ms s.a s.b ≡ middle (node_at a.nodes u) (node_at a.nodes v) =
      ap₂ middle (sym (node-is u w.u_low)) (sym (node-is v w.v_low)) in
      record {
        u = u;
        m = m;
        v = v;
        u_is = ap (λ (l : List Point). number l (in_mm s.a)) (sym listed-is);
        v_is = ap (λ (l : List Point). number l (in_mm s.b)) (sym listed-is);
        m_is = ap₂ number (sym listed-is) ends;
        m_key =
            subst (λ (z : Point). z ≈ node_at a.nodes m) ends
            (subst (λ (z : Point). middle_in ms s.a s.b ≈ z) (sym (node-is m w.m_low)) (number_at ms (middle_in ms s.a s.b) w.m_low));
        u_listed = omega (arith, w.u_low, d.node_count);
        m_listed = omega (arith, w.m_low, d.node_count);
        v_listed = omega (arith, w.v_low, d.node_count);
        i = b.i;
        j = b.j;
        i_low = b.first.low;
        j_low = b.second.low;
        apart = b.apart;
        of_first = b.first.under;
        of_second = b.second.under;
        e = g.e;
        f = h.e;
        in_first = g.joins;
        in_second = h.joins;
        meets_first = met s b.i g.e b.first.low g.joins;
        meets_second = met s b.j h.e b.second.low h.joins;
        meets = λ k f l j. met s k f l j;
      }

  all-middles : NoLooseMiddle L p x a
  all-middles = all-weaken (Beside (log_of L p) ps) (OneMiddle L p x a) one-middle (log_of L p) (followed L p sound)

-- ---- of any entry: its tests, and the core for the ring that it prepares where none of them holds
module _ (L : Limits) (r : ℕ) (p : Part) (x : Lists) (rs : List Refusal) (n : T (numbered rs)) (h : Passes rs → Prepared L r p x) where
  abbrev answer : CallAnswer
  answer = refused_or x rs (core L r p x)

  pub no_loose_middle_by : answer.row.code ≡ 0 → NoLooseMiddle L p x answer
  no_loose_middle_by z = go (course L r p x rs n h)
    where
      go : Course L r p x answer → NoLooseMiddle L p x answer
      go (away m t e) = absurd (not_0 m t (sym (ap (λ (a : CallAnswer). a.row.code) e ∙ refused-code x m) ∙ z))
      go (ran q e) = all-middles L p x answer (NodeList.sound L r p x q) (demand3_by L r p x rs n h z)

-- ---- of the divider call, and of the same over lent lists: cells as numbers, cells as records, the practice paper
pub no_loose_middle : (L : Limits) (c : Call) → (divide L c).row.code ≡ 0 → NoLooseMiddle L (start_of c) (lists_of c) (divide L c)
unfolding divide
no_loose_middle L c z = no_loose_middle_by L (length c.ring) (start_of c) (lists_of c) (tests L c) tt (prepared_if L c) z

no_loose_middle-of : {A : Type 0} (own : ℕ → ℕ → Bool) (read : List A → List Cell) (L : Limits) (l : LentOf A) → (divide_for own read L l).row.code ≡ 0
    → NoLooseMiddle L (start_of (call_by read l)) (lists_of (call_by read l)) (divide_for own read L l)
no_loose_middle-of own read L l z =
    let c = call_by read l in
    no_loose_middle_by L (length c.ring) (start_of c) (lists_of c) (tests_for own read L l) tt (λ h. prepared_by own L c h.1) z

pub no_loose_middle-lent : (L : Limits) (l : Lent)
    → (divide_lent L l).row.code ≡ 0 → NoLooseMiddle L (start_of (call_of l)) (lists_of (call_of l)) (divide_lent L l)
unfolding divide_lent
no_loose_middle-lent L l z = no_loose_middle-of no_test all_cells L l z

pub no_loose_middle-records : (L : Limits) (l : LentRecords) → (divide_records L l).row.code ≡ 0
    → NoLooseMiddle L (start_of (call_of_records l)) (lists_of (call_of_records l)) (divide_records L l)
unfolding divide_records
no_loose_middle-records L l z = no_loose_middle-of no_test (λ cs. cs) L l z

pub no_loose_middle-practice : (l : Lent) → (divide_practice l).row.code ≡ 0
    → NoLooseMiddle practice_set (start_of (call_of l)) (lists_of (call_of l)) (divide_practice l)
unfolding divide_practice
no_loose_middle-practice l z = no_loose_middle-of over24 all_cells practice_set l z

-- with given marks
pub no_loose_middle-marked : (L : Limits) (l : LentMarked) → (divide_marked L l).row.code ≡ 0
    → NoLooseMiddle L (marked_start l) (marked_lists l) (divide_marked L l)
unfolding divide_marked
no_loose_middle-marked L l z =
    no_loose_middle_by L (length (all_points l.ring)) (marked_start l) (marked_lists l) (marked_tests L l) tt (marked-prepared_if L l) z
