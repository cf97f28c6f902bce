-- Demand 3, of one call: of any entry that prepares a ring and hands it to the core (`demand3_by`), of the divider call (`demand3`), and of the same over
-- lent lists (`demand3_lent`, `demand3_records`, `demand3_practice`). For every set of limits, every ring, wherever its marks come from, and whatever the
-- lists held before: if it is accepted, then
--   the answer reports the corners n of the cleaned ring, its marked edges c, the cuts s and the pieces; s is at most the set's number of cuts (32) and at
--   most n - 3, and the pieces are s + 1; exactly n + 2s cells are added, those that Cells gives over these pieces in the order they go out, each piece of k
--   corners having the next k, none of which fails; at most 2n + c + 2s + 1 nodes are added, those that Cells gives over these pieces; every old node has its
--   number and its bits, and every used node is finite and within 1,024 mm; the rim marks are those that these pieces leave by what they asked for, and a set
--   mark of an old node stays set; the doubled areas of the pieces sum to the reported area of the cleaned ring plus twice the reported turned area; each cut
--   starts at the worst corner, the last of equals, of a part where that corner is bad, and ends where the best diagonal does; no cut runs over a third
--   corner: no corner of its part is strictly between its ends on their line; a piece has a bad corner only if s is the set's number of cuts or no diagonal
--   from its worst corner meets the rule (one that runs over a corner does not); and the parts and pieces come of the cleaned ring and of these cuts alone.
-- Nothing is asked of the set of limits. The claim is specs/Demand.Demand3; docs/CLAIMS.md has its clauses one by one.
use Prim.Native.Nat.{ℕ, ◌+◌, ◌*◌, ◌≤◌, ◌<◌}
use native.Mathlib.Omega.{arith}
use mathlib.Core.Path.{◌≡◌, refl, sym, ap, ◌∙◌, subst}
use mathlib.Core.Bool.{Bool, cond}
use mathlib.Core.List.{List, [], ◌∷◌}
use lib.IntN.{ℤ, pos, negsuc, nat_abs, ◌+ℤ◌}
use lib.Signed.{lt_z, non_neg}
use lib.ListN.{length}
use lib.Seq.{get_or-take, length-take-le}
use lib.Dec.{T}
use Rattle.laws.specs.All.{All}
use Rattle.vector.specs.Grid.{polygon_area}
use Rattle.vector.proofs.Sheet.{elements}
use Rattle.marks.specs.Part.{Part, mark_count}
use Rattle.limits.specs.declared.Limits.{Limits}
use Rattle.split.specs.Split.{Stack, split_bad_vertices}
use Rattle.cuts.specs.Counts as Counts
use Rattle.cuts.specs.Counts.{Counted, Sound}
use Rattle.cuts.specs.Areas.{AreasBalance}
use Rattle.cuts.specs.Choices.{WhyUncut}
use Rattle.cuts.proofs.Counts.{counted}
use Rattle.cuts.proofs.Areas.{weighed}
use Rattle.cuts.proofs.Choices.{chosen, excused}
use Rattle.cuts.proofs.Clear.{clear}
use Rattle.cuts.proofs.Provenance.{traced}
use Rattle.nodes.specs.Nodes.{no_node, node_at}
use Rattle.nodes.specs.Growth.{InRange}
use Rattle.quads.specs.declared.Cell.{Cell}
use Rattle.cells.specs.Pieces.{Outcome, done, failed, nodes_over, cells_over}
use Rattle.cells.specs.Asks.{Ask}
use Rattle.cells.specs.Rims.{rims_by}
use Rattle.quads.specs.Flat.{Listed}
use Rattle.cells.specs.Claims.{CellsPerPiece, Over, CellsOf, corners_to}
use Rattle.cells.proofs.NewCells.{pieces-cells, corners_to_cons}
use Rattle.cells.proofs.PieceByPiece.{pieces-over}
use Rattle.table.specs.Refusals.{Refusal, Passes, numbered}
use Rattle.table.proofs.Refusals.{not_0}
use Rattle.limits.specs.Sets.{practice_set}
use Rattle.call.specs.Call.{Lists, used_in, Call, lists_of, over24, no_test, cell_reserve, tests}
use Rattle.call.specs.Divide.{CallAnswer, put, refused_or, answered, asked, core, start_of, divide}
use Rattle.call.specs.Demand.{Ready, Prepared, pieces_of, cells_from, AcceptedCall}
use Rattle.call.specs.LentCalls.{laid_out}
use Rattle.call.specs.Lent.{LentOf, call_by, tests_for, divide_for, all_cells, Lent, call_of, divide_lent, divide_practice, LentRecords}
use Rattle.call.specs.Lent.{call_of_records, divide_records}
use Rattle.call.proofs.Course.{outcome_of, Divisible, Course, away, ran, course, refused-code, prepared_by, prepared_if}
use Rattle.call.proofs.NodeList.{sound, used_after, NodesLeft, nodes-left_by}
use Rattle.call.proofs.RimList.{RimsLeft, set-kept, rims-left_by}

-- ---- the corners of all pieces, counted by place and from the front
pub corners-all : (ps : List Part) → corners_to ps (length ps) ≡ Counts.corners ps
corners-all [] = refl
corners-all (p ∷ ps) = corners_to_cons p ps (length ps) ∙ ap (λ (n : ℕ). length p.points + n) (corners-all ps)

-- a ring that can be divided has no more of them than its reserve of cell places
pub corners_fit : (L : Limits) (r : ℕ) (p : Part) (x : Lists) → Divisible L r p x → corners_to (pieces_of L p) (length (pieces_of L p)) ≤ cell_reserve L r
corners_fit L r p x s = let n = counted L p (sound L r p x s) in omega (arith, corners-all (pieces_of L p), n.corners, n.most, n.few, s.prepared.fewer)

-- ---- what an accepted ring answers
record Accepted (L : Limits) (p : Part) (x : Lists) (s : Stack) (a : CallAnswer) : Type 0 where
  pub corners : a.row.corners ≡ length p.points
  pub marked : a.row.marked ≡ mark_count p.edges
  pub cuts : a.row.cuts ≡ s.cuts
  pub pieces : a.row.pieces ≡ length s.pieces
  pub turned : a.row.turned ≡ s.turned
  pub area : a.row.area ≡ nat_abs (polygon_area p.points)
  pub cell_count : a.row.cells ≡ x.cell_count_of + length (cells_over L.share (used_in x) s.pieces)
  pub cells : a.cells ≡ put x.cells x.cell_count_of (cells_over L.share (used_in x) s.pieces)
  pub many : length (cells_over L.share (used_in x) s.pieces) ≡ Counts.corners s.pieces
  pub sliced : CellsPerPiece L.share (used_in x) s.pieces
  pub listed : All (Listed a.row.nodes) (cells_over L.share (used_in x) s.pieces)
  pub node_count : a.row.nodes ≡ length (nodes_over L.share (used_in x) s.pieces)
  pub nodes : a.nodes ≡ put x.nodes 0 (nodes_over L.share (used_in x) s.pieces)

accepted : (L : Limits) (r : ℕ) (p : Part) (x : Lists) (s : Stack) (o : Outcome) → Over L.share (used_in x) s.pieces o
    → CellsOf (Counts.corners s.pieces) o → (answered L r p x s o).row.code ≡ 0
    → Accepted L p x s (answered L r p x s o)
unfolding answered
accepted L r p x s (failed ms n k) h m z = absurd (omega (arith, z))
accepted L r p x s (done ms ds) h m z =
    record {
      corners = refl;
      marked = refl;
      cuts = refl;
      pieces = refl;
      turned = refl;
      area = refl;
      cell_count = ap (λ (l : List Cell). x.cell_count_of + length l) h.1;
      cells = ap (put x.cells x.cell_count_of) h.1;
      many = ap length (sym h.1) ∙ m.0;
      sliced = h.2;
      listed = subst (All (Listed (length ms))) h.1 m.1;
      node_count = ap length h.0;
      nodes = ap (put x.nodes 0) h.0;
    }

-- ---- an area above 0
positive : (z : ℤ) → T (lt_z (pos 0) z) → pos (nat_abs z) ≡ z
positive (pos n) h = refl
positive (negsuc n) h = absurd h

not_negative : (z : ℤ) → T (lt_z (pos 0) z) → T (non_neg z)
not_negative (pos n) h = tt
not_negative (negsuc n) h = absurd h

-- ---- the claim
module _ (L : Limits) (r : ℕ) (p : Part) (x : Lists) (a : CallAnswer) (z : a.row.code ≡ 0) (q : Divisible L r p x)
    (e : a ≡ answered L r p x (split_bad_vertices L p) (outcome_of L p x)) (left : NodesLeft L p x a) (marks : RimsLeft L p x a) where
  abbrev s : Stack
  s = split_bad_vertices L p

  abbrev h : Prepared L r p x
  h = q.prepared

  abbrev y : Ready L r x
  y = h.ready

  w : Sound p
  w = sound L r p x q

  k : Counted L (length p.points) s
  k = counted L p w

  g : AreasBalance p s
  g = weighed L p w

  t : Accepted L p x s a
  t =
      subst (Accepted L p x s) (sym e)
      (accepted L r p x s (outcome_of L p x)
      (pieces-over L.share s.pieces (used_in x))
      (subst (λ (n : ℕ). CellsOf n (outcome_of L p x)) (corners-all s.pieces) (pieces-cells L.share s.pieces (used_in x) (length s.pieces)))
      (ap (λ (a : CallAnswer). a.row.code) (sym e) ∙ z))

  cells_added : length (cells_from L p x) ≡ a.row.corners + 2 * a.row.cuts
  cells_added = omega (arith, t.many, k.corners, t.cuts, t.corners)

  nodes_fit : a.row.nodes ≤ length a.nodes
  nodes_fit = left.fits y.listed

  used-length : length (used_after a) ≡ a.row.nodes
  used-length = length-take-le a.row.nodes a.nodes nodes_fit

  old : (i : ℕ) → i < x.node_count_of → (i < a.row.nodes) × (node_at a.nodes i ≡ node_at x.nodes i)
  old i u =
      let v : i < length (used_in x) = omega (arith, u, length-take-le x.node_count_of x.nodes y.listed) in
      let h : i < a.row.nodes = omega (arith, v, left.grown.longer, used-length) in
      (h, sym (get_or-take a.row.nodes a.nodes i no_node h) ∙ left.grown.same i v ∙ get_or-take x.node_count_of x.nodes i no_node u)

  in_range_lem : (i : ℕ) → i < a.row.nodes → InRange (node_at a.nodes i)
  in_range_lem i u = subst InRange (get_or-take a.row.nodes a.nodes i no_node u) (left.ranged y.used i (omega (arith, u, used-length)))

  claim : AcceptedCall L p x a
  claim =
      record {
        corners = t.corners;
        marked = t.marked;
        cuts = t.cuts ∙ sym k.logged;
        pieces = t.pieces;
        most = omega (arith, t.cuts, k.most);
        few = omega (arith, t.cuts, t.corners, k.few);
        one_more = omega (arith, t.pieces, t.cuts, k.pieces);
        cell_count = omega (arith, t.cell_count, cells_added);
        cells = t.cells;
        cells_added = cells_added;
        cells_fit = omega (arith, t.cell_count, cells_added, t.corners, t.cuts, k.most, k.few, y.cells_free, y.stored, h.fewer);
        sliced = t.sliced;
        listed = t.listed;
        numbers_fit = omega (arith, nodes_fit, left.places, y.places);
        node_count = t.node_count;
        nodes = t.nodes;
        nodes_added = omega (arith, left.adds, t.corners, t.marked, t.cuts);
        nodes_fit = omega (arith, nodes_fit, left.places);
        old_nodes = old;
        rims =
            marks.rims
            ∙ ap (λ (qs : List Ask). rims_by x.node_count_of a.row.nodes qs x.rims) (ap (λ (n : ℕ). cond (laid_out n) (asked L p (used_in x)) []) z);
        old_rims = λ i u. set-kept L p x a marks i u (omega (arith, u, y.listed, y.rimmed));
        ranged = in_range_lem;
        area = ap pos t.area ∙ positive (polygon_area p.points) q.whole.wide;
        turned = t.turned ∙ g.turned;
        areas =
            g.sum ∙ ap (λ (z : ℤ). z +ℤ pos (2 * s.turned)) (sym (positive (polygon_area p.points) q.whole.wide))
            ∙ ap pos (omega (arith, t.area, t.turned));
        upright = g.upright (not_negative (polygon_area p.points) q.whole.wide);
        chosen = chosen L p w;
        clear = clear L p w;
        excused = subst (λ (n : ℕ). All (WhyUncut L n) s.pieces) (sym t.cuts) (excused L p w (elements p.points h.sheet));
        traced = traced L p w;
      }

-- ---- of any entry: its tests, and the core for the ring that it prepares where none of them holds
module _ (L : Limits) (r : ℕ) (p : Part) (x : Lists) (rs : List Refusal) (n : T (numbered rs)) (h : Passes rs → Prepared L r p x) where
  abbrev answer : CallAnswer
  answer = refused_or x rs (core L r p x)

  pub demand3_by : answer.row.code ≡ 0 → AcceptedCall L p x answer
  demand3_by z = go (course L r p x rs n h)
    where
      go : Course L r p x answer → AcceptedCall L p x answer
      go (away m t e) = absurd (not_0 m t (sym (ap (λ (a : CallAnswer). a.row.code) e ∙ refused-code x m) ∙ z))
      go (ran q e) = claim L r p x answer z q e (nodes-left_by L r p x rs n h) (rims-left_by L r p x rs n h)

-- ---- of the divider call, and of the same over lent lists
pub demand3 : (L : Limits) (c : Call) → (divide L c).row.code ≡ 0 → AcceptedCall L (start_of c) (lists_of c) (divide L c)
unfolding divide
demand3 L c z = demand3_by L (length c.ring) (start_of c) (lists_of c) (tests L c) tt (prepared_if L c) z

demand3_of : {A : Type 0} (own : ℕ → ℕ → Bool) (read : List A → List Cell) (L : Limits) (l : LentOf A) → (divide_for own read L l).row.code ≡ 0
    → AcceptedCall L (start_of (call_by read l)) (lists_of (call_by read l)) (divide_for own read L l)
demand3_of own read L l z =
    let c = call_by read l in demand3_by L (length c.ring) (start_of c) (lists_of c) (tests_for own read L l) tt (λ h. prepared_by own L c h.1) z

pub demand3_lent : (L : Limits) (l : Lent) → (divide_lent L l).row.code ≡ 0 → AcceptedCall L (start_of (call_of l)) (lists_of (call_of l)) (divide_lent L l)
unfolding divide_lent
demand3_lent L l z = demand3_of no_test all_cells L l z

-- of the practice call, with 12 cuts
pub demand3_practice : (l : Lent) → (divide_practice l).row.code ≡ 0
    → AcceptedCall practice_set (start_of (call_of l)) (lists_of (call_of l)) (divide_practice l)
unfolding divide_practice
demand3_practice l z = demand3_of over24 all_cells practice_set l z

pub demand3_records : (L : Limits) (l : LentRecords) → (divide_records L l).row.code ≡ 0
    → AcceptedCall L (start_of (call_of_records l)) (lists_of (call_of_records l)) (divide_records L l)
unfolding divide_records
demand3_records L l z = demand3_of no_test (λ cs. cs) L l z
