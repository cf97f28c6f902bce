-- A ring with given marks is prepared for the core where none of its tests holds (`marked-prepared`): each snap point that survives is finite and within
-- 1,024 mm, whether it was given or is the outline's. So what is claimed of every entry holds of this one (`demand3_marked`).
use Prim.Native.Nat.{ℕ, suc, ◌*◌, ◌/◌, ◌%◌, ◌≤◌, ◌<◌}
use native.Mathlib.Omega.{arith}
use native.Mathlib.Decide.{dec_lt}
use mathlib.Core.Path.{◌≡◌, refl, sym, ap, ◌∙◌, subst}
use mathlib.Core.Bool.{Bool, true, false, ◌&&◌, ◌||◌, not, cond}
use mathlib.Core.List.{List, []}
use lib.ListN.{length, get_or, get_or-eq_default}
use lib.Dec.{ltb, eqb}
use borrow.Author.Tests.{eq-eqb, eqb-true, ltb-false}
use lib.IntN.{ℤ}
use lib.Ieee.{Float}
use Rattle.laws.specs.Bounded.{any}
use Rattle.laws.specs.Table.{tab}
use Rattle.laws.proofs.Booleans.{is_true, neither, and_both, not-false}
use Rattle.laws.proofs.Search.{any_at, any_hit}
use Rattle.laws.proofs.Table.{get_d_tab}
use Rattle.vector.specs.declared.GridPoint.{GridPoint}
use Rattle.vector.specs.declared.Point.{Point}
use Rattle.vector.specs.Grid.{at}
use Rattle.vector.specs.Plane.{in_mm}
use Rattle.vector.specs.Size.{OnSheet, AllOnSheet}
use Rattle.clean.specs.Clean.{clean_polygon}
use Rattle.clean.specs.Places.{kept_places}
use Rattle.clean.proofs.Kept.{clean_length, clean_each}
use Rattle.clean.proofs.Places.{pick-length, kept_image, kept-rising}
use Rattle.survivors.specs.Survivors.{survives, surviving}
use Rattle.survivors.proofs.Survivors.{surviving-many, surviving-at}
use Rattle.vector.proofs.Sheet.{point_in_lem, middle_in_lem}
use Rattle.outline.proofs.Near.{outline_in_range}
use Rattle.marks.specs.declared.EdgeMark.{EdgeMark}
use Rattle.marks.specs.declared.EdgeMark.TheVariants.{Straight, Snap}
use Rattle.marks.proofs.SnapRange.{InSheetEdge, straight_in, snap_in}
use Rattle.nodes.specs.Flat.{node_in_of}
use Rattle.nodes.specs.Growth.{InRange}
use Rattle.nodes.proofs.Ranged.{on_sheet-within}
use Rattle.quads.specs.Quads.{middle}
use Rattle.table.specs.Refusals.{Passes}
use Rattle.table.proofs.Refusals.{passes_all}
use Rattle.limits.proofs.Taken.{most-cuts}
use Rattle.limits.specs.declared.Limits.{Limits}
use Rattle.call.specs.Call.{on_sheet, any_outside, counts_out}
use Rattle.call.specs.Demand.{Ready, Prepared, AcceptedCall}
use Rattle.call.specs.Lent.{odd}
use Rattle.call.specs.Marked.{Marking, all_points, mark_of, lead_point, lead_line, given_mark, marked_by, mark_out, marks_out, called_for, loops_out}
use Rattle.call.specs.Marked.{outline_out, LentMarked, marked_lists, marked_start, marked_made, marked_tests, divide_marked}
use Rattle.call.proofs.Tests.{points_on_sheet, counts_in, points_in_lem, ready}
use Rattle.call.proofs.Demand.{demand3_by}

-- ---- what 13 and 14 leave
-- the marks are as many as the ring's points and the snaps two numbers a mark; each is of a kind, and a given point in limits
pub marks_in_lem : (kinds : List ℕ) (snaps : List Float) (n : ℕ) → marks_out kinds snaps n ≡ false
    → (length kinds ≡ n) × (length snaps ≡ n * 2) × ((i : ℕ) → i < n → mark_out (get_or kinds i 0) (node_in_of snaps i) ≡ false)
unfolding marks_out
marks_in_lem kinds snaps n e =
    let p : ℕ → Bool = λ i. mark_out (get_or kinds i 0) (node_in_of snaps i) in
    let k = eqb (length kinds) n in
    let s = eqb (length snaps) (n * 2) in
    let a = neither (not k || not s) (any p n) e in
    let b = neither (not k) (not s) a.0 in
    (eqb-true (length kinds) n (is_true k b.0), eqb-true (length snaps) (n * 2) (is_true s b.1), any_at p n a.1)

-- an outline that is called for has points on the sheet, at most 60, and loops of 3 or more that add up to them
pub record Outlined (outline : List ℤ) (loops : List ℕ) : Type 0 where
  pub few : length outline / 2 ≤ 60
  pub sheet : AllOnSheet (all_points outline)
  pub whole : loops_out loops (length outline / 2) ≡ false

pub outline_in : (kinds : List ℕ) (outline : List ℤ) (loops : List ℕ) → outline_out kinds outline loops ≡ false
    → called_for kinds ≡ true → Outlined outline loops
unfolding outline_out
outline_in kinds outline loops e h =
    let n = length outline / 2 in
    let o = odd outline || eqb n 0 in
    let a : (o || ltb 60 n || loops_out loops n || any_outside (all_points outline)) ≡ false =
    subst (λ (b : Bool). (b && (o || ltb 60 n || loops_out loops n || any_outside (all_points outline))) ≡ false) h e in
    let b = neither (o || ltb 60 n || loops_out loops n) (any_outside (all_points outline)) a in
    let c = neither (o || ltb 60 n) (loops_out loops n) b.0 in
    let d = neither o (ltb 60 n) c.0 in
    record { few = ltb-false 60 n d.1; sheet = points_on_sheet (all_points outline) b.1; whole = c.1 }

-- ---- a mark, whose snap point is in range
mark_in : (kind : ℕ) (p near : Point) → mark_out kind p ≡ false → (kind ≡ 2 → InRange near) → InSheetEdge (mark_of kind p near)
unfolding mark_of mark_out
mark_in kind p near e h = go (eqb kind 1) refl (eqb kind 2) refl
  where
    ok : Bool
    ok = on_sheet p.x && on_sheet p.y

    given : eqb kind 1 ≡ true → InRange p
    given d =
        let a = neither (ltb 2 kind) (eqb kind 1 && not ok) e in
        let b : not ok ≡ false = subst (λ (b : Bool). (b && not ok) ≡ false) d a.1 in
        let c = and_both (on_sheet p.x) (on_sheet p.y) (not-false ok b) in
        (on_sheet-within p.x c.0, on_sheet-within p.y c.1)

    go : (a : Bool) → eqb kind 1 ≡ a → (b : Bool) → eqb kind 2 ≡ b → InSheetEdge (cond a (Snap p) (cond b (Snap near) Straight))
    go true d b f = snap_in p (given d)
    go false d true f = snap_in near (h (eqb-true kind 2 f))
    go false d false f = straight_in

-- ---- the marks of a ring r on the sheet
module _ (size : ℕ) (g : Marking) (r : List GridPoint) (sheet : AllOnSheet r) (m : marks_out g.kinds g.snaps (length r) ≡ false)
    (o : outline_out g.kinds g.outline g.loops ≡ false) where
  lead_in : (i : ℕ) → i < length r → get_or g.kinds i 0 ≡ 2 → InRange (lead_point (lead_line g) (at r i) (at r (suc i)))
  unfolding lead_point middle at called_for
  lead_in i l e =
      let k = (marks_in_lem g.kinds g.snaps (length r) m).0 in
      let c = any_hit (λ i. eqb (get_or g.kinds i 0) 2) i (length g.kinds) (omega (arith, l, k)) (eq-eqb (get_or g.kinds i 0) 2 e) in
      let a = sheet (i % length r) in
      let b = sheet (suc i % length r) in
      outline_in_range (middle (in_mm (at r i)) (in_mm (at r (suc i)))) (all_points g.outline) g.loops
      (middle_in_lem (in_mm (at r i)) (in_mm (at r (suc i))) (point_in_lem (at r i) a) (point_in_lem (at r (suc i)) b))
      (outline_in g.kinds g.outline g.loops o c).sheet

  given_in : (i : ℕ) → i < length r → InSheetEdge (given_mark g r i)
  unfolding given_mark
  given_in i l =
      mark_in (get_or g.kinds i 0) (node_in_of g.snaps i) (lead_point (lead_line g) (at r i) (at r (suc i)))
      ((marks_in_lem g.kinds g.snaps (length r) m).2 i l) (lead_in i l)

  abbrev ks : List ℕ
  ks = kept_places size r

  abbrev ms : List EdgeMark
  ms = tab (given_mark g r) (length r)

  pub snaps_in : (j : ℕ) → InSheetEdge (get_or (marked_by size g r).edges j Straight)
  unfolding marked_by
  snaps_in j = go (dec_lt j (length ks))
    where
      k : ℕ
      k = get_or ks j 0

      either : (b : Bool) → InSheetEdge (get_or ms k Straight) → InSheetEdge (cond b (get_or ms k Straight) Straight)
      either true h = h
      either false h = straight_in

      go : Dec (j < length ks) → InSheetEdge (get_or (surviving Straight (length r) ks ms) j Straight)
      go (yes l) =
          let b = (kept-rising size r).below j l in
          subst InSheetEdge (sym (surviving-at Straight (length r) ks ms j l))
          (either (survives (length r) ks k) (subst InSheetEdge (sym (get_d_tab (given_mark g r) (length r) k Straight b)) (given_in k b)))
      go (no l) =
          subst InSheetEdge
          (sym (get_or-eq_default (surviving Straight (length r) ks ms) Straight {n = j} (omega (arith, l, surviving-many Straight (length r) ks ms))))
          straight_in

-- a mark for each edge of the cleaned ring
pub marked-edges : (size : ℕ) (g : Marking) (r : List GridPoint) → length (marked_by size g r).edges ≡ length (marked_by size g r).points
unfolding marked_by
marked-edges size g r =
    surviving-many Straight (length r) (kept_places size r) (tab (given_mark g r) (length r))
    ∙ sym (ap length (kept_image size r) ∙ pick-length r (kept_places size r))

pub marked-points : (size : ℕ) (g : Marking) (r : List GridPoint) → (marked_by size g r).points ≡ clean_polygon size r
unfolding marked_by
marked-points size g r = refl

-- ---- the call, where none of its tests holds
pub record MarkedPassed (L : Limits) (l : LentMarked) : Type 0 where
  pub cuts : L.cuts ≤ 32
  pub from : 3 ≤ length (all_points l.ring)
  pub to : length (all_points l.ring) ≤ 60
  pub ring : AllOnSheet (all_points l.ring)
  pub marks : marks_out l.marking.kinds l.marking.snaps (length (all_points l.ring)) ≡ false
  pub outline : outline_out l.marking.kinds l.marking.outline l.marking.loops ≡ false
  pub ready : Ready L (length (all_points l.ring)) (marked_lists l)

pub marked_passed : (L : Limits) (l : LentMarked) → Passes (marked_tests L l) → MarkedPassed L l
marked_passed L l h =
    let n = length (all_points l.ring) in
    let t = passes_all (marked_made L l) h in
    let c = counts_in n 0 (neither (odd l.ring) (counts_out n 0) t.counts).1 in
    record {
      cuts = most-cuts L t.limits;
      from = c.0;
      to = c.1;
      ring = (points_in_lem (all_points l.ring) [] l.size t.units).0;
      marks = t.marks;
      outline = t.outline;
      ready = ready L n (marked_lists l) t.lists t.room;
    }

pub marked-prepared : (L : Limits) (l : LentMarked) → MarkedPassed L l → Prepared L (length (all_points l.ring)) (marked_start l) (marked_lists l)
marked-prepared L l h =
    let r = all_points l.ring in
    record {
      few = h.to;
      fewer = rw (marked-points l.size l.marking r) (clean_length l.size r);
      sheet = rw (marked-points l.size l.marking r) (clean_each OnSheet l.size r h.ring);
      edged = marked-edges l.size l.marking r;
      snaps = snaps_in l.size l.marking r h.ring h.marks h.outline;
      ready = h.ready;
    }

pub marked-prepared_if : (L : Limits) (l : LentMarked) → Passes (marked_tests L l) → Prepared L (length (all_points l.ring)) (marked_start l) (marked_lists l)
marked-prepared_if L l h = marked-prepared L l (marked_passed L l h)

-- ---- demand 3
pub demand3_marked : (L : Limits) (l : LentMarked) → (divide_marked L l).row.code ≡ 0 → AcceptedCall L (marked_start l) (marked_lists l) (divide_marked L l)
unfolding divide_marked
demand3_marked L l z = demand3_by L (length (all_points l.ring)) (marked_start l) (marked_lists l) (marked_tests L l) tt (marked-prepared_if L l) z
