-- What it says that none of the tests of a call holds (`passed`): the counts are within limits, every point of ring and chain is on the sheet, every used
-- node is finite and within 1,024 mm, the used counts fit their lists, each node place has a rim mark, the reserves are free, and the set has at most 32
-- cuts. Each test by itself: `counts_in`, `points_in_lem`, `counts_fit`, `ready`.
use Prim.Native.Nat.{ℕ, ◌-◌, ◌≤◌, ◌<◌, zero-le}
use native.Mathlib.Omega.{arith}
use native.Mathlib.Decide.{dec_lt}
use mathlib.Core.Path.{◌≡◌, refl, sym, subst}
use mathlib.Core.Bool.{Bool, true, false, not, ◌&&◌, ◌||◌}
use mathlib.Core.List.{List}
use lib.IntN.{ℤ, pos, negsuc, nat_abs}
use lib.ListN.{length, get_or, get_or-eq_default}
use lib.Dec.{T, ltb, eqb, nltb→le}
use borrow.Author.Tests.{ltb-false}
use Rattle.laws.specs.Bounded.{any}
use Rattle.laws.proofs.Booleans.{not-of, not-not, neither, and_both, not-false}
use Rattle.laws.proofs.Search.{any_none}
use Rattle.vector.specs.declared.GridPoint.{GridPoint}
use Rattle.vector.specs.declared.Point.{Point}
use Rattle.vector.specs.Grid.{origin}
use Rattle.vector.specs.Size.{OnSheet, AllOnSheet}
use Rattle.limits.specs.declared.Limits.{Limits}
use Rattle.chain.specs.Range.{ChainOnSheet}
use Rattle.nodes.specs.Nodes.{node_at}
use Rattle.nodes.specs.Growth.{InRange, EachNode}
use Rattle.nodes.proofs.Ranged.{on_sheet-within}
use Rattle.table.specs.Refusals.{Passes, in_order}
use Rattle.table.proofs.Refusals.{passes_all}
use Rattle.limits.proofs.Taken.{most-cuts}
use Rattle.call.specs.Call.{Lists, used_in, Call, lists_of, counts_out, beyond, outside, any_outside, units_out, on_sheet, usable, rims_out, lists_over}
use Rattle.call.specs.Call.{lists_out, node_reserve, cell_reserve, most_places, room_out_of, made_by, no_test, tests}
use Rattle.call.specs.Demand.{Ready}

-- ---- the points
within-limits : (z : ℤ) → T (not (beyond z)) → nat_abs z ≤ 8388608
within-limits (pos n) h = go (ltb 8388608 n) refl h
  where
    go : (b : Bool) → ltb 8388608 n ≡ b → T (not (b || false)) → n ≤ 8388608
    go true e h = absurd h
    go false e h = ltb-false 8388608 n e
within-limits (negsuc n) h = omega (arith, nltb→le 8388607 n h)

point_on_sheet : (p : GridPoint) → T (not (outside p)) → OnSheet p
unfolding outside
point_on_sheet p h = go (beyond p.x) refl (beyond p.y) refl h
  where
    go : (a : Bool) → beyond p.x ≡ a → (b : Bool) → beyond p.y ≡ b → T (not (a || b)) → OnSheet p
    go true d b e h = absurd h
    go false d true e h = absurd h
    go false d false e h = record { x = within-limits p.x (not-of (beyond p.x) d); y = within-limits p.y (not-of (beyond p.y) e) }

-- every place, also past the end, where the origin stands
pub points_on_sheet : (r : List GridPoint) → any_outside r ≡ false → (i : ℕ) → OnSheet (get_or r i origin)
unfolding any_outside
points_on_sheet r h i = go (dec_lt i (length r))
  where
    go : Dec (i < length r) → OnSheet (get_or r i origin)
    go (yes l) = point_on_sheet (get_or r i origin) (any_none (λ i. outside (get_or r i origin)) (length r) (not-of (any_outside r) h) i l)
    go (no l) = subst OnSheet (sym (get_or-eq_default r origin {n = i} (omega arith))) (record { x = zero-le; y = zero-le })

-- ---- the used nodes
usable_in_range : (ns : List Point) → T (usable ns) → EachNode InRange ns
unfolding usable
usable_in_range ns h i l =
    let b = on_sheet (node_at ns i).x && on_sheet (node_at ns i).y in
    let k =
    and_both (on_sheet (node_at ns i).x) (on_sheet (node_at ns i).y)
    (not-not b (any_none (λ i. not (on_sheet (node_at ns i).x && on_sheet (node_at ns i).y)) (length ns) h i l)) in
    (on_sheet-within (node_at ns i).x k.0, on_sheet-within (node_at ns i).y k.1)

-- ---- each test by itself
-- 1: the counts r and k
pub counts_in : (r k : ℕ) → counts_out r k ≡ false → (3 ≤ r) × (r ≤ 60) × (k ≤ 60)
unfolding counts_out
counts_in r k e =
    let a = neither (ltb r 3 || ltb 60 r) (ltb 60 k) e in
    let b = neither (ltb r 3) (ltb 60 r) a.0 in
    (ltb-false r 3 b.0, ltb-false 60 r b.1, ltb-false 60 k a.1)

-- 2
pub points_in_lem : (ring chain : List GridPoint) (size : ℕ) → units_out ring chain size ≡ false → AllOnSheet ring × AllOnSheet chain
unfolding units_out
points_in_lem ring chain size e =
    let a = neither (any_outside ring || any_outside chain || eqb size 0) (ltb 2048 size) e in
    let b = neither (any_outside ring || any_outside chain) (eqb size 0) a.0 in
    let c = neither (any_outside ring) (any_outside chain) b.0 in
    (points_on_sheet ring c.0, points_on_sheet chain c.1)

-- 3: the counts fit their lists, of which the node list has no more places than may be, the used nodes are in range, and each node place has a rim mark
pub counts_fit : (x : Lists) → lists_out x ≡ false
    → (x.node_count_of ≤ length x.nodes) × (x.cell_count_of ≤ length x.cells) × (length x.nodes ≤ most_places) × EachNode InRange (used_in x)
    × (length x.nodes ≤ length x.rims)
unfolding lists_over rims_out
counts_fit x e =
    let ns = length x.nodes in
    let cs = length x.cells in
    let m = length x.rims in
    let f = neither (ltb ns x.node_count_of || ltb cs x.cell_count_of || ltb most_places ns || not (usable (used_in x))) (rims_out x) e in
    let g = neither (ltb ns x.node_count_of || ltb cs x.cell_count_of || ltb most_places ns) (not (usable (used_in x))) f.0 in
    let w = neither (ltb m ns) (any (λ i. ltb 1 (get_or x.rims i 0)) x.node_count_of) f.1 in
    let h = neither (ltb ns x.node_count_of || ltb cs x.cell_count_of) (ltb most_places ns) g.0 in
    let i = neither (ltb ns x.node_count_of) (ltb cs x.cell_count_of) h.0 in (
      ltb-false ns x.node_count_of i.0,
      ltb-false cs x.cell_count_of i.1,
      ltb-false most_places ns h.1,
      usable_in_range (used_in x) (not-false (usable (used_in x)) g.1),
      ltb-false m ns w.0,
    )

-- 3 and 4, of a ring of r points
pub ready : (L : Limits) (r : ℕ) (x : Lists) → lists_out x ≡ false
    → room_out_of L r (length x.nodes - x.node_count_of) (length x.cells - x.cell_count_of) ≡ false
    → Ready L r x
unfolding room_out_of
ready L r x e f =
    let h = counts_fit x e in
    let n = length x.nodes - x.node_count_of in
    let k = length x.cells - x.cell_count_of in
    let j = neither (ltb n (node_reserve L r)) (ltb k (cell_reserve L r)) f in
    record {
      listed = h.0;
      stored = h.1;
      places = h.2;
      used = h.3;
      rimmed = h.4;
      nodes_free = ltb-false n (node_reserve L r) j.0;
      cells_free = ltb-false k (cell_reserve L r) j.1;
    }

-- ---- all of them
pub record Passed (L : Limits) (c : Call) : Type 0 where
  pub cuts : L.cuts ≤ 32
  pub from : 3 ≤ length c.ring
  pub to : length c.ring ≤ 60
  pub ring : AllOnSheet c.ring
  pub chain : ChainOnSheet c.chain
  pub ready : Ready L (length c.ring) (lists_of c)

pub passed_by : (own : ℕ → ℕ → Bool) (L : Limits) (c : Call) → Passes (in_order (made_by own L c)) → Passed L c
passed_by own L c h =
    let k = passes_all (made_by own L c) h in
    let n = counts_in (length c.ring) (length c.chain) k.counts in
    let p = points_in_lem c.ring c.chain c.size k.units in
    record {
      cuts = most-cuts L k.limits;
      from = n.0;
      to = n.1;
      ring = p.0;
      chain = record { few = n.2; each = p.1 };
      ready = ready L (length c.ring) (lists_of c) k.lists k.room;
    }

pub passed : (L : Limits) (c : Call) → Passes (tests L c) → Passed L c
passed L c h = passed_by no_test L c h
