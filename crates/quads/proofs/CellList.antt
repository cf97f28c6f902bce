-- Cells in the lent list, four numbers each: cells written over its first places, one after the other through the part
-- that starts where the next one goes.
use mathlib.Core.Path.{◌≡◌, refl, sym, ap, ◌∙◌, subst}
use mathlib.Core.List.{List, [], ◌∷◌, ◌++◌}
use Prim.Native.Nat.{ℕ, zero, suc, ◌+◌, ◌-◌, ◌*◌, ◌%◌, ◌≤◌, ◌<◌}
use native.Mathlib.Nat.{mod-lt}
use native.Mathlib.Numerals.{add-one}
use native.Mathlib.Omega.{arith}
use lib.ListN.{length, get_or, take, drop}
use borrow.Rule.Slice.PartMut.{put_mid}
use Rattle.laws.specs.Table.{tab}
use Rattle.laws.proofs.WrittenOut as written
use Rattle.laws.proofs.Table.{length_tab, get_d_tab}
use Rattle.quads.specs.declared.Cell.{Cell}
use Rattle.quads.specs.Quads.{no_cell, cells_to}
use Rattle.quads.specs.Flat.{Listed, four, flat_cells, over_cells}
use Rattle.quads.specs.declared.Round.{Round}
use Rattle.quads.specs.Round.{cells_of, ListedRound}

-- ---- the cells of a piece
module _ (c : ℕ) (ms vs : List ℕ) where
  -- cell k
  abbrev pub cell_of : ℕ → Cell
  cell_of k = record { a = c; b = get_or ms k 0; c = get_or vs (suc k % length vs) 0; d = get_or ms (suc k % length ms) 0 }

  cells_tab : (n : ℕ) → cells_to c ms vs n ≡ tab cell_of n
  unfolding cells_to tab
  cells_tab zero = refl
  cells_tab (suc n) = ap (λ (l : List Cell). l ++ (cell_of n ∷ [])) (cells_tab n)

  pub cells-length : (n : ℕ) → length (cells_to c ms vs n) ≡ n
  cells-length n = ap length (cells_tab n) ∙ length_tab cell_of n

  pub cells_at : (n k : ℕ) → k < n → get_or (cells_to c ms vs n) k no_cell ≡ cell_of k
  cells_at n k h = ap (λ (l : List Cell). get_or l k no_cell) (cells_tab n) ∙ get_d_tab cell_of n k no_cell h

  pub one_more : (l : List ℕ) (k : ℕ) (q : Cell) → q ≡ cell_of k → over_cells l (cells_to c ms vs k ++ (q ∷ [])) ≡ over_cells l (cells_to c ms vs (k + 1))
  unfolding cells_to
  one_more l k q e = ap (λ (q : Cell). over_cells l (cells_to c ms vs k ++ (q ∷ []))) e ∙ rw add-one

-- ---- cell k as the code makes it, of as many middles as corners; j is the place after k
module _ (c : ℕ) (ms vs : List ℕ) (same : length vs ≡ length ms) (k j : ℕ) (h : k < length ms) (e : j ≡ (k + 1) % length ms) where
  pub cell-is : ◌≡◌ {A = Cell} (record { a = c; b = get_or ms k 0; c = get_or vs j 0; d = get_or ms j 0 }) (cell_of c ms vs k)
  cell-is =
      let f : (q : ℕ) → q ≡ length ms → j ≡ suc k % q = λ q g. e ∙ (λ i. add-one k i % sym g i) in
      λ i. record {
        a = c;
        b = get_or ms k 0;
        c = get_or vs (f (length vs) same i) 0;
        d = get_or ms (f (length ms) refl i) 0;
      }

  pub cell_at : ◌≡◌ {A = Cell} (record { a = c; b = get_or ms k 0; c = get_or vs j 0; d = get_or ms j 0 }) (get_or (cells_to c ms vs (length ms)) k no_cell)
  cell_at = cell-is ∙ sym (cells_at c ms vs (length ms) k h)

-- its numbers are those of listed nodes
pub cell-listed : {u : ℕ} (r : Round) → ListedRound u r → (k : ℕ) → k < length r.middles.now → Listed u (get_or (cells_of r) k no_cell)
cell-listed {u} r g k h =
    let n : suc k % length r.middles.now < length r.middles.now = mod-lt (suc k) (omega arith) in
    let e : length r.corners.now ≡ length r.middles.now = r.as_many in
    let l : suc k % length r.corners.now < length r.corners.now = mod-lt (suc k) (omega arith) in
    let m : suc k % length r.corners.now < length r.middles.now = omega arith in
    subst (Listed u) (sym (cells_at r.centre r.middles.now r.corners.now (length r.middles.now) k h))
    (record { a = g.centre; b = g.middles k h; c = g.corners _ m; d = g.middles _ n })

-- ---- written out
pub length-cells : (cs : List Cell) → length (flat_cells cs) ≡ length cs * 4
length-cells cs = written.out-length four 4 (λ c. refl) cs

pub length_over : (l : List ℕ) (cs : List Cell) → length cs * 4 ≤ length l → length (over_cells l cs) ≡ length l
unfolding over_cells
length_over l cs h = written.length_over four 4 (λ c. refl) l cs h

-- cells over cells, no fewer
pub over-over : (l : List ℕ) (cs ds : List Cell) → length cs ≤ length ds → over_cells (over_cells l cs) ds ≡ over_cells l ds
unfolding over_cells
over-over l cs ds h = written.over-over four 4 (λ c. refl) l cs ds h

pub over_none : (l : List ℕ) → l ≡ over_cells l []
unfolding over_cells
over_none l = written.over_none four 4 (λ c. refl) l

-- one cell more, written through the part from at on
pub turn : (l m : List ℕ) (at : ℕ) (cs : List Cell) (c : Cell) (r : List ℕ) → m ≡ over_cells l cs → at ≡ length cs * 4 → length cs * 4 + 4 ≤ length l
    → r ≡ four c ++ drop 4 (take (length m - at) (drop at m))
    → put_mid at (length m - at) m r ≡ over_cells l (cs ++ (c ∷ []))
unfolding over_cells
turn l m at cs c r e a h q = written.over-more four 4 (λ c. refl) l m at cs c r e a h q
