-- Cells written one after the other are cells put over the list (`written_is`); and the promise of a call from the numbers of its cells. As a call of a list
-- of calls it leaves what call's specs/LentCalls says (`as_called`).
use Prim.Native.Nat.{ℕ, zero, suc, ◌+◌, ◌*◌, ◌≤◌, ◌<◌}
use native.Mathlib.Nat.{add-zero, not-suc-le-zero}
use native.Mathlib.Omega.{arith}
use mathlib.Core.Path.{◌≡◌, refl, sym, ap, ◌∙◌}
use mathlib.Core.List.{List, [], ◌∷◌, ◌++◌, append_assoc, append-nil}
use lib.ListN.{length, get_or, set, take, drop, length-append, take-append-drop}
use lib.Seq.{length-take-le, drop-cons, set_at}
use lib.Ieee.{Float}
use Rattle.laws.specs.Table.{tab}
use Rattle.laws.proofs.Table.{length_tab, is_tab}
use Rattle.limits.specs.declared.Limits.{Limits}
use Rattle.quads.specs.declared.Cell.{Cell}
use Rattle.quads.specs.Quads.{no_cell}
use Rattle.quads.specs.Flat.{flat_cells, over_cells}
use Rattle.table.specs.declared.Row.{Row}
use Rattle.call.specs.Divide.{put}
use Rattle.call.specs.Lent.{cell_in, cells_in, LentRecords}
use Rattle.call.specs.LentCalls.{Given, records, Pool, lend, answer_of, leaves}
use Rattle.call.proofs.Demand.{demand3_records}
use Rattle.cell_records.specs.declared.Laid.{Laid}
use Rattle.cell_records.specs.Records.{RecordsPromise, written, Numbers}

pub written_is : (l : List Cell) (i : ℕ) (x : List ℕ) (k : ℕ) → (0 < k → i + k ≤ length l) → written l i x k ≡ put l i (cells_in x k)
unfolding tab
written_is l i x zero h = sym ((λ j. append-nil (take i l) j ++ drop (add-zero i j) l) ∙ take-append-drop i l)
written_is l i x (suc k) f =
    let h : i + suc k ≤ length l = f (omega arith) in
    let cs = cells_in x k in
    let c = cell_in x k in
    let n : length cs ≡ k = length_tab (cell_in x) k in
    let a : length (take i l ++ cs) ≡ i + k = length-append (take i l) cs ∙ omega (arith, length-take-le i l (omega arith), n) in
    let d = drop-cons l (i + length cs) no_cell (omega (arith, h, n)) in
    let e : suc (i + length cs) ≡ i + length (cs ++ (c ∷ [])) = omega (arith, length-append cs (c ∷ [])) in
    ap (λ (z : List Cell). set z (i + k) c) (written_is l i x k (λ u. omega arith))
    ∙ ap (λ (z : List Cell). set ((take i l ++ cs) ++ z) (i + k) c) d
    ∙ set_at (take i l ++ cs) (get_or l (i + length cs) no_cell) (drop (suc (i + length cs)) l) c (i + k) a
    ∙ ap (λ (m : ℕ). (take i l ++ cs) ++ (c ∷ drop m l)) e
    ∙ simp append_assoc

-- ---- cells read from their numbers
cell_at : (cs : List Cell) (r : List ℕ) (i : ℕ) → i < length cs → cell_in (flat_cells cs ++ r) i ≡ get_or cs i no_cell
cell_at [] r i h = absurd (not-suc-le-zero h)
cell_at (c ∷ cs) r zero h = refl
cell_at (c ∷ cs) r (suc i) h =
    let e₀ : suc i * 4 ≡ suc (suc (suc (suc (i * 4)))) = omega arith in
    let e₁ : suc i * 4 + 1 ≡ suc (suc (suc (suc (i * 4 + 1)))) = omega arith in
    let e₂ : suc i * 4 + 2 ≡ suc (suc (suc (suc (i * 4 + 2)))) = omega arith in
    let e₃ : suc i * 4 + 3 ≡ suc (suc (suc (suc (i * 4 + 3)))) = omega arith in
    let l = flat_cells (c ∷ cs) ++ r in
    (λ j. record { a = get_or l (e₀ j) 0; b = get_or l (e₁ j) 0; c = get_or l (e₂ j) 0; d = get_or l (e₃ j) 0 }) ∙ cell_at cs r i (omega (arith, h))

pub cells-read : (q : List ℕ) (cs : List Cell) → cells_in (over_cells q cs) (length cs) ≡ cs
unfolding over_cells
cells-read q cs =
    sym (is_tab cs (cell_in (flat_cells cs ++ drop (length cs * 4) q)) (length cs) no_cell refl (λ i h. sym (cell_at cs (drop (length cs * 4) q) i h)))

-- ---- the promise
pub promised : (L : Limits) (l : LentRecords) (r : Laid) (us : List Cell) (zs : List Float) (ts : List ℕ) → Numbers L l r zs ts
    → (0 < r.count → r.at + r.count ≤ length l.cells) → us ≡ written l.cells r.at r.numbers r.count
    → RecordsPromise L l r.values zs ts us
promised L l r us zs ts n h e =
    record {
      values = n.values;
      nodes = n.nodes;
      rims = n.rims;
      cells = e ∙ written_is l.cells r.at r.numbers r.count h ∙ n.cells;
      accepted = λ z. demand3_records L l (sym (ap (λ (v : Row). v.code) n.values) ∙ z);
    }

-- the node list and the rim marks that it leaves are those of a list of calls
pub as_called : (s : Pool) (g : Given Cell) (v : Row) (m : List Float) (t : List ℕ) (p : List Cell) → RecordsPromise g.limits (lend s g) v m t p
    → ◌≡◌ {A = Pool} (record { doubles = m; count = v.nodes; rims = t }) (leaves s (answer_of s (records g)))
as_called s g v m t p h = λ j. record { doubles = h.nodes j; count = (h.values j).nodes; rims = h.rims j }
