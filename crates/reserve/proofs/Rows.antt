-- Claim (Card 4): "Every ring count has its old reserve". Each row of the reserve sheet, for a ring of 3 to 60 points,
-- has the 3r + 2m + 1 node places and the r + 2m cell places of 01 at 32 cuts. One computation over the whole sheet
-- (`node-rows`, `cell-rows`), and one lemma that says it of each row (`sheet-rows`).
use Prim.Native.Nat.{ℕ, ◌+◌, ◌-◌, ◌≤◌, ◌<◌}
use native.Mathlib.Omega.{arith}
use mathlib.Core.Path.{◌≡◌, refl, ap, ◌∙◌}
use mathlib.Core.List.{List}
use lib.ListN.{get_or}
use Rattle.laws.specs.Table.{tab}
use Rattle.laws.proofs.Table.{get_d_tab}
use Rattle.reserve.specs.Reserve.{node_places, cell_places}
use Rattle.reserve.specs.Sheet.{sheet, node_column, cell_column, nodes_at, cells_at_of}

pub node-rows : node_column ≡ tab (λ i. node_places 32 (3 + i)) 58
unfolding sheet node_column tab
node-rows = refl

pub cell-rows : cell_column ≡ tab (λ i. cell_places 32 (3 + i)) 58
unfolding sheet cell_column tab
cell-rows = refl

-- the row of r points in a list whose rows, from 3 points on, are f
at_row : (l : List ℕ) (f : ℕ → ℕ) → l ≡ tab (λ i. f (3 + i)) 58 → (r : ℕ) → 3 ≤ r → r ≤ 60 → get_or l (r - 3) 0 ≡ f r
at_row l f e r h k =
    let g : r - 3 < 58 = omega (arith, h, k) in
    let b : 3 + (r - 3) ≡ r = omega (arith, h) in
    ap (λ (m : List ℕ). get_or m (r - 3) 0) e ∙ get_d_tab (λ i. f (3 + i)) 58 (r - 3) 0 g ∙ ap f b

pub sheet-rows : (r : ℕ) → 3 ≤ r → r ≤ 60 → (nodes_at r ≡ node_places 32 r) × (cells_at_of r ≡ cell_places 32 r)
unfolding nodes_at cells_at_of
sheet-rows r h k = (at_row node_column (node_places 32) node-rows r h k, at_row cell_column (cell_places 32) cell-rows r h k)
