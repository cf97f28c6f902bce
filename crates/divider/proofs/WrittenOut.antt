-- Nodes and cells put over some places of the lists that hold them: they are written over the numbers of those places, and every other number
-- stays (`nodes-out`, `cells_out`).
use Prim.Native.Nat.{ℕ, ◌+◌, ◌*◌, ◌/◌, ◌≤◌, ◌<◌}
use native.Mathlib.Nat.{add-zero, zero-add}
use native.Mathlib.Omega.{arith}
use mathlib.Core.Path.{◌≡◌, refl, sym, ap, ◌∙◌}
use mathlib.Core.List.{List, [], ◌∷◌, ◌++◌}
use lib.ListN.{length, get_or, take, drop}
use lib.Seq.{drop-drop}
use lib.Ieee.{Float}
use Rattle.laws.specs.Lists.{put}
use Rattle.laws.specs.Table.{tab}
use Rattle.laws.proofs.Table.{length_tab, part_tab}
use Rattle.laws.proofs.WrittenOut as written
use Rattle.vector.specs.declared.Point.{Point}
use Rattle.nodes.specs.Flat.{nodes_in, two, flat_nodes, over}
use Rattle.nodes.proofs.Flat.{length_in, over_in}
use Rattle.quads.specs.declared.Cell.{Cell}
use Rattle.quads.specs.Flat.{four, flat_cells, over_cells}
use Rattle.call.specs.Lent.{cell_in, cells_in}

-- ---- nodes, two doubles each
module _ (l : List Float) where
  -- the places of l
  abbrev node_places : ℕ
  node_places = length l / 2

  abbrev nodes_of : List Point
  nodes_of = nodes_in l node_places

  fits : node_places * 2 ≤ length l
  fits = omega (arith, div-mul-le l)
    where
      div-mul-le : (l : List Float) → length l / 2 * 2 ≤ length l
      div-mul-le l = omega arith

  -- the nodes as found: the list as found
  pub nodes_as_found : over l nodes_of ≡ l
  nodes_as_found = over_in l node_places fits

  -- the nodes with ns over the first of them: the list with ns over its first places
  pub nodes-out : (ns : List Point) → length ns ≤ node_places → over l (put nodes_of 0 ns) ≡ over l ns
  unfolding over
  nodes-out ns h =
      written.put-out two 2 (λ p. refl) l nodes_of (over_in l node_places fits) 0 ns (omega (arith, length_in l node_places))
      ∙ (λ j. flat_nodes ns ++ drop (zero-add (length ns) j * 2) l)

-- ---- cells, four numbers each
-- cell i of l is its four numbers from 4 i on
four_at : (l : List ℕ) (n : ℕ) → n * 4 ≤ length l → (i : ℕ) → i < n → four (cell_in l i) ≡ take 4 (drop (i * 4) l)
unfolding tab
four_at l n h i k =
    (λ j. get_or l (sym (add-zero (i * 4)) j) 0 ∷ get_or l (i * 4 + 1) 0 ∷ get_or l (i * 4 + 2) 0 ∷ get_or l (i * 4 + 3) 0 ∷ [])
    ∙ sym (part_tab l (i * 4) 4 0 (omega (arith, h, k)))

module _ (l : List ℕ) where
  abbrev cell_places : ℕ
  cell_places = length l / 4

  abbrev cells_of : List Cell
  cells_of = cells_in l cell_places

  fits4 : cell_places * 4 ≤ length l
  fits4 = omega arith

  -- the cells as found: the list as found
  pub cells_as_found : over_cells l cells_of ≡ l
  unfolding over_cells
  cells_as_found = written.over_own four 4 (λ c. refl) (cell_in l) l cell_places (four_at l cell_places fits4)

  -- the cells with cs over those from i on: the list with cs over its places from i on
  pub cells_out : (i : ℕ) (cs : List Cell) → i + length cs ≤ cell_places → over_cells l (put cells_of i cs) ≡ take (i * 4) l ++ over_cells (drop (i * 4) l) cs
  unfolding over_cells
  cells_out i cs h =
      let e : (i + length cs) * 4 ≡ i * 4 + length cs * 4 = omega arith in
      written.put-out four 4 (λ c. refl) l cells_of cells_as_found i cs (omega (arith, length_tab (cell_in l) cell_places))
      ∙ ap (λ (r : List ℕ). take (i * 4) l ++ (flat_cells cs ++ r)) (ap (λ (k : ℕ). drop k l) e ∙ sym (drop-drop (length cs * 4) (i * 4) l))
