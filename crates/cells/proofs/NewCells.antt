-- A piece has a cell for each corner, and each cell four numbers of listed nodes: in either attempt (`attempt-cells`), of a
-- piece (`subdivide-cells`), and of pieces one after the other that are all done (`pieces-cells`).
use Prim.Native.Nat.{ℕ, zero, suc, ◌+◌, ◌%◌, ◌≤◌, ◌<◌}
use native.Mathlib.Nat.{le_refl, le_trans, lt_of_lt_of_le, mod-lt}
use native.Mathlib.Omega.{arith}
use mathlib.Core.Path.{◌≡◌, refl, subst}
use mathlib.Core.Bool.{Bool, true, false, cond, ◌||◌}
use mathlib.Core.List.{List, ◌∷◌, ◌++◌}
use lib.ListN.{length, get_or, length-append}
use lib.Dec.{eqb}
use lib.Ieee.{Float}
use Rattle.laws.specs.All.{All}
use Rattle.laws.proofs.Lists.{all_append, all_snoc, all-weaken}
use Rattle.vector.specs.declared.GridPoint.{GridPoint}
use Rattle.vector.specs.declared.Point.{Point}
use Rattle.vector.specs.Grid.{origin}
use Rattle.vector.specs.Plane.{in_mm}
use Rattle.marks.specs.declared.EdgeMark.{EdgeMark}
use Rattle.marks.specs.Part.{Part, no_part}
use Rattle.nodes.specs.Growth.{Grown, Anything}
use Rattle.nodes.proofs.Growth.{add_nodes-grown, add_nodes-length, add_nodes-number}
use Rattle.quads.specs.declared.Cell.{Cell}
use Rattle.quads.specs.Quads.{edge_middle, mean, cells_to}
use Rattle.quads.proofs.CellList.{cells-length, cell_of}
use Rattle.cells.specs.Cells.{Attempt, attempt, subdivide}
use Rattle.cells.specs.Pieces.{Outcome, done, failed, onward, pieces_to}
use Rattle.cells.specs.Stages.{corners, end, middles, centre, mark_at, straight, nodes_of}
use Rattle.quads.specs.Flat.{Listed}
use Rattle.cells.specs.Claims.{Celled, corners_to, CellsOf}
use Rattle.cells.proofs.Attempts.{onward-done, pieces-next}

pub listed-later : (m n : ℕ) → m ≤ n → (l : List Cell) → All (Listed m) l → All (Listed n) l
listed-later m n h l a =
    all-weaken (Listed m) (Listed n)
    (λ q b. record { a = lt_of_lt_of_le b.a h; b = lt_of_lt_of_le b.b h; c = lt_of_lt_of_le b.c h; d = lt_of_lt_of_le b.d h }) l a

-- ---- the cells of n middles and n corners whose numbers are below m
module _ (m c : ℕ) (ms vs : List ℕ) where
  cells-listed : (n k : ℕ) → c < m → ((i : ℕ) → i < n → get_or ms i 0 < m) → ((i : ℕ) → i < n → get_or vs i 0 < m) → length ms ≡ n → length vs ≡ n → k ≤ n
      → All (Listed m) (cells_to c ms vs k)
  unfolding cells_to
  cells-listed n zero h f g u v l = tt
  cells-listed n (suc k) h f g u v l =
      all_snoc (Listed m) (cells_to c ms vs k) (cell_of c ms vs k) (cells-listed n k h f g u v (omega arith))
      (record { a = h; b = f k l; c = g (suc k % length vs) (wrap vs v); d = f (suc k % length ms) (wrap ms u) })
    where
      wrap : (xs : List ℕ) → length xs ≡ n → suc k % length xs < n
      wrap xs e = subst (λ (z : ℕ). suc k % length xs < z) e (mod-lt (suc k) {m = length xs} (omega arith))

module _ (share : Float) where
  -- ---- an attempt
  pub attempt-cells : (ns : List Point) (ps : List GridPoint) (e : ℕ → EdgeMark) → Celled (length ps) (attempt share ns ps e)
  unfolding attempt
  attempt-cells ns ps e =
      record {
        many = cells-length c (middles share ns ps e).numbers (corners ns ps).numbers (length ps);
        listed =
            cells-listed (length all) c (middles share ns ps e).numbers (corners ns ps).numbers (length ps) (length ps)
            (add_nodes-number (middles share ns ps e).nodes (λ i. mean (end ns ps) (length ps)) 1 0 (omega arith)).low
            (λ i l. lt_of_lt_of_le (add_nodes-number (corners ns ps).nodes middle (length ps) i l).low last.longer)
            (λ i l. lt_of_lt_of_le (add_nodes-number ns (λ i. in_mm (get_or ps i origin)) (length ps) i l).low (le_trans before.longer last.longer))
            (add_nodes-length (corners ns ps).nodes middle (length ps))
            (add_nodes-length ns (λ i. in_mm (get_or ps i origin)) (length ps))
            (le_refl (length ps));
      }
    where
      c : ℕ
      c = get_or (centre share ns ps e).numbers 0 0

      all : List Point
      all = (centre share ns ps e).nodes

      middle : ℕ → Point
      middle i = edge_middle share (e i) (end ns ps i) (end ns ps (suc i))

      before : Grown Anything (corners ns ps).nodes (middles share ns ps e).nodes
      before = add_nodes-grown (corners ns ps).nodes middle (length ps) (λ i l. tt)

      last : Grown Anything (middles share ns ps e).nodes all
      last = add_nodes-grown (middles share ns ps e).nodes (λ i. mean (end ns ps) (length ps)) 1 (λ i l. tt)

  -- ---- a piece
  pub subdivide-cells : (ns : List Point) (p : Part) → Celled (length p.points) (subdivide share ns p)
  unfolding subdivide
  subdivide-cells ns p = go (eqb t.fails (length p.points) || t.far)
    where
      t : Attempt
      t = attempt share ns p.points (mark_at p)

      go : (b : Bool) → Celled (length p.points) (cond b t (attempt share t.nodes p.points straight))
      go true = attempt-cells ns p.points (mark_at p)
      go false = attempt-cells t.nodes p.points straight

  -- ---- pieces one after the other
  onward-cells : (n : ℕ) (o : Outcome) (p : Part) → CellsOf n o → Grown Anything (nodes_of o) (nodes_of (onward share o p))
      → CellsOf (n + length p.points) (onward share o p)
  unfolding onward
  onward-cells n (failed ns m k) p h g = tt
  onward-cells n (done ns cs) p h g = go (eqb t.fails (length p.points)) (subst (λ (l : List Point). Grown Anything ns l) (onward-done share ns cs p) g)
    where
      t : Attempt
      t = subdivide share ns p

      go : (b : Bool) → Grown Anything ns t.nodes
          → CellsOf (n + length p.points) (cond b (done t.nodes (cs ++ t.cells)) (failed t.nodes (length p.points) t.fails))
      go true g =
          let s = subdivide-cells ns p in (
            omega (arith, length-append cs t.cells, h.0, s.many),
            all_append (Listed (length t.nodes)) cs t.cells (listed-later (length ns) (length t.nodes) g.longer cs h.1) s.listed,
          )
      go false g = tt

  pub pieces-cells : (ps : List Part) (ns : List Point) (i : ℕ) → CellsOf (corners_to ps i) (pieces_to share ps ns i)
  unfolding pieces_to
  pieces-cells ps ns zero = (refl, tt)
  pieces-cells ps ns (suc i) = onward-cells (corners_to ps i) (pieces_to share ps ns i) (get_or ps i no_part) (pieces-cells ps ns i) (pieces-next share ps ns i)

-- the corners counted from the front
pub corners_to_cons : (p : Part) (ps : List Part) (i : ℕ) → corners_to (p ∷ ps) (suc i) ≡ length p.points + corners_to ps i
corners_to_cons p ps zero = omega arith
corners_to_cons p ps (suc i) = omega (arith, corners_to_cons p ps i)
