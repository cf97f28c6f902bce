-- What each kind of answer leaves in the lists that the call lends: a refusal all as found; pieces that are done their nodes and cells after the old ones,
-- and their rim marks; a piece that failed its nodes and marks, and zeros over the reserve of cell places.
use Prim.Native.Nat.{ℕ, ◌+◌, ◌/◌, ◌≤◌}
use mathlib.Core.Path.{◌≡◌, refl, sym, ◌∙◌}
use mathlib.Core.List.{List}
use lib.IntN.{nat_abs}
use lib.ListN.{length, replicate, length-replicate}
use lib.Ieee.{Float}
use Rattle.vector.specs.declared.Point.{Point}
use Rattle.vector.specs.Grid.{polygon_area}
use Rattle.marks.specs.Part.{Part, mark_count}
use Rattle.limits.specs.declared.Limits.{Limits}
use Rattle.split.specs.Split.{Stack}
use Rattle.nodes.specs.Flat.{over}
use Rattle.quads.specs.declared.Cell.{Cell}
use Rattle.quads.specs.Quads.{no_cell}
use Rattle.quads.specs.Flat.{over_cells}
use Rattle.cells.specs.Pieces.{done, failed}
use Rattle.pieces.specs.Flat.{over_from}
use Rattle.table.specs.declared.Row.{Row}
use Rattle.table.specs.Answers.{divided_row, refused_row, failed_row}
use Rattle.call.specs.Call.{Lists, cell_reserve}
use Rattle.call.specs.Divide.{CallAnswer, put, refused, rims_left, answered}
use Rattle.call.specs.Lent.{all_cells}
use Rattle.divider.specs.Promise.{Leaves}
use Rattle.divider.specs.Steps.{lists_in}
use Rattle.divider.proofs.WrittenOut.{nodes_as_found, nodes-out, cells_as_found, cells_out}

-- lists that are the same
pub moved : {a : CallAnswer} {v : Row} {l m n : List Float} {s t q p r : List ℕ} → n ≡ m → t ≡ s → r ≡ p → Leaves a v l m s q p → Leaves a v l n t q r
moved e f g h = record { values = h.values; nodes = e ∙ h.nodes; rims = f ∙ h.rims; cells = g ∙ h.cells }

module _ (l : List Float) (u : ℕ) (rs q : List ℕ) (k : ℕ) where
  abbrev x : Lists
  x = lists_in l u rs q k

  pub refused-leaves : (n : ℕ) → Leaves (refused x n) (refused_row n u k) l l rs q q
  unfolding refused
  refused-leaves n = record { values = refl; nodes = sym (nodes_as_found l); rims = refl; cells = sym (cells_as_found q) }

  cells_left : (cs : List Cell) → k + length cs ≤ length q / 4 → over_from q k cs ≡ over_cells q (put (all_cells q) k cs)
  unfolding over_from
  cells_left cs b = sym (cells_out q k cs b)

  module _ (L : Limits) (r : ℕ) (p : Part) (s : Stack) (ns : List Point) (b : length ns ≤ length l / 2) where
    pub done-leaves : (cs : List Cell) → k + length cs ≤ length q / 4
        → Leaves (answered L r p x s (done ns cs)) (divided_row (length p.points) (mark_count p.edges) s.cuts (length s.pieces) s.turned
        (nat_abs (polygon_area p.points)) (length ns) (k + length cs)) l (over l ns) (rims_left L p x (length ns)) q (over_from q k cs)
    unfolding answered
    done-leaves cs d = record { values = refl; nodes = sym (nodes-out l ns b); rims = refl; cells = cells_left cs d }

    pub failed-leaves : (n i : ℕ) → k + cell_reserve L r ≤ length q / 4
        → Leaves (answered L r p x s (failed ns n i)) (failed_row n i (length ns) k) l (over l ns) (rims_left L p x (length ns)) q
        (over_from q k (replicate (cell_reserve L r) no_cell))
    unfolding answered
    failed-leaves n i d =
        record {
          values = refl;
          nodes = sym (nodes-out l ns b);
          rims = refl;
          cells = cells_left (replicate (cell_reserve L r) no_cell) (rw (length-replicate (cell_reserve L r) no_cell) d);
        }
