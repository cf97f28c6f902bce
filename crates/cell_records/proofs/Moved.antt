-- A call that has the same ring, chain, size, nodes and rim marks over another cell list, none of whose places is used: it answers the same row but for the
-- count of cells, leaves the same nodes and rim marks, and has the same new cells (`moved`), which are in its numbers.
use Prim.Native.Nat.{ℕ, ◌+◌, ◌≤◌, ◌<◌}
use native.Mathlib.Nat.{add-zero, zero-add}
use native.Mathlib.Omega.{arith}
use mathlib.Core.Path.{◌≡◌, refl, sym, ap, ◌∙◌}
use mathlib.Core.List.{List, [], ◌++◌, append-nil}
use lib.IntN.{nat_abs}
use lib.Dec.{T}
use lib.ListN.{length, take, drop, replicate, length-replicate, take-append-drop}
use borrow.Author.Tests.{ne_eqb}
use Rattle.vector.specs.Grid.{polygon_area}
use Rattle.marks.specs.Part.{Part, mark_count}
use Rattle.limits.specs.declared.Limits.{Limits}
use Rattle.split.specs.Split.{Stack, split_bad_vertices}
use Rattle.quads.specs.declared.Cell.{Cell}
use Rattle.quads.specs.Quads.{no_cell}
use Rattle.cells.specs.Pieces.{Outcome, done, failed}
use Rattle.cells.specs.Claims.{CellsOf, corners_to}
use Rattle.cells.proofs.NewCells.{pieces-cells}
use Rattle.table.specs.Answers.{divided_row, refused_row, failed_row, with_cells}
use Rattle.table.specs.Refusals.{Refusal, first_of, Passes, turns_away, numbered}
use Rattle.table.proofs.Refusals.{not_8}
use Rattle.call.specs.Call.{Lists, used_in, cell_reserve}
use Rattle.call.specs.Divide.{CallAnswer, put, refused, refused_or, ring_tests, answered, core}
use Rattle.call.specs.Demand.{Prepared, pieces_of}
use Rattle.call.proofs.Course.{Divisible, whole, outcome_of, by_tests-both}
use Rattle.call.proofs.Demand.{corners_fit}
use Rattle.cell_records.specs.Records.{new_cells}

put-none : (l : List Cell) (i : ℕ) → l ≡ put l i []
put-none l i = sym ((λ j. append-nil (take i l) j ++ drop (add-zero i j) l) ∙ take-append-drop i l)

module _ (L : Limits) (r : ℕ) (p : Part) (x : Lists) (xs : List Cell) where
  -- the lists with the other cells
  abbrev pub other : Lists
  other = record { nodes = x.nodes; node_count_of = x.node_count_of; rims = x.rims; cells = xs; cell_count_of = 0 }

  abbrev reserve : ℕ
  reserve = cell_reserve L r

  -- a over the lists x, b over the others
  pub record Moved (a b : CallAnswer) : Type 0 where
    pub new : List Cell
    pub few : length new ≤ 124
    pub within : 0 < length new → x.cell_count_of + length new ≤ length x.cells
    pub count : new_cells b.row reserve ≡ length new
    pub most : b.row.cells ≤ length new
    pub values : a.row ≡ with_cells b.row (x.cell_count_of + b.row.cells)
    pub nodes : a.nodes ≡ b.nodes
    pub rims : a.rims ≡ b.rims
    pub cells : put x.cells x.cell_count_of new ≡ a.cells
    pub theirs : b.cells ≡ put xs 0 new

  refused_moved : (n : ℕ) → T (turns_away n) → Moved (refused x n) (refused other n)
  unfolding refused
  refused_moved n t =
      record {
        new = [];
        few = omega arith;
        within = λ h. absurd (omega arith);
        count = rw (ne_eqb n 8 (not_8 n t));
        most = omega arith;
        values = ap (refused_row n x.node_count_of) (sym (add-zero x.cell_count_of));
        nodes = refl;
        rims = refl;
        cells = sym (put-none x.cells x.cell_count_of);
        theirs = put-none xs 0;
      }

  module _ (few : L.cuts ≤ 32) (s : Divisible L r p x) where
    small : reserve ≤ 124
    small = omega (arith, few, s.prepared.few)

    room : x.cell_count_of + reserve ≤ length x.cells
    room = omega (arith, s.prepared.ready.cells_free, s.prepared.ready.stored)

    abbrev stack : Stack
    stack = split_bad_vertices L p

    answered_moved : (m : ℕ) → m ≤ reserve → (o : Outcome) → CellsOf m o → Moved (answered L r p x stack o) (answered L r p other stack o)
    unfolding answered
    answered_moved m b (done ns cs) h =
        record {
          new = cs;
          few = omega (arith, h.0, small);
          within = λ k. omega (arith, h.0, room);
          count = zero-add (length cs);
          most = omega (arith, zero-add (length cs));
          values =
              ap
              (λ (n : ℕ).
              divided_row (length p.points) (mark_count p.edges) stack.cuts (length stack.pieces) stack.turned (nat_abs (polygon_area p.points))
              (length ns) (x.cell_count_of + n))
              (sym (zero-add (length cs)));
          nodes = refl;
          rims = refl;
          cells = refl;
          theirs = refl;
        }
    answered_moved m b (failed ns n i) h =
        record {
          new = replicate reserve no_cell;
          few = omega (arith, length-replicate reserve no_cell, small);
          within = λ k. omega (arith, length-replicate reserve no_cell, room);
          count = sym (length-replicate reserve no_cell);
          most = omega arith;
          values = ap (failed_row n i (length ns)) (sym (add-zero x.cell_count_of));
          nodes = refl;
          rims = refl;
          cells = refl;
          theirs = refl;
        }

  -- of any entry: its tests, and the core for the ring that it prepares where none of them holds
  pub moved : L.cuts ≤ 32 → (rs : List Refusal) → T (numbered rs) → (Passes rs → Prepared L r p x)
      → Moved (refused_or x rs (core L r p x)) (refused_or other rs (core L r p other))
  unfolding core
  moved few rs n h =
      by_tests-both x other rs (core L r p x) (core L r p other) Moved n (refused_moved (first_of rs))
      (λ o. by_tests-both x other (ring_tests p.points) (answered L r p x (split_bad_vertices L p) (outcome_of L p x))
      (answered L r p other (split_bad_vertices L p) (outcome_of L p x)) Moved tt (refused_moved (first_of (ring_tests p.points)))
      (λ w.
      let s : Divisible L r p x = record { prepared = h o; whole = whole p.points w } in
      answered_moved few s (corners_to (pieces_of L p) (length (pieces_of L p))) (corners_fit L r p x s) (outcome_of L p x)
      (pieces-cells L.share (pieces_of L p) (used_in x) (length (pieces_of L p)))))
