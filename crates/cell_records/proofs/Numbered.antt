-- The call with its cells as numbers of its own, none of them used before: what it comes to is what the call over the list of records does.
use Prim.Native.Nat.{ℕ, ◌+◌, ◌/◌, ◌^◌, ◌≤◌, ◌<◌}
use native.Mathlib.Omega.{arith}
use native.Mathlib.Decide.{dec_lt}
use mathlib.Core.Path.{◌≡◌, sym, ap, ◌∙◌, subst}
use mathlib.Core.List.{List}
use lib.ListN.{length}
use lib.Ieee.{Float}
use Rattle.laws.proofs.Table.{length_tab}
use Rattle.limits.specs.declared.Limits.{Limits}
use Rattle.nodes.specs.Flat.{over}
use Rattle.quads.specs.Flat.{over_cells}
use Rattle.table.specs.declared.Row.{Row}
use Rattle.table.specs.Answers.{with_cells}
use Rattle.table.specs.Refusals.{first_of}
use Rattle.table.proofs.Refusals.{not_8}
use Rattle.call.specs.Call.{Lists, Call, lists_of, cell_reserve}
use Rattle.call.specs.Divide.{put, core, start_of}
use Rattle.call.specs.Lent.{point_in, cells_in, all_cells, LentRecords, call_of_records, tests_by, divide_by, divide_records}
use Rattle.call.proofs.Course.{by_tests, refused-code, prepared_if}
use Rattle.call.proofs.Tests.{passed}
use Rattle.divider.specs.Promise.{Leaves}
use Rattle.divider.specs.Steps.{lists_in, divide_into}
use Rattle.divider.proofs.WrittenOut.{cells_out}
use Rattle.cell_records.specs.declared.Laid.{Laid}
use Rattle.cell_records.specs.Records.{Numbers, new_cells, laid_of}
use Rattle.cell_records.proofs.Recorded.{cells-read}
use Rattle.cell_records.proofs.Moved.{Moved, moved}

module _ (L : Limits) (few : L.cuts ≤ 32) (q : List ℕ) (long : length q ≡ 496) where
  module _ (l : LentRecords) where
    abbrev c : Call
    c = call_of_records l

    abbrev x : Lists
    x = lists_of c

    abbrev y : Lists
    y = lists_in l.nodes l.node_count_of l.rims q 0

    abbrev reserve : ℕ
    reserve = cell_reserve L (length c.ring)

    both : Moved L (length c.ring) (start_of c) x (all_cells q) (divide_by (λ cs. cs) L l) (divide_into L l q 0)
    both = moved L (length c.ring) (start_of c) x (all_cells q) few (tests_by (λ cs. cs) L l) tt (λ h. prepared_if L c h.1)

    own : length c.ring ≡ length l.ring / 2
    own = length_tab (point_in l.ring) (length l.ring / 2)

    -- only a ring that passed its tests can fail
    counts : (divide_into L l q 0).row.code ≡ 8 → (3 ≤ length c.ring) × (length c.ring ≤ 60)
    counts =
        by_tests y (tests_by (λ cs. cs) L l) (core L (length c.ring) (start_of c) y)
        (λ a. a.row.code ≡ 8 → (3 ≤ length c.ring) × (length c.ring ≤ 60)) tt
        (λ t e. absurd (not_8 (first_of (tests_by (λ cs. cs) L l)) t (sym (refused-code y (first_of (tests_by (λ cs. cs) L l))) ∙ e)))
        (λ h e. let p = passed L c h.1 in (p.from, p.to))

    module _ (v : Row) (m : List Float) (t x' : List ℕ) (left : Leaves (divide_into L l q 0) v l.nodes m t q x') where
      pub counts_in : v.code ≡ 8 → (3 ≤ length l.ring / 2) × (length l.ring / 2 ≤ 60)
      counts_in e = let h = counts (sym (ap (λ (v : Row). v.code) left.values) ∙ e) in (omega (arith, h.0, own), omega (arith, h.1, own))

      most : v.cells ≤ length both.new
      most = omega (arith, ap (λ (v : Row). v.cells) left.values, both.most)

      pub sum_fits : length l.cells < 2 ^ 64 → l.cell_count_of < 2 ^ 64 → l.cell_count_of + v.cells < 2 ^ 64
      sum_fits p k = go (dec_lt 0 (length both.new))
        where
          go : Dec (0 < length both.new) → l.cell_count_of + v.cells < 2 ^ 64
          go (yes h) = omega (arith, p, both.within h, most)
          go (no h) = omega (arith, k, most)

      module _ (r : Laid) (f : r ≡ laid_of v x' l.cell_count_of (cell_reserve L (length l.ring / 2))) where
        laid : r ≡ laid_of v x' l.cell_count_of reserve
        laid = f ∙ ap (λ (n : ℕ). laid_of v x' l.cell_count_of (cell_reserve L n)) (sym own)

        count_is : new_cells v reserve ≡ length both.new
        count_is = ap (λ (v : Row). new_cells v reserve) left.values ∙ both.count

        new-read : cells_in x' (new_cells v reserve) ≡ both.new
        new-read =
            let e : x' ≡ over_cells q both.new = left.cells ∙ ap (over_cells q) both.theirs ∙ cells_out q 0 both.new (omega (arith, both.few, long)) in
            (λ j. cells_in (e j) (count_is j)) ∙ cells-read q both.new

        -- the set of limits, by another name
        pub laid-numbers : (M : Limits) → L ≡ M → Numbers M l r m t
        unfolding divide_records
        laid-numbers M d =
            subst (λ (M : Limits). Numbers M l r m t) d
            (subst (λ (r : Laid). Numbers L l r m t) (sym laid)
            (record {
              values = ap (λ (v : Row). with_cells v (l.cell_count_of + v.cells)) left.values ∙ sym both.values;
              nodes = left.nodes ∙ ap (over l.nodes) (sym both.nodes);
              rims = left.rims ∙ sym both.rims;
              cells = ap (put l.cells l.cell_count_of) new-read ∙ both.cells;
            }))

        pub laid-fits : (r.count ≤ 124) × (0 < r.count → r.at + r.count ≤ length l.cells)
        laid-fits =
            let n = ap (λ (r : Laid). r.count) laid ∙ count_is in
            let k = ap (λ (r : Laid). r.at) laid in
            (omega (arith, n, both.few), λ h. omega (arith, n, k, both.within (omega (arith, h, n))))
