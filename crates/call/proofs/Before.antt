-- THEOREM `as_before`, `as_before-records`, `as_before-marked`, Card 7: "The set on delivery gives every old answer." Over whatever a caller lends, the call
-- with the set on delivery, which tests the set too, returns and leaves all that the call did before there were sets (specs/Before): its number is the first
-- of the old tests that holds (`first_as_before`).
use Prim.Native.Nat.{ℕ, ◌-◌}
use mathlib.Core.Path.{◌≡◌, ap}
use mathlib.Core.Bool.{Bool, ◌||◌, cond}
use mathlib.Core.List.{List, []}
use lib.ListN.{length}
use lib.Dec.{eqb}
use Rattle.limits.specs.Limits.{delivered}
use Rattle.quads.specs.declared.Cell.{Cell}
use Rattle.table.specs.Refusals.{first_of}
use Rattle.limits.proofs.Taken.{delivered-taken}
use Rattle.call.specs.Call.{Call, lists_of, counts_out, units_out, lists_out, room_out_of, tests}
use Rattle.call.specs.Divide.{refused, core, start_of}
use Rattle.call.specs.Lent.{LentOf, call_by, odd, all_cells, Lent, divide_by, divide_lent, LentRecords, divide_records}
use Rattle.call.specs.Marked.{all_points, marks_out, outline_out, LentMarked, marked_lists, marked_start, marked_tests, divide_marked}
use Rattle.call.specs.Before.{old_tests, divide_before, old_marked_tests, divide_marked_before}

pub first_as_before : (c : Call) → first_of (tests delivered c) ≡ first_of (old_tests c)
first_as_before c =
    let room = room_out_of delivered (length c.ring) (length c.nodes - c.node_count_of) (length c.cells - c.cell_count_of) in
    ap
    (λ (b : Bool). cond (counts_out (length c.ring) (length c.chain)) 1
    (cond (units_out c.ring c.chain c.size) 2 (cond b 15 (cond (lists_out (lists_of c)) 3 (cond room 4 0)))))
    delivered-taken

by_before : {A : Type 0} (read : List A → List Cell) (l : LentOf A) → divide_by read delivered l ≡ divide_before read l
by_before read l =
    let c = call_by read l in
    let x = lists_of c in
    let a = core delivered (length c.ring) (start_of c) x in
    let o = odd l.ring || odd l.chain in
    ap (λ (n : ℕ). cond (eqb (cond o 1 n) 0) a (refused x (cond o 1 n))) (first_as_before c)

pub as_before : (l : Lent) → divide_lent delivered l ≡ divide_before all_cells l
unfolding divide_lent
as_before l = by_before all_cells l

pub as_before-records : (l : LentRecords) → divide_records delivered l ≡ divide_before (λ cs. cs) l
unfolding divide_records
as_before-records l = by_before (λ cs. cs) l

-- ---- with given marks
first-marked : (l : LentMarked) → first_of (marked_tests delivered l) ≡ first_of (old_marked_tests l)
first-marked l =
    let n = length (all_points l.ring) in
    let x = marked_lists l in
    let counts = odd l.ring || counts_out n 0 in
    let marks = marks_out l.marking.kinds l.marking.snaps n in
    let outline = outline_out l.marking.kinds l.marking.outline l.marking.loops in
    let room = room_out_of delivered n (length x.nodes - x.node_count_of) (length x.cells - x.cell_count_of) in
    ap
    (λ (b : Bool).
    cond counts 1 (cond (units_out (all_points l.ring) [] l.size) 2 (cond marks 13 (cond outline 14 (cond b 15 (cond (lists_out x) 3 (cond room 4 0)))))))
    delivered-taken

pub as_before-marked : (l : LentMarked) → divide_marked delivered l ≡ divide_marked_before l
unfolding divide_marked
as_before-marked l =
    let x = marked_lists l in
    let a = core delivered (length (all_points l.ring)) (marked_start l) x in
    ap (λ (n : ℕ). cond (eqb n 0) a (refused x n)) (first-marked l)
