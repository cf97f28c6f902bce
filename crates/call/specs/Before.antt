-- 02, Card 7: "The set on delivery gives every old answer." The calls as they were before a set could be handed over: 32 cuts and the limits of 01
-- throughout, and the refusals tested one after the other, with no test of a set.
use Rattle.std.specs.Prelude.{◌-◌, ◌||◌, List, [], ◌∷◌, length}
use Rattle.limits.specs.Limits.{delivered}
use Rattle.quads.specs.declared.Cell.{Cell}
use Rattle.table.specs.Refusals.{Refusal, ◌when◌}
use Rattle.call.specs.Call.{Call, lists_of, counts_out, units_out, lists_out, room_out_of}
use Rattle.call.specs.Divide.{CallAnswer, refused_or, core, start_of}
use Rattle.call.specs.Lent.{LentOf, call_by, odd}
use Rattle.call.specs.Marked.{all_points, marks_out, outline_out, LentMarked, marked_lists, marked_start}

-- by a chain: 1, 2, 3, 4
abbrev pub old_tests : Call → List Refusal
old_tests c =
    1 when counts_out (length c.ring) (length c.chain)
    ∷ 2 when units_out c.ring c.chain c.size
    ∷ 3 when lists_out (lists_of c)
    ∷ 4 when room_out_of delivered (length c.ring) (length c.nodes - c.node_count_of) (length c.cells - c.cell_count_of)
    ∷ []

-- over lent lists, `read` giving the cells
abbrev pub divide_before : {A : Type 0} → (List A → List Cell) → LentOf A → CallAnswer
divide_before read l =
    let c = call_by read l in
    refused_or (lists_of c) (1 when (odd l.ring || odd l.chain) ∷ old_tests c) (core delivered (length c.ring) (start_of c) (lists_of c))

-- with given marks: 1, 2, 13, 14, 3, 4
abbrev pub old_marked_tests : LentMarked → List Refusal
old_marked_tests l =
    let n = length (all_points l.ring) in
    let x = marked_lists l in
    1 when (odd l.ring || counts_out n 0)
    ∷ 2 when units_out (all_points l.ring) [] l.size
    ∷ 13 when marks_out l.marking.kinds l.marking.snaps n
    ∷ 14 when outline_out l.marking.kinds l.marking.outline l.marking.loops
    ∷ 3 when lists_out x
    ∷ 4 when room_out_of delivered n (length x.nodes - x.node_count_of) (length x.cells - x.cell_count_of)
    ∷ []

abbrev pub divide_marked_before : LentMarked → CallAnswer
divide_marked_before l = refused_or (marked_lists l) (old_marked_tests l) (core delivered (length (all_points l.ring)) (marked_start l) (marked_lists l))
