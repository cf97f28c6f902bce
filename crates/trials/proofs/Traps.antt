-- One theorem over the table of trap rings (`trap_rings`): every row of specs/Traps.traps holds, each a whole answer with every value, every node's bits and
-- every cell.
use lib.Dec.{T}
use Rattle.laws.specs.All.{All}
use Rattle.trials.specs.Trials.{Holds}
use Rattle.trials.specs.Traps.{traps, equal_worst, trapezoid, far_snap, turned_marks, collinear, pop_order, retried, retry_fails, turned_part}
use Rattle.trials.specs.Traps.{in_doubles_of, in_doubles_again, in_doubles_wide, in_doubles_over, third_corner, third_corner_accepts}
use Rattle.trials.proofs.Rows.{tests, all_right, testing}

computed : T (tests traps)
unfolding testing equal_worst trapezoid far_snap turned_marks collinear pop_order retried retry_fails turned_part in_doubles_of in_doubles_again in_doubles_wide
    in_doubles_over third_corner third_corner_accepts
computed = tt

pub trap_rings : All Holds traps
trap_rings = all_right traps computed
