-- The starred trials of 01, as one theorem over one table (`trials`): every row of specs/Trials.starred holds, the square's six printed lines among them. The
-- test of a row is computed over the whole table at once (`computed`); proofs/Rows turns it into what each row states. The same of calls over lists in use
-- (`trials_in_use`) and of rim marks (`rim_trials`).
use lib.Dec.{T}
use Rattle.laws.specs.All.{All}
use Rattle.trials.specs.Trials.{Holds, starred, in_use_of, rimmed, again, square_blocks, two_of_one_key, thin_in_use, middle_listed, square, dart, thin}
use Rattle.trials.specs.Trials.{snapped, bow, equal, clockwise, two, wide}
use Rattle.trials.proofs.Rows.{tests, all_right, testing}

computed : T (tests starred)
unfolding testing square_blocks square dart thin snapped bow equal clockwise two wide
computed = tt

pub trials : All Holds starred
trials = all_right starred computed

computed_in_use : T (tests in_use_of)
unfolding testing two_of_one_key thin_in_use thin middle_listed dart
computed_in_use = tt

pub trials_in_use : All Holds in_use_of
trials_in_use = all_right in_use_of computed_in_use

computed_rims : T (tests rimmed)
unfolding testing again middle_listed thin dart
computed_rims = tt

pub rim_trials : All Holds rimmed
rim_trials = all_right rimmed computed_rims
