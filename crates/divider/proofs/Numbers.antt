-- The number of a refusal is not 0, so that a row with 0 is that of a ring that was divided.
use mathlib.Core.Path.{◌≡◌}
use lib.Dec.{T}
use Rattle.table.specs.declared.Refusal.{Refusal}
use Rattle.table.specs.declared.Refusal.TheVariants.{Counts, Units, Lists, Room, UnderThree, NotSimple, NoArea, Marks, Outline, Limits, Practice}
use Rattle.table.specs.Answers.{number_of}
use Rattle.table.specs.Refusals.{turns_away}
use Rattle.table.proofs.Refusals.{not_0}

away : (why : Refusal) → T (turns_away (number_of why))
away Counts = tt
away Units = tt
away Lists = tt
away Room = tt
away UnderThree = tt
away NotSimple = tt
away NoArea = tt
away Marks = tt
away Outline = tt
away Limits = tt
away Practice = tt

pub no_zero : (why : Refusal) → number_of why ≡ 0 → ⊥
no_zero why = not_0 (number_of why) (away why)
