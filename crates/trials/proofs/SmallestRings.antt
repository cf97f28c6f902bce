-- Card 13 worked out: 01's crossed ring (`crossed_6`) and its thin one (`thin_8`) are the smallest of their kind, three points of a clockwise square are
-- enough for 7 (`clockwise_7`); and a ring for each of 1, 2, 18 and 19.
use mathlib.Core.Path.{◌≡◌, refl}
use mathlib.Core.List.{List, [], ◌∷◌}
use lib.ListN.{replicate}
use lib.Count.{ones, ones_in}
use lib.IntN.{ℤ, pos, negsuc}
use Rattle.call.specs.Lent.{divide_lent}
use Rattle.lone_ring.specs.Number.{number_of}
use Rattle.choice.specs.Choice.{chosen}
use Rattle.choice.specs.Search.{first_of_count, least_of}
use Rattle.smallest.specs.Smallest.{refused, smallest_of, smallest_refused}
use Rattle.trials.proofs.Compute.{computing}

unfoldable searching : Unit {0}
unfolding computing divide_lent ones_in ones chosen number_of first_of_count least_of smallest_of smallest_refused
searching = tt

abbrev crossed : List ℤ
crossed = pos 0 ∷ pos 0 ∷ pos 16384 ∷ pos 16384 ∷ pos 16384 ∷ pos 0 ∷ pos 0 ∷ pos 16384 ∷ []

pub crossed_6 : smallest_refused crossed [] 2 ≡ record { code = 0; refusal = 6; choice = 15; points = 4 }
unfolding searching
crossed_6 = refl

abbrev clockwise : List ℤ
clockwise = pos 0 ∷ pos 0 ∷ pos 0 ∷ pos 8192 ∷ pos 8192 ∷ pos 8192 ∷ pos 8192 ∷ pos 0 ∷ []

pub clockwise_7 : smallest_refused clockwise [] 1 ≡ record { code = 0; refusal = 7; choice = 7; points = 3 }
unfolding searching
clockwise_7 = refl

abbrev thin : List ℤ
thin = negsuc 81919 ∷ pos 0 ∷ pos 0 ∷ pos 811008 ∷ pos 81920 ∷ pos 0 ∷ pos 0 ∷ pos 819200 ∷ []

pub thin_8 : smallest_refused thin [] 1 ≡ record { code = 0; refusal = 8; choice = 15; points = 4 }
unfolding searching
thin_8 = refl

pub two-points_1 : smallest_refused (pos 0 ∷ pos 0 ∷ pos 0 ∷ pos 1 ∷ []) [] 1 ≡ refused 1
unfolding searching
two-points_1 = refl

pub no_sheet_2 : smallest_refused clockwise [] 0 ≡ refused 2
unfolding searching
no_sheet_2 = refl

pub thirteen_18 : smallest_refused (replicate 26 (pos 0)) [] 1 ≡ refused 18
unfolding searching
thirteen_18 = refl

pub square_19 : smallest_refused (pos 0 ∷ pos 0 ∷ pos 8192 ∷ pos 0 ∷ pos 8192 ∷ pos 8192 ∷ pos 0 ∷ pos 8192 ∷ []) [] 1 ≡ refused 19
unfolding searching
square_19 = refl
