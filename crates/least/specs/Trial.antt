-- 02, Card 13: the number that a choice gets, its ring run on an empty node list; and the smallest choice that gets a number.
use Rattle.std.specs.Prelude.{ℕ, ◌-◌, ◌^◌, List, ℤ}
use Rattle.lone_ring.specs.Number.{number_of}
use Rattle.choice.specs.Choice.{chosen}
use Rattle.choice.specs.Search.{least_of}

-- the number of a choice among the first r points
abbrev pub trial_of : List ℤ → List ℤ → ℕ → ℕ → ℕ → ℕ
trial_of ring chain size r c = number_of (chosen ring c r) chain size

-- the smallest choice of 3 points or more that gets the number w; 2 ^ r if none does
abbrev pub choice_of : List ℤ → List ℤ → ℕ → ℕ → ℕ → ℕ
choice_of ring chain size r w = least_of (trial_of ring chain size r) w (2 ^ r) (r - 2) 3
