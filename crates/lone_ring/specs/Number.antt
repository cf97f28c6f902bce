-- 02, Card 13: the number that a ring gets "on an empty node list".
use Rattle.std.specs.Prelude.{ℕ, ◌/◌, ◌<◌, ◌⊎◌, List, length, replicate, ℤ}
use Rattle.laws.specs.Double.{naught}
use Rattle.limits.specs.Limits.{delivered}
use Rattle.lone_ring.specs.declared.Fault.{Fault}
use Rattle.lone_ring.specs.declared.Fault.TheVariants.{UnderThree, NotSimple, NoArea, Cell}
use Rattle.call.specs.Lent.{Lent, divide_lent, lent}

abbrev pub points : List ℤ → ℕ
points l = length l / 2

-- "The trial lists are empty and have the full reserve" of 12 points: 55 node places, a rim mark beside each, and 30 cells
abbrev pub trial_lent : List ℤ → List ℤ → ℕ → Lent
trial_lent ring chain size = lent ring chain size (replicate 110 naught) 0 (replicate 55 0) (replicate 120 0) 0

-- the number that the examination entry gives there, 0 of a ring that is divided
unfoldable pub number_of : List ℤ → List ℤ → ℕ → ℕ
number_of ring chain size = (divide_lent delivered (trial_lent ring chain size)).row.code

-- "refuses on an empty node list with 5, 6, 7 or 8": the four numbers, and one that is "none of these four"
abbrev pub number_of_fault : Fault → ℕ
number_of_fault UnderThree = 5
number_of_fault NotSimple = 6
number_of_fault NoArea = 7
number_of_fault Cell = 8

abbrev pub is_other : ℕ → Type 0
is_other n = (n < 5) ⊎ (8 < n)
