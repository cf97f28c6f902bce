-- 02, Card 11: the ring's own check by how its edges meet, two by two.
use Rattle.std.specs.Prelude.{ℕ, suc, ◌%◌, Bool, true, false, ◌&&◌, not, List, length, leb, ltb, eqb}
use Rattle.laws.specs.Bounded.{any}
use Rattle.vector.specs.declared.GridPoint.{GridPoint}
use Rattle.vector.specs.Grid.{at}
use Rattle.segments.specs.declared.Crossing.{Crossing}
use Rattle.segments.specs.declared.Crossing.TheVariants as meets
use Rattle.segments.specs.Meeting.{segments_meet}

-- "The ring's own check still rejects crossings alone": whether an answer is one
abbrev pub is_crossing : Crossing → Bool
is_crossing meets.Apart = false
is_crossing meets.Touching = false
is_crossing meets.Crossing = true

-- edge i and edge j, which comes after it and shares no end with it, meet with the answer Crossing; and no two edges of a ring do
unfoldable pub meet_crossing : List GridPoint → ℕ → ℕ → Bool
meet_crossing r i j =
    ltb (suc i) j && not (eqb (suc j % length r) i) && is_crossing (segments_meet (at r i) (at r (suc i)) (at r j) (at r (suc j)))

unfoldable pub none_meet_crossing : List GridPoint → Bool
none_meet_crossing r = leb 3 (length r) && not (any (λ i. any (meet_crossing r i) (length r)) (length r))
