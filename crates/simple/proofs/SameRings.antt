-- THEOREM `crossing_alone`. The answer is Crossing exactly where the doubles cross, as before; so, for every ring, `same-rings`: its own
-- check accepts it exactly if no two of its edges meet with that answer. Touching edges are accepted, and the same rings are refused with 6.
use Prim.Native.Nat.{ℕ, suc, ◌%◌}
use mathlib.Core.Path.{◌≡◌, refl, sym}
use mathlib.Core.Bool.{Bool, true, false, ◌&&◌, not, cond}
use mathlib.Core.List.{List}
use lib.ListN.{length}
use lib.Dec.{leb, ltb, eqb}
use Rattle.laws.specs.Bounded.{any}
use Rattle.vector.specs.declared.GridPoint.{GridPoint}
use Rattle.vector.specs.Grid as Grid
use Rattle.segments.specs.declared.Crossing.TheVariants as meets
use Rattle.segments.specs.Segments.{segments_cross}
use Rattle.segments.specs.Meeting.{touching, segments_meet}
use Rattle.simple.specs.Simple.{edges_cross, polygon_simple}
use Rattle.simple.specs.CrossingsAlone.{is_crossing, meet_crossing, none_meet_crossing}

pub crossing_alone : (a b c d : GridPoint) → is_crossing (segments_meet a b c d) ≡ segments_cross a b c d
unfolding segments_meet
crossing_alone a b c d = go (segments_cross a b c d) (touching a b c d)
  where
    go : (x y : Bool) → is_crossing (cond x meets.Crossing (cond y meets.Touching meets.Apart)) ≡ x
    go true y = refl
    go false true = refl
    go false false = refl

-- ---- the ring's own check
pub same-rings : (r : List GridPoint) → polygon_simple r ≡ none_meet_crossing r
unfolding polygon_simple edges_cross none_meet_crossing meet_crossing
same-rings r = λ k. leb 3 n && not (any (λ i. any (λ j. ltb (suc i) j && not (eqb (suc j % n) i) && same i j k) n) n)
  where
    n : ℕ
    n = length r

    same : (i j : ℕ)
        → segments_cross (Grid.at r i) (Grid.at r (suc i)) (Grid.at r j) (Grid.at r (suc j)) ≡ is_crossing
        (segments_meet (Grid.at r i) (Grid.at r (suc i)) (Grid.at r j) (Grid.at r (suc j)))
    same i j = sym (crossing_alone (Grid.at r i) (Grid.at r (suc i)) (Grid.at r j) (Grid.at r (suc j)))
