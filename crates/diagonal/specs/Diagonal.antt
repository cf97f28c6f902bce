-- 01, Split: the diagonals of a part whose points are counted from its worst corner: from the corner 0 to the corner k.
use Rattle.std.specs.Prelude.{ℕ, zero, suc, Bool, ◌&&◌, not, cond, List, Float}
use Rattle.std.proofs.Math.Option.{Option, none, some}
use Rattle.laws.specs.Double.{◌<f◌}
use Rattle.vector.specs.declared.GridPoint.{GridPoint}
use Rattle.vector.specs.Grid.{sub, same, at, prev}
use Rattle.cosine.specs.Cosine.{cosine}
use Rattle.limits.specs.declared.Limits.{Limits}
use Rattle.judge.specs.Judge.{in_range, larger}
use Rattle.obstacles.specs.Obstacles.{unobstructed}

-- "its cosines to next and to prev"
unfoldable pub cosine_next : List GridPoint → ℕ → Float
cosine_next r k = cosine (sub (at r 1) (at r 0)) (sub (at r k) (at r 0))

unfoldable pub cosine_prev : List GridPoint → ℕ → Float
cosine_prev r k = cosine (sub (prev r 0) (at r 0)) (sub (at r k) (at r 0))

-- "One meets the rule if its ends differ, its midpoint passes point_in_polygon, it crosses no edge that touches neither end, and its cosines ..
-- are both" in range; by Card 11 it is "refused also when" it runs over a third corner. What is said of the midpoint, the edges and the corners
-- is `unobstructed`
unfoldable pub meets_rule : Limits → List GridPoint → ℕ → Bool
meets_rule L r k =
    not (same (at r 0) (at r k))
    && unobstructed r k
    && in_range L (cosine_next r k)
    && in_range L (cosine_prev r k)

-- "the smallest larger cosine wins"
unfoldable pub score : List GridPoint → ℕ → Float
score r k = larger (cosine_next r k) (cosine_prev r k)

-- "first on ties": k, unless a j before it has a score as small
unfoldable pub better : List GridPoint → ℕ → Option ℕ → Option ℕ
better r k none = some k
better r k (some j) = cond (score r k <f score r j) (some k) (some j)

-- the best of the offsets 2 .. i + 1
unfoldable pub best_to : Limits → List GridPoint → ℕ → Option ℕ
best_to L r zero = none
best_to L r (suc i) =
    let b = best_to L r i in
    cond (meets_rule L r (suc (suc i))) (better r (suc (suc i)) b) b
