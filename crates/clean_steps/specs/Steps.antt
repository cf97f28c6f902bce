-- 01, Cleaning: the steps of a pass.
use Rattle.std.specs.Prelude.{ℕ, zero, suc, ◌-◌, Bool, ◌||◌, not, cond, List, [], ◌∷◌, ◌++◌, length, get_or, eqb, Float}
use Rattle.vector.specs.declared.GridPoint.{GridPoint}
use Rattle.vector.specs.Grid.{origin, at, prev}
use Rattle.nearness.specs.Nearness.{near, is_flat}

-- "drop a point within tolerance of the last kept one": what is kept of the first i points
unfoldable pub spaced : Float → List GridPoint → ℕ → List GridPoint
spaced tol r zero = []
spaced tol r (suc i) =
    let u = spaced tol r i in
    let p = get_or r i origin in
    cond (eqb (length u) 0 || not (near tol (get_or u (length u - 1) origin) p)) (u ++ (p ∷ [])) u

-- "drop final points within tolerance of the first": how many of the first n points stay
unfoldable pub opened : Float → List GridPoint → ℕ → ℕ
opened tol u zero = 0
opened tol u (suc zero) = 1
opened tol u (suc (suc n)) =
    let r = opened tol u (suc n) in
    cond (near tol (get_or u 0 origin) (get_or u (suc n) origin)) r (suc (suc n))

-- point i is flat between its neighbours
unfoldable pub flat : Float → List GridPoint → ℕ → Bool
flat tol r i = is_flat tol (prev r i) (at r i) (at r (suc i))

-- "mark all points .. and drop them together": what is left of the first i points
unfoldable pub bent : Float → List GridPoint → ℕ → List GridPoint
bent tol r zero = []
bent tol r (suc i) =
    let u = bent tol r i in
    cond (flat tol r i) u (u ++ (get_or r i origin ∷ []))
