-- Which points of a ring stay in cleaning, by their places. Each definition of places follows the one of specs/Clean that it has
-- its name from: the points at these places are what that one leaves (proofs/Places). Those of the steps are in clean_steps.
use Rattle.std.specs.Prelude.{ℕ, zero, suc, ◌||◌, ◌&&◌, cond, List, length, take, leb, ltb, eqb, Float}
use Rattle.vector.specs.declared.GridPoint.{GridPoint}
use Rattle.nearness.specs.Nearness.{tolerance}
use Rattle.clean_steps.specs.Steps.{opened}
pub use Rattle.clean_steps.specs.Places.{pick, among, places, Rising}
unfoldable pub use Rattle.clean_steps.specs.Places.{spaced_places, bent_places}

-- "above 3 points .. if 3 or more remain"
unfoldable pub straightened_places : Float → List GridPoint → List ℕ
straightened_places tol r =
    let ks = bent_places tol r (length r) in
    cond (ltb 3 (length r) && leb 3 (length ks)) ks (places (length r))

-- "Each pass"
unfoldable pub pass_places : Float → List GridPoint → List ℕ
pass_places tol r =
    let ks = spaced_places tol r (length r) in
    let front = take (opened tol (pick r ks) (length ks)) ks in
    among front (straightened_places tol (pick r front))

-- "Repeat until a pass drops none", from 3 points on; d bounds the passes
unfoldable pub passes_places : ℕ → Float → List GridPoint → List ℕ
passes_places zero tol r = places (length r)
passes_places (suc d) tol r =
    let ks = pass_places tol r in
    let more = passes_places d tol (pick r ks) in
    cond (ltb (length r) 3 || eqb (length ks) (length r)) (places (length r)) (among ks more)

-- the places that stay in clean_polygon
unfoldable pub kept_places : ℕ → List GridPoint → List ℕ
kept_places size r = passes_places (suc (length r)) (tolerance size) r
