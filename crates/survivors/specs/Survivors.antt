-- Which marks of a ring's edges survive cleaning. Mark i belongs to the edge from point i to the next point round the ring, and
-- survives if both those points stay.
use Rattle.std.specs.Prelude.{ℕ, suc, ◌%◌, Bool, false, ◌||◌, ◌&&◌, cond, List, [], ◌∷◌, map, get_or, eqb}

unfoldable pub is_in : ℕ → List ℕ → Bool
is_in i [] = false
is_in i (k ∷ ks) = eqb i k || is_in i ks

-- in a ring of n points of which those at ks stay
unfoldable pub survives : ℕ → List ℕ → ℕ → Bool
survives n ks i = is_in i ks && is_in (suc i % n) ks

-- the marks of the cleaned ring, edge by edge: an edge that joins two kept points over dropped ones is straight
unfoldable pub surviving : {A : Type 0} → A → ℕ → List ℕ → List A → List A
surviving straight n ks ms = map (λ (k : ℕ). cond (survives n ks k) (get_or ms k straight) straight) ks
