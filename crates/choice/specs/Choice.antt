-- 02, Card 13: "a choice of its points, in ring order", by its number, "where point i counts 2 to the power i".
use Rattle.std.specs.Prelude.{ℕ, zero, suc, ◌+◌, ◌*◌, ◌/◌, ◌%◌, ◌^◌, cond, List, [], ◌∷◌, ◌++◌, get_or, eqb, ℤ, pos}

-- the points chosen by c among the first n of a ring, x and y in turn
unfoldable pub chosen : List ℤ → ℕ → ℕ → List ℤ
chosen l c zero = []
chosen l c (suc i) =
    let r = chosen l c i in
    cond (eqb (c / 2 ^ i % 2) 1) (r ++ (get_or l (i * 2) (pos 0) ∷ get_or l (i * 2 + 1) (pos 0) ∷ [])) r
