-- The slots of a picture's forms: a form is a text in which each slot stands for the next number of a list. Definitions only.
use Rattle.std.specs.Prelude.{ℕ, ◌-◌, ◌/◌, ◌%◌, true, false, ◌||◌, cond, List, [], ◌∷◌, ltb, eqb}
use Rattle.text.specs.Text.{decimal, filled_by}
use Rattle.decimals.specs.Shown.{decimals}
use Rattle.svg.specs.Place.{origin}

-- '@' is a place, in mm with the sheet's four decimals; '~' a place without decimals where it is whole; '#' a number
unfoldable pub exact : ℕ → List ℕ
exact n = cond (ltb n origin) (decimals true (origin - n)) (decimals false (n - origin))

unfoldable pub plain : ℕ → List ℕ
plain n =
    cond (eqb (n % 10000) 0)
    (cond (ltb n origin) (45 ∷ decimal ((origin - n) / 10000)) (decimal ((n - origin) / 10000)))
    (exact n)

-- what byte b of a form stands for, n the next number
unfoldable pub stands_for : ℕ → ℕ → List ℕ
stands_for b n = cond (eqb b 35) (decimal n) (cond (eqb b 64) (exact n) (cond (eqb b 126) (plain n) (b ∷ [])))

-- how many numbers it takes
unfoldable pub takes : ℕ → ℕ
takes b = cond (eqb b 35 || eqb b 64 || eqb b 126) 1 0

-- the form f with the numbers ns put in
abbrev pub formed : List ℕ → List ℕ → List ℕ
formed f ns = filled_by stands_for takes f ns
