-- 01, Rings for trial: "Steps (10,0), (10,3): bad. (10,0), (10,4): not", in mm, with the limits on delivery. One claim over
-- the table of both rows.
use Prim.Native.Nat.{ℕ, ◌*◌}
use mathlib.Core.Bool.{Bool, true, false}
use mathlib.Core.Path.{◌≡◌, refl}
use mathlib.Core.List.{List, [], ◌∷◌}
use lib.IntN.{pos}
use lib.Ieee.{add, sub, div, lt, neg, sum, round, of_int}
use Rattle.laws.specs.All.{All}
use Rattle.laws.specs.Double.{lit}
use Rattle.vector.specs.declared.GridPoint.{GridPoint}
use Rattle.vector.specs.Grid as Grid
use Rattle.limits.specs.Limits.{delivered}
use Rattle.corner.specs.Corner.{bad, measure, by_quadrant, quotient}

-- a step of whole mm
abbrev pub step : ℕ → ℕ → GridPoint
step x y = record { x = pos (x * 8192); y = pos (y * 8192) }

pub record Row : Type 0 where
  pub into : GridPoint
  pub out : GridPoint
  pub is_bad : Bool

abbrev pub rows : List Row
rows =
    record { into = step 10 0; out = step 10 3; is_bad = true }
    ∷ record { into = step 10 0; out = step 10 4; is_bad = false }
    ∷ []

pub table : All (λ row. bad delivered (measure row.into row.out) ≡ row.is_bad) rows
unfolding bad measure by_quadrant quotient Grid.same Grid.cross Grid.dot lit add sub div lt neg sum round of_int
table = (refl, (refl, tt))
