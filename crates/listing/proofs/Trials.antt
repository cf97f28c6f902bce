-- A worked example, by computation.
use mathlib.Core.Path.{◌≡◌, refl}
use mathlib.Core.Bool.{true, false}
use mathlib.Core.List.{[], ◌∷◌}
use lib.IntN.{pos, negsuc}
use lib.Ieee.{fin}
use Rattle.text.specs.Text.{bytes, digits, decimal, slots, filled_to, filled_by, stands_for, takes}
use Rattle.decimals.specs.Rounded.{half_even, ten_thousandths, minus}
use Rattle.decimals.specs.Shown.{decimals, shown}
use Rattle.listing.specs.Sheet.{right_aligned, line, lines}

-- the sheet of the one node (-1024, 0.5)
sheet : lines (fin true 1 (pos 10) ∷ fin false 1 (negsuc 0) ∷ []) 1 ≡ bytes "       0                  -1024.0000                      0.5000\n"
unfolding lines line right_aligned shown decimals ten_thousandths half_even minus bytes digits decimal slots filled_to filled_by stands_for takes
sheet = refl
