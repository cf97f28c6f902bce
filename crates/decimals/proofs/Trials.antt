-- Worked examples, by computation.
use Prim.Native.Nat.{◌-◌, ◌^◌}
use mathlib.Core.Path.{◌≡◌, refl}
use mathlib.Core.Bool.{true, false}
use lib.IntN.{pos, negsuc}
use lib.Ieee.{fin}
use Rattle.text.specs.Text.{bytes, digits, decimal, slots, filled_to, filled_by, stands_for, takes}
use Rattle.decimals.specs.Rounded.{half_even, ten_thousandths, minus}
use Rattle.decimals.specs.Shown.{decimals, shown}

-- 1/32 mm and 3/32 mm, both ties: to 312 and to 938
tie_down : shown (fin false 1 (negsuc 4)) ≡ bytes "0.0312"
unfolding shown decimals ten_thousandths half_even minus bytes digits decimal slots filled_to filled_by stands_for takes
tie_down = refl

tie_up : shown (fin true 3 (negsuc 4)) ≡ bytes "-0.0938"
unfolding shown decimals ten_thousandths half_even minus bytes digits decimal slots filled_to filled_by stands_for takes
tie_up = refl

-- -0.0, and the subnormal next to it
no_minus : shown (fin true 0 (pos 0)) ≡ bytes "0.0000"
unfolding shown decimals ten_thousandths half_even minus bytes digits decimal slots filled_to filled_by stands_for takes
no_minus = refl

least : shown (fin true 1 (negsuc 1073)) ≡ bytes "0.0000"
unfolding shown decimals ten_thousandths half_even minus bytes digits decimal slots filled_to filled_by stands_for takes
least = refl

-- 1024 - 2 ^ -43, which carries
carry : shown (fin false (2 ^ 53 - 1) (negsuc 42)) ≡ bytes "1024.0000"
unfolding shown decimals ten_thousandths half_even minus bytes digits decimal slots filled_to filled_by stands_for takes
carry = refl
