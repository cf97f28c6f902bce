-- Claim: the roots of the rows below, as bit patterns, are the patterns beside them. The first two are 01's starred ones. The roots are computed
-- by the definition, all rows by one test.
use mathlib.Core.Path.{◌≡◌}
use mathlib.Core.Bool.{Bool, true, ◌&&◌}
use mathlib.Core.List.{List, [], ◌∷◌}
use Prim.Native.Nat.{ℕ}
use lib.Dec.{T, eqb, eqb→eq}
use lib.Ieee.Fits.{and_l, and_r}
use lib.Ieee.{size, units, of_bits, to_bits}
use Rattle.root.specs.Root.{root_bits, in_root}

pub record Row : Type 0 where
  pub of : ℕ
  pub root : ℕ

abbrev row : ℕ → ℕ → Row
row x r = record { of = x; root = r }

abbrev pub rows : List Row
rows =
    -- 2, and 2.25 whose root is 1.5
    row 0x4000_0000_0000_0000 0x3ff6_a09e_667f_3bcd
    ∷ row 0x4002_0000_0000_0000 0x3ff8_0000_0000_0000
    -- the smallest value, the largest subnormal one, the smallest normal one, the largest one
    ∷ row 0x0000_0000_0000_0001 0x1e60_0000_0000_0000
    ∷ row 0x000f_ffff_ffff_ffff 0x1fff_ffff_ffff_ffff
    ∷ row 0x0010_0000_0000_0000 0x2000_0000_0000_0000
    ∷ row 0x7fef_ffff_ffff_ffff 0x5fef_ffff_ffff_ffff
    -- the values next to 1
    ∷ row 0x3fef_ffff_ffff_ffff 0x3fef_ffff_ffff_ffff
    ∷ row 0x3ff0_0000_0000_0001 0x3ff0_0000_0000_0000
    -- the zeros, +infinity
    ∷ row 0x0000_0000_0000_0000 0x0000_0000_0000_0000
    ∷ row 0x8000_0000_0000_0000 0x8000_0000_0000_0000
    ∷ row 0x7ff0_0000_0000_0000 0x7ff0_0000_0000_0000
    -- below zero: -1, the smallest and the largest one, -infinity
    ∷ row 0xbff0_0000_0000_0000 0x7ff8_0000_0000_0000
    ∷ row 0x8000_0000_0000_0001 0x7ff8_0000_0000_0000
    ∷ row 0xffef_ffff_ffff_ffff 0x7ff8_0000_0000_0000
    ∷ row 0xfff0_0000_0000_0000 0x7ff8_0000_0000_0000
    -- NaNs: quiet and signalling, of either sign, with and without a payload
    ∷ row 0x7ff8_0000_0000_0000 0x7ff8_0000_0000_0000
    ∷ row 0x7ff8_0000_0000_1234 0x7ff8_0000_0000_0000
    ∷ row 0xfff8_0000_0000_0000 0x7ff8_0000_0000_0000
    ∷ row 0x7ff0_0000_0000_0001 0x7ff8_0000_0000_0000
    ∷ row 0xffff_ffff_ffff_ffff 0x7ff8_0000_0000_0000
    ∷ []

-- every row holds, and the test of it
abbrev pub Hold : List Row → Type 0
Hold [] = Unit {0}
Hold (r ∷ l) = (root_bits r.of ≡ r.root) × Hold l

unfoldable right : List Row → Bool
right [] = true
right (r ∷ l) = eqb (root_bits r.of) r.root && right l

hold : (l : List Row) → T (right l) → Hold l
unfolding right
hold [] t = tt
hold (r ∷ l) t =
    let b = eqb (root_bits r.of) r.root in
    (eqb→eq (root_bits r.of) r.root (and_l b (right l) t), hold l (and_r b (right l) t))

tested : T (right rows)
unfolding right in_root size units of_bits to_bits
tested = tt

pub trials : Hold rows
trials = hold rows tested
