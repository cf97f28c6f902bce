-- What the correctly rounded root of x is, said without the definition of `root_of`: the double that is nearer to √x than every other one.
-- Squares of fractions stand for the root, which no fraction need equal. proofs/NearestRoot.antt proves it of `root_of`.
use Rattle.std.specs.Prelude.{ℕ, ◌+◌, ◌*◌, ◌<◌, false, ℤ, T, Float}
use Rattle.std.specs.Float.{fin, binary64}
use Rattle.std.specs.Float.Ieee.{fits, lt}
use Rattle.std.specs.Float.Ieee.Positive.{num, den, positive}

-- The middle (y + r) / 2 of two finite values that are not negative, num / den each, is the fraction middle / twice.
abbrev pub middle : Float → Float → ℕ
middle y r = num y * den r + num r * den y

abbrev pub twice : Float → Float → ℕ
twice y r = 2 * (den y * den r)

-- The square of the middle of y and r is below x: √x lies above the middle. And the reverse.
abbrev pub MiddleBelow : Float → Float → Float → Type 0
MiddleBelow x y r = middle y r * middle y r * den x < num x * (twice y r * twice y r)

abbrev pub MiddleAbove : Float → Float → Float → Type 0
MiddleAbove x y r = num x * (twice y r * twice y r) < middle y r * middle y r * den x

-- r is nearer to √x than every other double y that is not negative, zero and the subnormal ones among them: where y is below r, √x lies above
-- their middle, and where y is above r, √x lies below it. Both are strict, so there is no tie. A y below zero is farther away than zero is.
pub record NearestRoot (x r : Float) : Type 0 where
  pub held : T (fits binary64 r)
  pub above_zero : T (positive r)
  pub from_below : (n : ℕ) (d : ℤ) → T (fits binary64 (fin false n d)) → T (lt (fin false n d) r) → MiddleBelow x (fin false n d) r
  pub from_above : (n : ℕ) (d : ℤ) → T (fits binary64 (fin false n d)) → T (lt r (fin false n d)) → MiddleAbove x (fin false n d) r
