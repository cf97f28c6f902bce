-- Card 9 in its own words, of the bytes that a call leaves: without the definitions of specs/Sheet, and of decimals, that make
-- them. proofs/Claims proves it.
use Rattle.std.specs.Prelude.{ℕ, ◌+◌, ◌*◌, ◌<◌, ◌≡◌, ◌&&◌, List, length, get_or, take, drop, T, ltb, Float}
use Rattle.std.specs.Float.{nan}
use Rattle.decimals.specs.Rounded.{negative}
use Rattle.decimals.specs.Nearest.{NearestShown}
use Rattle.listing.specs.Read.{is_digit_of, read_from, has, RightAligned}

-- The 28 columns t show x in mm with four decimals, right-aligned. The digits, read back as one number N, are within half of 0.0001 mm of
-- x's exact value, and N is even at a tie; there is a minus exactly where x is negative and N is not 0.
pub record ShownAs (x : Float) (t : List ℕ) : Type 0 where
  pub columns : length t ≡ 28
  pub aligned : RightAligned t
  pub point : get_or t 23 0 ≡ 46
  pub decimals : (k : ℕ) → k < 4 → T (is_digit_of (get_or t (24 + k) 0))
  pub nearest : NearestShown x (read_from 0 t)
  pub sign : has 45 t ≡ (negative x && ltb 0 (read_from 0 t))

-- The 65 bytes t are the line of node i: its number in 8 columns, x and y in 28 each, and a line feed.
pub record LineOf (l : List Float) (i : ℕ) (t : List ℕ) : Type 0 where
  pub long : length t ≡ 65
  pub number : read_from 0 (take 8 t) ≡ i
  pub aligned : RightAligned (take 8 t)
  pub x : ShownAs (get_or l (i * 2) nan) (take 28 (drop 8 t))
  pub y : ShownAs (get_or l (i * 2 + 1) nan) (take 28 (drop 36 t))
  pub feed : get_or t 64 0 ≡ 10

-- The bytes m hold the lines of the first n nodes in order, and from then on what stood in the bytes out.
pub record SheetIs (l : List Float) (n : ℕ) (out m : List ℕ) : Type 0 where
  pub long : length m ≡ length out
  pub lines : (i : ℕ) → i < n → LineOf l i (take 65 (drop (i * 65) m))
  pub after : drop (n * 65) m ≡ drop (n * 65) out
