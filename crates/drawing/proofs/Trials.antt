-- Drawings by computation: the square of 1 mm, and texts with a bad line.
use Prim.Native.Nat.{ℕ}
use mathlib.Core.Path.{◌≡◌, refl}
use mathlib.Core.List.{List, [], ◌∷◌}
use lib.IntN.{pos, negsuc}
use Rattle.text.specs.Text.{bytes}
use Rattle.numeral.specs.Numeral.{scaled, more, scan_to, scanned, whole, has_minus, behind, read, units, within, signed}
use Rattle.lines.specs.Line.{words, heard}
use Rattle.drawing.specs.Drawing.{said_of, closes, begins, points}
use Rattle.drawing.specs.Parsing.{line_ends, fed, onward, ran, latest_first, Parser}

-- the parser after the bytes of a text
abbrev after : List ℕ → Parser
after t = (ran (latest_first [] t)).parser

-- what is opened to compute: numbers, lines, drawings
unfoldable numbers : Unit {0}
unfolding scaled more scan_to scanned whole has_minus behind read units within signed
numbers = tt

unfoldable hearing : Unit {0}
unfolding numbers bytes words heard
hearing = tt

unfoldable drawing : Unit {0}
unfolding hearing closes begins points line_ends fed onward ran latest_first
drawing = tt

-- "`printf 'ring 1\n0 0\n1 0\n1 1\n0 1\n'`": the four corners in units
pub square : (after (bytes "ring 1\n0 0\n1 0\n1 1\n0 1\n")).ring ≡ pos 0 ∷ pos 0 ∷ pos 8192 ∷ pos 0 ∷ pos 8192 ∷ pos 8192 ∷ pos 0 ∷ pos 8192 ∷ []
unfolding drawing
square = refl

-- a comment, a blank line and a chain with a half unit below zero
pub chained : (after (bytes "# a note\nring 2\n\nchain # of one point\n-.00006103515625 1.5\n")).chain ≡ negsuc 0 ∷ pos 12288 ∷ []
unfolding drawing
chained = refl

-- what is wrong, and in which line: no such line, no ring yet
pub bad-line : (said_of (after (bytes "ring 1\n0 0\n1 x\n1 1\n")).state.draft.wrong ≡ 21) × ((after (bytes "ring 1\n0 0\n1 x\n1 1\n")).state.line ≡ 3)
unfolding drawing
bad-line = (refl, refl)

pub no_ring_yet : said_of (after (bytes "0 0\n")).state.draft.wrong ≡ 24
unfolding drawing
no_ring_yet = refl
