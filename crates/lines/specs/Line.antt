-- A line of a drawing: "A ring is `ring SIZE`, then a line `x y` for each point in mm, .. then, if it has one, `chain` and its points; blank lines .. are
-- skipped". A line is the list of its bytes, its comment taken off. Definitions only.
use Rattle.std.specs.Prelude.{ℕ, ◌+◌, ◌-◌, ◌≤◌, Bool, ◌&&◌, ◌||◌, not, cond, Option, Some, None}
use Rattle.std.specs.Prelude.{Ok, Err, List, length, take, drop, ltb, leb, eqb, ℤ, unsigned_abs}
use Rattle.std.specs.List.{take_while}
use Rattle.std.specs.declared.result.Result.{Result}
use Rattle.text.specs.Text.{bytes}
use Rattle.numeral.specs.declared.Said.{Said}
use Rattle.numeral.specs.Numeral.{read, within, signed}
use Rattle.lines.specs.declared.Line.{Line}
use Rattle.lines.specs.declared.Line.TheVariants.{Nothing, Ring, Chain, Point}
use Rattle.lines.specs.declared.Fault.{Fault}
use Rattle.lines.specs.declared.Fault.TheVariants.{Unknown, NoSize, Beyond}
use lib.Pointwise.{pointwise}

-- the number that is said of it
abbrev pub number_of : Fault → ℕ
number_of Unknown = 21
number_of NoSize = 22
number_of Beyond = 23

-- a space, a tab or a carriage return parts words
abbrev pub blank : ℕ → Bool
blank b = eqb b 32 || eqb b 9 || eqb b 13

-- the first place from i on that is not blank, and the first that is; the line's length where there is none
abbrev pub start : List ℕ → ℕ → ℕ
start w i = i + length (take_while blank (drop i w))

abbrev pub end : List ℕ → ℕ → ℕ
end w i = i + length (take_while (λ b. not (blank b)) (drop i w))

-- the bytes from place a on, up to place b
abbrev pub word : List ℕ → ℕ → ℕ → List ℕ
word w a b = take (b - a) (drop a w)

-- the same bytes
abbrev pub same : List ℕ → List ℕ → Bool
same v w = pointwise eqb v w

-- "`ring SIZE`": a whole number from 1 to 2,048
abbrev pub size_good : Said → Bool
size_good n = not n.minus && not (ltb 1 n.scale) && not (eqb n.value 0) && leb n.value 2048

abbrev pub size_of : Option Said → Result Line Fault
size_of None = Err NoSize
size_of (Some n) = cond (size_good n) (Ok (Ring n.value)) (Err NoSize)

abbrev pub ring_line : List ℕ → Result Line Fault
ring_line w = size_of (read w)

-- "`chain`", and no word more
abbrev pub chain_line : List ℕ → Result Line Fault
chain_line w = cond (eqb (length w) 0) (Ok Chain) (Err Unknown)

-- the units of a number with its sign; a coordinate is at most 8,388,608 units, which are 1,024 mm
abbrev pub with_sign : Bool → Option ℕ → Result ℤ Fault
with_sign m None = Err Beyond
with_sign m (Some n) = Ok (signed m n)

abbrev pub coordinate : Said → Result ℤ Fault
coordinate n = with_sign n.minus (within n.value n.scale)

-- "a line `x y`"
abbrev pub point_of : Result ℤ Fault → Result ℤ Fault → Result Line Fault
point_of (Err e) y = Err e
point_of (Ok x) (Err e) = Err e
point_of (Ok x) (Ok y) = Ok (Point x y)

abbrev pub both : Option Said → Option Said → Result Line Fault
both None y = Err Unknown
both (Some x) None = Err Unknown
both (Some x) (Some y) = point_of (coordinate x) (coordinate y)

abbrev pub point_line : List ℕ → List ℕ → Result Line Fault
point_line v w = both (read v) (read w)

-- a line of the words v and w, of which the second may be empty
unfoldable pub words : List ℕ → List ℕ → Result Line Fault
words v w =
    cond (same v (bytes "ring")) (ring_line w)
    (cond (same v (bytes "chain")) (chain_line w)
    (point_line v w))

-- "blank lines .. are skipped"; a third word is too many
unfoldable pub heard : List ℕ → Result Line Fault
heard w =
    let a = start w 0 in
    let b = end w a in
    let c = start w b in
    let d = end w c in
    cond (eqb a (length w)) (Ok Nothing)
    (cond (ltb (start w d) (length w)) (Err Unknown)
    (words (word w a b) (word w c d)))

-- what was heard are coordinates on the sheet, or none
abbrev pub OnSheet : ℤ → Type 0
OnSheet x = unsigned_abs x ≤ 8388608

abbrev pub HeardOnSheet : Line → Type 0
HeardOnSheet (Point x y) = OnSheet x × OnSheet y
HeardOnSheet Nothing = Unit {0}
HeardOnSheet (Ring size) = Unit {0}
HeardOnSheet Chain = Unit {0}
