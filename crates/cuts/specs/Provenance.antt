-- What is claimed of the split, 4: where the parts, their corners and their edges come from: the ring and the cuts of the log.
use Rattle.std.specs.Prelude.{ℕ, ◌+◌, ◌<◌, ◌≡◌, length, get_or}
use mathlib.Core.List.{List, [], ◌∷◌, ◌++◌, Memᴰ}
use Rattle.laws.specs.All.{All}
use Rattle.vector.specs.declared.GridPoint.{GridPoint}
use Rattle.vector.specs.Grid.{origin, at}
use Rattle.marks.specs.declared.EdgeMark.{EdgeMark}
use Rattle.marks.specs.declared.EdgeMark.TheVariants.{Straight}
use Rattle.marks.specs.Part.{Part, no_part}
use Rattle.parts.specs.Cut.{first_part, second_part}
use Rattle.split.specs.Split.{Cut, Stack}

-- the two parts that a cut makes
abbrev pub first_part_of : Cut → Part
first_part_of c = first_part c.part c.v c.k

abbrev pub second_part_of : Cut → Part
second_part_of c = second_part c.part c.v c.k

-- a side: its two ends and its mark
pub record Side : Type 0 where
  pub a : GridPoint
  pub b : GridPoint
  pub mark : EdgeMark

abbrev pub side : GridPoint → GridPoint → EdgeMark → Side
side a b e = record { a = a; b = b; mark = e }

-- what a list of sides reads as past its end
abbrev pub no_side : Side
no_side = side origin origin Straight

abbrev pub back : Side → Side
back s = side s.b s.a s.mark

-- the sides of a path from a, and of a ring
unfoldable pub along : GridPoint → List GridPoint → List EdgeMark → List Side
along a [] es = []
along a (b ∷ r) [] = []
along a (b ∷ r) (e ∷ es) = side a b e ∷ along b r es

unfoldable pub around : List GridPoint → List EdgeMark → List Side
around [] es = []
around (a ∷ r) es = along a (r ++ (a ∷ [])) es

abbrev pub sides : Part → List Side
sides p = around p.points p.edges

abbrev pub all_sides : List Part → List Side
all_sides [] = []
all_sides (p ∷ ps) = sides p ++ all_sides ps

-- the diagonal of a cut, from the corner v of its part to the place k after v; and that of each cut, twice
unfoldable pub diagonal : Cut → Side
diagonal c = side (at c.part.points c.v) (at c.part.points (c.v + c.k)) Straight

abbrev pub diagonals : List Cut → List Side
diagonals [] = []
diagonals (c ∷ l) = diagonal c ∷ diagonal c ∷ diagonals l

-- the parts that cuts made, and those that were cut
abbrev pub made : List Cut → List Part
made [] = []
made (c ∷ l) = second_part_of c ∷ first_part_of c ∷ made l

abbrev pub spent_parts : List Cut → List Part
spent_parts [] = []
spent_parts (c ∷ l) = c.part ∷ spent_parts l

-- two sides are alike: they are the same, in one sense or the other
pub data SameSide : Side → Side → Type 0 where
  same : {s : Side} → SameSide s s
  turned : {s : Side} → SameSide (back s) s

-- two lists match: one to one, in some order, each element with one that it is related to
pub data Match {A : Type 0} (R : A → A → Type 0) : List A → List A → Type 0 where
  empty : Match R [] []
  each : {s t : A} {l m : List A} → R s t → Match R l m → Match R (s ∷ l) (t ∷ m)
  swap : {s t : A} {l : List A} → Match R (s ∷ t ∷ l) (t ∷ s ∷ l)
  chain : {l m n : List A} → Match R l m → Match R m n → Match R l n

-- a cut deals the sides of a part to the two that it makes, and each gets the diagonal d besides
pub record SidesShared (first second whole : List Side) (d : Side) : Type 0 where
  pub one : List Side
  pub two : List Side
  pub first_has : Match SameSide first (d ∷ one)
  pub second_has : Match SameSide second (d ∷ two)
  pub both : Match SameSide (one ++ two) whole

abbrev pub Deals : Cut → Type 0
Deals c = SidesShared (sides (first_part_of c)) (sides (second_part_of c)) (sides c.part) (diagonal c)

-- a side is alike to one of a list
pub record Among (l : List Side) (s : Side) : Type 0 where
  pub like : Side
  pub alike : SameSide s like
  pub source : Memᴰ like l

-- each part that was cut had, by then, sides of the ring and diagonals of the cuts before
abbrev pub FromEarlierCuts : Part → List Cut → Type 0
FromEarlierCuts ring [] = Unit {0}
FromEarlierCuts ring (c ∷ l) = All (Among (diagonals l ++ sides ring)) (sides c.part) × FromEarlierCuts ring l

-- P holds of each corner of a part
abbrev pub Cornered : (GridPoint → Type 0) → Part → Type 0
Cornered P p = All P p.points

pub record FromRingAndCuts (ring : Part) (s : Stack) : Type 0 where
  -- the parts that were cut and the pieces are, each once, the ring and the parts that the cuts made
  pub parts : Match ◌≡◌ (spent_parts s.log ++ s.pieces) (ring ∷ made s.log)
  -- each corner of each piece, and of each part that was cut, is a corner of the ring
  pub corners : All (Cornered (λ x. Memᴰ x ring.points)) s.pieces
  pub cut_corners : All (λ c. Cornered (λ x. Memᴰ x ring.points) c.part) s.log
  -- the sides of all pieces are, each once and in one sense or the other, the sides of the ring and the diagonal of each cut twice
  pub edges : Match SameSide (all_sides s.pieces) (diagonals s.log ++ sides ring)
  -- so each side of each piece is alike to a side of the ring or to a diagonal; and so was each side of a part that was cut
  pub known : All (λ p. All (Among (diagonals s.log ++ sides ring)) (sides p)) s.pieces
  pub grown : FromEarlierCuts ring s.log
  pub deals : All Deals s.log

-- a part that comes of p by cuts of the log
pub data Under (l : List Cut) (p : Part) : Part → Type 0 where
  itself : Under l p p
  by_first : {q : Part} (c : Cut) → Memᴰ c l → Under l p c.part → q ≡ first_part_of c → Under l p q
  by_second : {q : Part} (c : Cut) → Memᴰ c l → Under l p c.part → q ≡ second_part_of c → Under l p q

-- of the parts qs, the one in place i comes of p and has the side d
pub record Carries (l : List Cut) (qs : List Part) (d : Side) (p : Part) (i : ℕ) : Type 0 where
  pub low : i < length qs
  pub under : Under l p (get_or qs i no_part)
  pub has : Among (sides (get_or qs i no_part)) d

-- the diagonal of the cut c is a side of two of the parts qs: of one that comes of the first part that c made, and of another that comes of the second
pub record Beside (l : List Cut) (qs : List Part) (c : Cut) : Type 0 where
  pub i : ℕ
  pub j : ℕ
  pub apart : ¬ (i ≡ j)
  pub first : Carries l qs (diagonal c) (first_part_of c) i
  pub second : Carries l qs (diagonal c) (second_part_of c) j

-- the diagonal of each cut, through all later cuts of the two parts beside it, ends as a side of two pieces, one of either
abbrev pub Followed : Stack → Type 0
Followed s = All (Beside s.log s.pieces) s.log
