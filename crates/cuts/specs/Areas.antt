-- What is claimed of the split, 2: "The doubled areas of the pieces sum to the reported area of the cleaned ring plus twice the reported turned area."
use Rattle.std.specs.Prelude.{ℕ, ◌+◌, ◌*◌, ◌≡◌, List, [], ◌∷◌, T, ℤ, pos, ◌+ℤ◌}
use Rattle.std.specs.Int.Signed.{non_neg}
use Rattle.laws.specs.All.{All}
use Rattle.vector.specs.Grid.{polygon_area}
use Rattle.marks.specs.Part.{Part}
use Rattle.parts.specs.Cut.{turned_in}
use Rattle.split.specs.Split.{Cut, Stack}

abbrev pub areas : List Part → ℤ
areas [] = pos 0
areas (p ∷ ps) = polygon_area p.points +ℤ areas ps

-- the area of a part is not negative
abbrev pub NotNegative : Part → Type 0
NotNegative p = T (non_neg (polygon_area p.points))

-- what the cuts of a log turned round
abbrev pub turned_by : List Cut → ℕ
turned_by [] = 0
turned_by (c ∷ l) = turned_by l + turned_in c.part c.v c.k

pub record AreasBalance (ring : Part) (s : Stack) : Type 0 where
  pub sum : areas s.pieces ≡ polygon_area ring.points +ℤ pos (2 * s.turned)
  pub turned : s.turned ≡ turned_by s.log
  pub upright : NotNegative ring → All NotNegative s.pieces
