-- 01, Input: a ring and a chain have at most 60 points, whole numbers of units on the sheet. Definitions only.
use Rattle.std.specs.Prelude.{ℕ, ◌≤◌, ◌≡◌, List, length, take}
use Rattle.vector.specs.declared.GridPoint.{GridPoint}
use Rattle.vector.specs.declared.Ring.{Ring}
use Rattle.vector.specs.Size.{AllOnSheet}

abbrev pub most_points : ℕ
most_points = 60

-- the points of a ring's value
abbrev pub points_of : Ring → List GridPoint
points_of r = take r.count r.points

-- a ring or a chain as a slice: no more points than the limit, each on the sheet
pub record OnSheetPoints (l : List GridPoint) : Type 0 where
  pub count : length l ≤ most_points
  pub points : AllOnSheet l

-- the count fits the array, and every place of it, used or not, holds a point of the sheet
pub record OnSheetRing (r : Ring) : Type 0 where
  pub count : r.count ≤ most_points
  pub places : length r.points ≡ most_points
  pub points : AllOnSheet r.points
