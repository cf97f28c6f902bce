-- What an array of marks says, and what the value of a marked ring holds.
use Rattle.std.specs.Prelude.{ℕ, ◌≤◌, ◌≡◌, List, length, get_or, take}
use Rattle.vector.specs.declared.GridPoint.{GridPoint}
use Rattle.vector.specs.Rings.{most_points, points_of, OnSheetRing}
use Rattle.chain.specs.Chain.{Stretch}
use Rattle.marks.specs.declared.EdgeMark.{EdgeMark}
use Rattle.marks.specs.declared.EdgeMark.TheVariants.{Straight}
use Rattle.marks.specs.declared.MarkedRing.{MarkedRing}
use Rattle.marks.specs.Part.{Part}
use Rattle.marks.specs.Marks.{marks_to}

-- es has the marks of the ring r of n points; the places after them are straight
pub record Marked (ss : List Stretch) (r : List GridPoint) (n : ℕ) (es : List EdgeMark) : Type 0 where
  pub marks : take n es ≡ marks_to ss r n
  pub unused : (k : ℕ) → n ≤ k → get_or es k Straight ≡ Straight
  pub places : length es ≡ most_points

-- the part that the value of a marked ring holds
abbrev pub part_in : MarkedRing → Part
part_in m = record { points = points_of m.ring; edges = take m.ring.count m.edges }

-- its ring is one of the sheet, and there is a mark for each place of it
pub record ValidMarkedRing (m : MarkedRing) : Type 0 where
  pub ring : OnSheetRing m.ring
  pub marks : length m.edges ≡ most_points
