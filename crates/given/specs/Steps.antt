-- The steps from the marks that are lent to those of the cleaned ring: the outline as arrays hold it, and what an array of marks says. Definitions only.
use Rattle.std.specs.Prelude.{ℕ, ◌+◌, ◌*◌, ◌%◌, ◌≤◌, ◌≡◌, true, cond, List, ℤ, length, get_or, take, eqb, Float}
use Rattle.laws.specs.Table.{tab}
use Rattle.vector.specs.declared.GridPoint.{GridPoint}
use Rattle.vector.specs.declared.Ring.{Ring}
use Rattle.vector.specs.Grid.{origin}
use Rattle.vector.specs.Rings.{most_points, OnSheetRing}
use Rattle.clean.specs.declared.CleanedRing.{CleanedRing}
use Rattle.clean.specs.Places.{Rising}
use Rattle.survivors.specs.Survivors.{surviving}
use Rattle.outline.specs.Outline.{Segment, segments}
use Rattle.marks.specs.declared.EdgeMark.{EdgeMark}
use Rattle.marks.specs.declared.EdgeMark.TheVariants.{Straight}
use Rattle.nodes.specs.Flat.{node_in_of}
use Rattle.call.specs.Marked.{Marking, all_points, mark_of, lead_point, given_mark, called_for}
use Rattle.given.specs.declared.lead.LeadLine.{LeadLine}

-- ---- the outline
-- the segments that are sought
abbrev pub sought : LeadLine → List Segment
sought o = segments o.points (take o.count o.loops)

-- they are those of the outline that was lent, where some mark calls for it
pub record OutlineRead (kinds : List ℕ) (outline : List ℤ) (loops : List ℕ) (o : LeadLine) : Type 0 where
  pub is : called_for kinds ≡ true → sought o ≡ segments (all_points outline) loops

-- ---- the marks
abbrev pub places_in : CleanedRing → List ℕ
places_in c = take c.ring.count c.places

-- the marks are as many as the points of the ring, of which cleaning left c
pub record MarksOf (ring : Ring) (kinds : List ℕ) (snaps : List Float) (c : CleanedRing) : Type 0 where
  pub sheet : OnSheetRing ring
  pub marks : length kinds ≡ ring.count
  pub points : length snaps ≡ ring.count * 2
  pub count : c.ring.count ≤ most_points
  pub room : length c.places ≡ most_points
  pub kept : Rising ring.count (places_in c)

-- the mark of edge j after cleaning, of which the next kept place decides whether it stays
abbrev pub mark_left : Ring → CleanedRing → List ℕ → List Float → List Segment → ℕ → EdgeMark
mark_left ring c kinds snaps ss j =
    let k = get_or c.places j 0 in
    let after = (k + 1) % ring.count in
    cond (eqb (get_or c.places ((j + 1) % c.ring.count) 0) after)
    (mark_of (get_or kinds k 0) (node_in_of snaps k) (lead_point ss (get_or ring.points k origin) (get_or ring.points after origin))) Straight

-- es has the first n of these marks, and the places after them are straight
pub record MarkedTo (f : ℕ → EdgeMark) (n : ℕ) (es : List EdgeMark) : Type 0 where
  pub marks : take n es ≡ tab f n
  pub unused : (k : ℕ) → n ≤ k → get_or es k Straight ≡ Straight
  pub places : length es ≡ most_points

-- es has the marks of the ring r that survive where the points at ks stay
pub record Survive (g : Marking) (r : List GridPoint) (ks : List ℕ) (es : List EdgeMark) : Type 0 where
  pub marks : take (length ks) es ≡ surviving Straight (length r) ks (tab (given_mark g r) (length r))
  pub unused : (k : ℕ) → length ks ≤ k → get_or es k Straight ≡ Straight
  pub places : length es ≡ most_points
