-- Card 5, Snap to the lead line: "A new entry takes edge marks directly: straight, snapped to a given point, or snapped to the nearest point of an outline
-- with holes." What a caller lends for it, the ring with its marks, tests 13 and 14, and the whole call, over the core of all entries.
use Rattle.std.specs.Prelude.{ℕ, suc, ◌*◌, ◌-◌, ◌/◌, Bool, false, ◌&&◌, ◌||◌, not, cond, List, [], length, get_or, ltb, eqb, ℤ, Float}
use Rattle.laws.specs.Bounded.{any}
use Rattle.laws.specs.Table.{tab}
use Rattle.vector.specs.declared.GridPoint.{GridPoint}
use Rattle.vector.specs.declared.Point.{Point}
use Rattle.vector.specs.Grid.{at}
use Rattle.vector.specs.Plane.{in_mm}
use Rattle.clean.specs.Clean.{clean_polygon}
use Rattle.clean.specs.Places.{kept_places}
use Rattle.survivors.specs.Survivors.{surviving}
use Rattle.outline.specs.Outline.{Segment, segments, total, nearest_boundary_point}
use Rattle.marks.specs.declared.EdgeMark.{EdgeMark}
use Rattle.marks.specs.declared.EdgeMark.TheVariants.{Straight, Snap}
use Rattle.marks.specs.Part.{Part}
use Rattle.limits.specs.declared.Limits.{Limits}
use Rattle.nodes.specs.Flat.{node_in_of}
use Rattle.quads.specs.Quads.{middle}
use Rattle.table.specs.Refusals.{Refusal, Tests, in_order}
use Rattle.limits.specs.Sets.{limits_out}
use Rattle.call.specs.Call.{Lists, on_sheet, any_outside, counts_out, units_out, lists_out, room_out_of}
use Rattle.call.specs.Divide.{CallAnswer, refused_or, core}
use Rattle.call.specs.Lent.{points_in, all_cells, odd, lent_lists}

-- the marks as they are lent: mark i has kind i, 0 straight, 1 snapped to point i of the snaps, in mm, 2 snapped to the outline; the points of all loops of
-- the outline one after the other, the rim first, and how many points each loop has
pub record Marking : Type 0 where
  pub kinds : List ℕ
  pub snaps : List Float
  pub outline : List ℤ
  pub loops : List ℕ

-- the points of a ring or an outline
abbrev pub all_points : List ℤ → List GridPoint
all_points l = points_in l (length l / 2)

-- ---- the ring with its marks
-- the mark of a kind: with its given point, and with the outline's nearest
unfoldable pub mark_of : ℕ → Point → Point → EdgeMark
mark_of kind given nearest = cond (eqb kind 1) (Snap given) (cond (eqb kind 2) (Snap nearest) Straight)

-- `nearest_boundary_point`, "taken at the middle of the edge's two ring points" a and b
unfoldable pub lead_point : List Segment → GridPoint → GridPoint → Point
lead_point ss a b = nearest_boundary_point (middle (in_mm a) (in_mm b)) ss

-- "Mark i belongs to the edge from point i to the next point round the ring."
abbrev pub lead_line : Marking → List Segment
lead_line g = segments (all_points g.outline) g.loops

unfoldable pub given_mark : Marking → List GridPoint → ℕ → EdgeMark
given_mark g r i = mark_of (get_or g.kinds i 0) (node_in_of g.snaps i) (lead_point (lead_line g) (at r i) (at r (suc i)))

-- "It survives cleaning if both those points stay. An edge that joins two kept points over dropped ones is straight."
unfoldable pub marked_by : ℕ → Marking → List GridPoint → Part
marked_by size g r = record { points = clean_polygon size r; edges = surviving Straight (length r) (kept_places size r) (tab (given_mark g r) (length r)) }

-- ---- 13, "if the marks are not as many as the ring's points or a given snap is out of limits": "A given snap point is finite and within 1,024 mm either way."
-- Nor is a kind above 2 a mark, and the snaps are two numbers a mark, looked at where its kind is 1
unfoldable pub mark_out : ℕ → Point → Bool
mark_out kind p = ltb 2 kind || eqb kind 1 && not (on_sheet p.x && on_sheet p.y)

unfoldable pub marks_out : List ℕ → List Float → ℕ → Bool
marks_out kinds snaps n = not (eqb (length kinds) n) || not (eqb (length snaps) (n * 2)) || any (λ i. mark_out (get_or kinds i 0) (node_in_of snaps i)) n

-- ---- 14, "if an outline is called for and is empty, over 60 points, has a loop (rim or hole) of under 3 points or has a coordinate out of limits". An odd
-- number of coordinates is no outline, nor are loops that do not add up to its points
unfoldable pub called_for : List ℕ → Bool
called_for kinds = any (λ i. eqb (get_or kinds i 0) 2) (length kinds)

unfoldable pub loops_out : List ℕ → ℕ → Bool
loops_out ms n = any (λ i. ltb (get_or ms i 0) 3) (length ms) || not (eqb (total ms) n)

unfoldable pub outline_out : List ℕ → List ℤ → List ℕ → Bool
outline_out kinds outline loops =
    let n = length outline / 2 in
    called_for kinds && (odd outline || eqb n 0 || ltb 60 n || loops_out loops n || any_outside (all_points outline))

-- ---- the call
pub record LentMarked : Type 0 where
  pub ring : List ℤ
  pub marking : Marking
  pub size : ℕ
  pub nodes : List Float
  pub node_count_of : ℕ
  pub rims : List ℕ
  pub cells : List ℕ
  pub cell_count_of : ℕ

-- the same of its parts, in the order in which every entry takes them
abbrev pub lent_marked : List ℤ → Marking → ℕ → List Float → ℕ → List ℕ → List ℕ → ℕ → LentMarked
lent_marked ring marking size nodes node_count_of rims cells cell_count_of =
    record {
      ring = ring;
      marking = marking;
      size = size;
      nodes = nodes;
      node_count_of = node_count_of;
      rims = rims;
      cells = cells;
      cell_count_of = cell_count_of;
    }

abbrev pub marked_lists : LentMarked → Lists
marked_lists l = lent_lists l.nodes l.node_count_of l.rims (all_cells l.cells) l.cell_count_of

-- the ring that the core gets
abbrev pub marked_start : LentMarked → Part
marked_start l = marked_by l.size l.marking (all_points l.ring)

-- its tests: 1 and 2 of a ring with no chain, 13 "after 2", 14 "after 13", 15 after "14 where marks are given", and 3 and 4
abbrev pub marked_made : Limits → LentMarked → Tests
marked_made L l =
    let n = length (all_points l.ring) in
    let x = marked_lists l in
    record {
      counts = odd l.ring || counts_out n 0;
      practice = false;
      units = units_out (all_points l.ring) [] l.size;
      marks = marks_out l.marking.kinds l.marking.snaps n;
      outline = outline_out l.marking.kinds l.marking.outline l.marking.loops;
      limits = limits_out L;
      lists = lists_out x;
      room = room_out_of L n (length x.nodes - x.node_count_of) (length x.cells - x.cell_count_of);
    }

abbrev pub marked_tests : Limits → LentMarked → List Refusal
marked_tests L l = in_order (marked_made L l)

unfoldable pub divide_marked : Limits → LentMarked → CallAnswer
divide_marked L l = let x = marked_lists l in refused_or x (marked_tests L l) (core L (length (all_points l.ring)) (marked_start l) x)
