-- Demand 3, of one call: what is claimed of every accepted ring, of every entry, whatever the set of limits L and whatever the lists held before.
use Rattle.std.specs.Prelude.{ℕ, ◌+◌, ◌-◌, ◌*◌, ◌≤◌, ◌<◌, ◌≡◌, List, pos, length, get_or}
use Rattle.laws.specs.All.{All}
use Rattle.vector.specs.declared.Point.{Point}
use Rattle.vector.specs.Grid.{polygon_area}
use Rattle.vector.specs.Size.{AllOnSheet}
use Rattle.marks.specs.declared.EdgeMark.TheVariants.{Snap}
use Rattle.marks.specs.Part.{Part, mark_count}
use Rattle.limits.specs.declared.Limits.{Limits}
use Rattle.split.specs.Split.{Stack, Cut, split_bad_vertices}
use Rattle.cuts.specs.Areas.{areas, NotNegative, turned_by}
use Rattle.cuts.specs.Choices.{CutAtWorst, Clear, WhyUncut}
use Rattle.cuts.specs.Provenance.{FromRingAndCuts}
use Rattle.nodes.specs.Nodes.{node_at}
use Rattle.nodes.specs.Growth.{InRange, EachNode}
use Rattle.quads.specs.declared.Cell.{Cell}
use Rattle.cells.specs.Stages.{mark_at}
use Rattle.cells.specs.Pieces.{nodes_over, cells_over}
use Rattle.quads.specs.Flat.{Listed}
use Rattle.cells.specs.Claims.{CellsPerPiece}
use Rattle.call.specs.Call.{Lists, used_in, Call, lists_of, node_reserve, cell_reserve, most_places}
pub use Rattle.call.specs.Divide.{cleaned_ring, start_of}
use Rattle.call.specs.Divide.{CallAnswer, put, rims_left}

-- ---- what is asked of a ring before the core divides it
-- the lists x passed 3 and 4 for a ring of r points
pub record Ready (L : Limits) (r : ℕ) (x : Lists) : Type 0 where
  pub listed : x.node_count_of ≤ length x.nodes
  pub stored : x.cell_count_of ≤ length x.cells
  pub places : length x.nodes ≤ most_places
  pub used : EachNode InRange (used_in x)
  pub rimmed : length x.nodes ≤ length x.rims
  pub nodes_free : node_reserve L r ≤ length x.nodes - x.node_count_of
  pub cells_free : cell_reserve L r ≤ length x.cells - x.cell_count_of

-- p is what cleaning left of a ring of r points, at most 60, on the sheet; each of its edges has a mark, whatever that came from, and each snap point is in
-- range
pub record Prepared (L : Limits) (r : ℕ) (p : Part) (x : Lists) : Type 0 where
  pub few : r ≤ 60
  pub fewer : length p.points ≤ r
  pub sheet : AllOnSheet p.points
  pub edged : length p.edges ≡ length p.points
  pub snaps : (i : ℕ) (q : Point) → mark_at p i ≡ Snap q → InRange q
  pub ready : Ready L r x

-- ---- what the core works on
-- the pieces that the ring p is split into, its cuts, and the nodes and the cells that 01's Cells gives over these pieces
abbrev pub pieces_of : Limits → Part → List Part
pieces_of L p = (split_bad_vertices L p).pieces

abbrev pub log_of : Limits → Part → List Cut
log_of L p = (split_bad_vertices L p).log

abbrev pub nodes_from : Limits → Part → Lists → List Point
nodes_from L p x = nodes_over L.share (used_in x) (pieces_of L p)

abbrev pub cells_from : Limits → Part → Lists → List Cell
cells_from L p x = cells_over L.share (used_in x) (pieces_of L p)

-- the same of a call: the stack when it is empty, and the nodes that were listed
abbrev pub split_of : Limits → Call → Stack
split_of L c = split_bad_vertices L (start_of c)

abbrev pub used_of : Call → List Point
used_of c = used_in (lists_of c)

-- ---- the answer a for the ring p over the lists x, if it is accepted
pub record AcceptedCall (L : Limits) (p : Part) (x : Lists) (a : CallAnswer) : Type 0 where
  -- "the answer reports n corners after cleaning, c marked edges and s cuts"
  pub corners : a.row.corners ≡ length p.points
  pub marked : a.row.marked ≡ mark_count p.edges
  pub cuts : a.row.cuts ≡ length (log_of L p)
  pub pieces : a.row.pieces ≡ length (pieces_of L p)
  -- "s is at most 32 and at most n - 3. The pieces are s + 1"
  pub most : a.row.cuts ≤ L.cuts
  pub few : a.row.cuts + 3 ≤ a.row.corners
  pub one_more : a.row.pieces ≡ a.row.cuts + 1
  -- "the ring adds exactly n + 2s cells", "that 01's Cells gives over these pieces": after the old ones, all else as found
  pub cell_count : a.row.cells ≡ x.cell_count_of + (a.row.corners + 2 * a.row.cuts)
  pub cells : a.cells ≡ put x.cells x.cell_count_of (cells_from L p x)
  pub cells_added : length (cells_from L p x) ≡ a.row.corners + 2 * a.row.cuts
  pub cells_fit : a.row.cells ≤ length x.cells
  -- "a piece of k corners has the next k new cells", and none of them fails
  pub sliced : CellsPerPiece L.share (used_in x) (pieces_of L p)
  -- each of their numbers is a listed node's, and so fits a node number
  pub listed : All (Listed a.row.nodes) (cells_from L p x)
  pub numbers_fit : a.row.nodes ≤ most_places
  -- "and at most 2n + c + 2s + 1 nodes", that Cells gives over these pieces: after the old ones, all else as found
  pub node_count : a.row.nodes ≡ length (nodes_from L p x)
  pub nodes : a.nodes ≡ put x.nodes 0 (nodes_from L p x)
  pub nodes_added : a.row.nodes ≤ x.node_count_of + (2 * a.row.corners + a.row.marked + 2 * a.row.cuts + 1)
  pub nodes_fit : a.row.nodes ≤ length x.nodes
  pub old_nodes : (i : ℕ) → i < x.node_count_of → (i < a.row.nodes) × (node_at a.nodes i ≡ node_at x.nodes i)
  -- 02, Card 12: the marks are those that its pieces leave by what they asked for. "The promise on old nodes covers their coordinates bit for bit, and a set
  -- mark stays set"
  pub rims : a.rims ≡ rims_left L p x a.row.nodes
  pub old_rims : (i : ℕ) → i < x.node_count_of → get_or x.rims i 0 ≡ 1 → get_or a.rims i 0 ≡ 1
  -- "no listed node is NaN": each is finite and within 1,024 mm either way
  pub ranged : (i : ℕ) → i < a.row.nodes → InRange (node_at a.nodes i)
  -- "The doubled areas of the pieces sum to the reported area of the cleaned ring plus twice the reported turned area"; none is negative
  pub area : pos a.row.area ≡ polygon_area p.points
  pub turned : a.row.turned ≡ turned_by (log_of L p)
  pub areas : areas (pieces_of L p) ≡ pos (a.row.area + 2 * a.row.turned)
  pub upright : All NotNegative (pieces_of L p)
  -- "Each cut starts at the worst corner of a part that has a bad one", and ends where the best diagonal does
  pub chosen : All (CutAtWorst L) (log_of L p)
  -- Card 11, "No cut through a third corner": no corner of its part is strictly between the ends of a cut
  pub clear : All Clear (log_of L p)
  -- "A piece has a bad corner only if s is 32 or no diagonal from its worst corner meets the rule", and by Card 11 one that runs over a corner does not
  pub excused : All (WhyUncut L a.row.cuts) (pieces_of L p)
  -- the parts that were cut and the pieces come of the cleaned ring and of these cuts alone, their corners and edges included
  pub traced : FromRingAndCuts p (split_bad_vertices L p)
