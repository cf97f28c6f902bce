-- 01, What is returned: the whole call, accepted or refused, with every value of the table and every place of the lists. An entry tests, prepares a ring with
-- its marks, and hands it to the core, which is one for all of them.
use Rattle.std.specs.Prelude.{ℕ, ◌+◌, ◌≤◌, Bool, not, cond, List, [], ◌∷◌, length, replicate, T, ltb, eqb, pos, nat_abs}
use Rattle.std.specs.Int.Signed.{lt_z}
pub use Rattle.laws.specs.Lists.{put}
use Rattle.vector.specs.declared.GridPoint.{GridPoint}
use Rattle.vector.specs.declared.Point.{Point}
use Rattle.vector.specs.Grid.{polygon_area}
use Rattle.chain.specs.Chain.{simplify_chain}
use Rattle.clean.specs.Clean.{clean_polygon}
use Rattle.simple.specs.Simple.{polygon_simple}
use Rattle.marks.specs.Part.{Part, mark_count}
use Rattle.marks.specs.Marks.{marked}
use Rattle.limits.specs.declared.Limits.{Limits}
use Rattle.split.specs.Split.{Stack, split_bad_vertices}
use Rattle.quads.specs.declared.Cell.{Cell}
use Rattle.quads.specs.Quads.{no_cell}
use Rattle.cells.specs.Pieces.{Outcome, done, failed, pieces_to}
use Rattle.cells.specs.Asks.{Ask, all_marked, asks_to}
use Rattle.cells.specs.Rims.{rims_by}
use Rattle.table.specs.declared.Row.{Row}
use Rattle.table.specs.Answers.{divided_row, refused_row, failed_row}
use Rattle.table.specs.Refusals.{Refusal, ◌when◌, first_of}
use Rattle.call.specs.Call.{Lists, used_in, Call, lists_of, cell_reserve, tests}

-- what comes back: the row of the table, and the lists as they are left
pub record CallAnswer : Type 0 where
  pub row : Row
  pub nodes : List Point
  pub rims : List ℕ
  pub cells : List Cell

-- "Refusals 1 to 7 return the caller's two counts as they came, and zeros besides"; "all as found"; 02, Card 12: "A refusal before 8 changes no mark"
unfoldable pub refused : Lists → ℕ → CallAnswer
refused x n = record { row = refused_row n x.node_count_of x.cell_count_of; nodes = x.nodes; rims = x.rims; cells = x.cells }

-- refused by the first of the tests that holds; if none does, the answer a
abbrev pub refused_or : Lists → List Refusal → CallAnswer → CallAnswer
refused_or x rs a = cond (eqb (first_of rs) 0) a (refused x (first_of rs))

-- ---- the core: a ring of r points, p what cleaning left of it with the marks of its edges, and the lists x
-- 5 "under 3 points after cleaning", 6 "not simple after cleaning", 7 "cleaned doubled area not above 0"
abbrev pub under_three : List GridPoint → Bool
under_three ps = ltb (length ps) 3

abbrev pub not_simple : List GridPoint → Bool
not_simple ps = not (polygon_simple ps)

abbrev pub no_area : List GridPoint → Bool
no_area ps = not (lt_z (pos 0) (polygon_area ps))

abbrev pub ring_tests : List GridPoint → List Refusal
ring_tests ps = 5 when under_three ps ∷ 6 when not_simple ps ∷ 7 when no_area ps ∷ []

-- a cleaned ring that none of them refuses
pub record Whole (ps : List GridPoint) : Type 0 where
  pub three : 3 ≤ length ps
  pub simple : T (polygon_simple ps)
  pub wide : T (lt_z (pos 0) (polygon_area ps))

-- what the pieces of a ring come to, over the nodes that are listed
abbrev pub outcome_of : Limits → Part → Lists → Outcome
outcome_of L p x =
    let ps = (split_bad_vertices L p).pieces in
    pieces_to L.share ps (used_in x) (length ps)

-- 02, Card 12: what its pieces ask for, laid out over the nodes ns, all of them or up to one that fails
abbrev pub asked : Limits → Part → List Point → List Ask
asked L p ns =
    let ps = (split_bad_vertices L p).pieces in
    asks_to L.share ps (split_bad_vertices L (all_marked p)).pieces ns (length ps)

-- and the marks that they leave where v nodes are then listed
abbrev pub rims_left : Limits → Part → Lists → ℕ → List ℕ
rims_left L p x v = rims_by x.node_count_of v (asked L p (used_in x)) x.rims

-- split into s, whose pieces came to an outcome. Accepted: "new nodes and cells after the old ones, all else as found".
-- 8: "new nodes stay; cell count as before; the r + 2m cell places after it zero". 02, Card 12: "With 8, nodes and marks made so far stay"
unfoldable pub answered : Limits → ℕ → Part → Lists → Stack → Outcome → CallAnswer
answered L r p x s (done ns cs) =
    record {
      row =
          divided_row (length p.points) (mark_count p.edges) s.cuts (length s.pieces) s.turned (nat_abs (polygon_area p.points)) (length ns)
          (x.cell_count_of + length cs);
      nodes = put x.nodes 0 ns;
      rims = rims_left L p x (length ns);
      cells = put x.cells x.cell_count_of cs;
    }
answered L r p x s (failed ns n k) =
    record {
      row = failed_row n k (length ns) x.cell_count_of;
      nodes = put x.nodes 0 ns;
      rims = rims_left L p x (length ns);
      cells = put x.cells x.cell_count_of (replicate (cell_reserve L r) no_cell);
    }

-- refusals 5 to 7, or the pieces and their cells
unfoldable pub core : Limits → ℕ → Part → Lists → CallAnswer
core L r p x =
    let s = split_bad_vertices L p in
    refused_or x (ring_tests p.points) (answered L r p x s (pieces_to L.share s.pieces (used_in x) (length s.pieces)))

-- ---- the divider call: its tests, and the core over the cleaned ring with the marks that the chain gives it
abbrev pub cleaned_ring : Call → List GridPoint
cleaned_ring c = clean_polygon c.size c.ring

abbrev pub start_of : Call → Part
start_of c = marked (simplify_chain c.chain) (cleaned_ring c)

unfoldable pub divide : Limits → Call → CallAnswer
divide L c = refused_or (lists_of c) (tests L c) (core L (length c.ring) (start_of c) (lists_of c))
