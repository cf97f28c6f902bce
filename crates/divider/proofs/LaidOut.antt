-- The answer of a ring that was laid out: its row, and what is left in the lists, from what the pieces came to.
use Prim.Native.Nat.{ℕ, ◌+◌, ◌/◌, ◌≤◌}
use native.Mathlib.Omega.{arith}
use mathlib.Core.Path.{◌≡◌, sym, ap, ◌∙◌, subst}
use mathlib.Core.List.{List}
use lib.IntN.{nat_abs}
use lib.ListN.{length}
use lib.Ieee.{Float}
use Rattle.vector.specs.declared.Point.{Point}
use Rattle.vector.specs.Grid.{polygon_area}
use Rattle.marks.specs.declared.MarkedRing.{MarkedRing}
use Rattle.marks.specs.Part.{Part, mark_count}
use Rattle.limits.specs.declared.Limits.{Limits}
use Rattle.split.specs.declared.Splitting.{Splitting}
use Rattle.split.specs.Split.{Stack, split_bad_vertices}
use Rattle.split.specs.State.{ring_part, Represents}
use Rattle.nodes.specs.Flat.{over}
use Rattle.quads.specs.declared.Cell.{Cell}
use Rattle.cells.specs.Pieces.{Outcome, done}
use Rattle.cells.specs.Stages.{nodes_of}
use Rattle.cells.specs.Claims.{CellsOf}
use Rattle.cells.specs.Rims.{rims_by}
use Rattle.cells.proofs.NewCells.{pieces-cells}
use Rattle.pieces.specs.Flat.{over_from, cells_left_of, outcome_in, every_mark, asks_in}
use Rattle.pieces.proofs.Cases.{AllDone, OneFailed}
use Rattle.table.specs.declared.Row.{Row}
use Rattle.table.specs.Answers.{divided_row, failed_row}
use Rattle.call.specs.Call.{Lists, used_in, cell_reserve}
use Rattle.call.specs.Divide.{rims_left, answered}
use Rattle.call.proofs.Course.{Divisible, outcome_of}
use Rattle.divider.specs.Promise.{Leaves}
use Rattle.marks.specs.Edges.{part_in}
use Rattle.divider.specs.Steps.{lists_in}
use Rattle.divider.proofs.Leaving as leaving
use Rattle.divider.proofs.Leaving.{moved}
use Rattle.divider.proofs.Laying as laying

cells-many : (o : Outcome) (ns : List Point) (cs : List Cell) (m : ℕ) → o ≡ done ns cs → CellsOf m o → length cs ≡ m
cells-many o ns cs m e h = (subst (CellsOf m) e h).0

module _ (L : Limits) (r : ℕ) (m : MarkedRing) (l : List Float) (u : ℕ) (rs q : List ℕ) (k : ℕ) (a : Divisible L r (part_in m) (lists_in l u rs q k)) where
  abbrev p : Part
  p = part_in m

  abbrev x : Lists
  x = lists_in l u rs q k

  abbrev s : Stack
  s = split_bad_vertices L p

  abbrev o : Outcome
  o = outcome_of L p x

  node-room : (ns : List Point) → nodes_of o ≡ ns → length ns ≤ length l / 2
  node-room ns e = omega (arith, laying.node-room L r m l u rs q k a, ap length e)

  -- the same of the pieces t that the split answered, split alike with every edge marked
  module _ (t : Splitting) (shown : Represents m.ring.points m.edges t s) (many : length m.edges ≡ 60)
      (labels : Represents m.ring.points every_mark t (split_bad_vertices L (ring_part m.ring.points every_mark m.ring.count))) where
    abbrev told : Outcome
    told = outcome_in L.share l u m.ring.points m.edges t.pieces

    same : told ≡ o
    same = laying.outcome-is L r m l u rs q k a t shown

    -- the cells of pieces that are done fit the reserve
    pub cell_room : (v d : ℕ) → AllDone told v d → k + d ≤ length q / 4
    cell_room v d y =
        omega (
          arith,
          y.cells,
          cells-many o y.ns y.cs _ (sym same ∙ y.is) (pieces-cells L.share s.pieces (used_in x) (length s.pieces)),
          laying.corners L r m l u rs q k a,
          laying.cell_room L r m l u rs q k a,
        )

    -- what the code was answered, over a reserve of so many places
    abbrev Left : ℕ → Row → Type 0
    Left reserve v =
        Leaves (answered L r p x s o) v l (over l (nodes_of told))
        (rims_by u (length (nodes_of told)) (asks_in L.share l u m.ring.points m.edges t.pieces) rs) q (over_from q k (cells_left_of reserve told))

    -- where the pieces came to w
    left : (reserve : ℕ) (v : Row) (w : Outcome) → told ≡ w
        → Leaves (answered L r p x s w) v l (over l (nodes_of w)) (rims_left L p x (length (nodes_of w))) q (over_from q k (cells_left_of reserve w))
        → Left reserve v
    left reserve v w e h =
        let ns = over l (nodes_of w) in
        let ts = rims_left L p x (length (nodes_of w)) in
        let cs = over_from q k (cells_left_of reserve w) in
        moved (ap (λ (o : Outcome). over l (nodes_of o)) e)
        (laying.rims-are L r m l u rs q k a t shown many labels ∙ ap (λ (o : Outcome). rims_left L p x (length (nodes_of o))) (sym same ∙ e))
        (ap (λ (o : Outcome). over_from q k (cells_left_of reserve o)) e)
        (subst (λ (o : Outcome). Leaves (answered L r p x s o) v l ns ts q cs) (sym e ∙ same) h)

    pub laid_done : (reserve n c cuts count turned area v d : ℕ) → AllDone told v d → n ≡ length p.points → c ≡ mark_count p.edges → cuts ≡ s.cuts
        → count ≡ length s.pieces → turned ≡ s.turned
        → area ≡ nat_abs (polygon_area p.points) → Left reserve (divided_row n c cuts count turned area v (k + d))
    laid_done reserve n c cuts count turned area v d y e₁ e₂ e₃ e₄ e₅ e₆ =
        let b = node-room y.ns (ap nodes_of (sym same ∙ y.is)) in
        let f = leaving.done-leaves l u rs q k L r p s y.ns b y.cs (omega (arith, cell_room v d y, y.cells)) in
        subst (λ (w : Row). Left reserve w)
        (λ j. divided_row (sym e₁ j) (sym e₂ j) (sym e₃ j) (sym e₄ j) (sym e₅ j) (sym e₆ j) (sym y.nodes j) (k + sym y.cells j))
        (left reserve _ _ y.is f)

    pub laid-failed : (reserve n i v : ℕ) → OneFailed told n i v → reserve ≡ cell_reserve L r → Left reserve (failed_row n i v k)
    laid-failed reserve n i v y e =
        let b = node-room y.ns (ap nodes_of (sym same ∙ y.is)) in
        let f = leaving.failed-leaves l u rs q k L r p s y.ns b n i (laying.cell_room L r m l u rs q k a) in
        subst (λ (w : ℕ). Left w (failed_row n i v k)) (sym e)
        (subst (λ (w : ℕ). Left (cell_reserve L r) (failed_row n i w k)) (sym y.nodes) (left (cell_reserve L r) _ _ y.is f))
