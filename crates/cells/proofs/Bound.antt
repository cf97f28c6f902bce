-- At most 2n + c + 2s + 1 nodes are added. Take a ring of n corners with c marked edges, s diagonals, and at most s + 1
-- pieces whose corners are corners of the ring and whose edges are, in either sense, edges of the ring with their marks or
-- diagonals, straight. Then the pieces one after the other add at most 2n + c + 2s + 1 nodes, whatever the list held
-- before, and also where a piece fails.
--
-- Why: a listed corner keeps its node, a straight middle is the same from either end, and both attempts at a piece have
-- one centre. So every point that is added has the key of one of n corners, n middles of ring edges, c snap points, s
-- middles of diagonals and s + 1 centres, all taken from the list as it is at the end (`cover`); and no two added nodes
-- share a key.
use Prim.Native.Nat.{ℕ, zero, suc, ◌+◌, ◌-◌, ◌*◌, ◌≤◌, ◌<◌}
use native.Mathlib.Omega.{arith}
use mathlib.Core.Path.{◌≡◌, refl, sym, ap, ap₂, ◌∙◌, subst, fun_ext}
use mathlib.Core.Logic.{inl, inr}
use mathlib.Core.List.{List, [], ◌∷◌, ◌++◌}
use lib.ListN.{length, get_or, length-append}
use lib.Ieee.{Float}
use Rattle.laws.specs.Table.{tab}
use Rattle.laws.proofs.Table.{length_tab}
use Rattle.vector.specs.declared.GridPoint.{GridPoint}
use Rattle.vector.specs.declared.Point.{Point}
use Rattle.vector.specs.Grid.{origin, at}
use Rattle.vector.specs.Plane.{in_mm}
use Rattle.marks.specs.declared.EdgeMark.{EdgeMark}
use Rattle.marks.specs.declared.EdgeMark.TheVariants.{Straight, Snap}
use Rattle.marks.specs.Part.{Part, no_part, mark_count}
use Rattle.nodes.specs.Growth.{Grown, Anything, HasKeyOf, node_for}
use Rattle.nodes.proofs.SameKey.{≈-of}
use Rattle.nodes.proofs.Growth.{grown_trans}
use Rattle.nodes.proofs.Counting.{added-most, has_left, has_right, has_tab}
use Rattle.quads.specs.declared.Cell.{Cell}
use Rattle.quads.specs.Quads.{middle, mean}
use Rattle.cells.specs.Cells.{attempt, subdivide}
use Rattle.cells.specs.Pieces.{Outcome, done, onward, pieces_to}
use Rattle.cells.specs.Stages.{corners, end, mark_at, straight, first_nodes, second_nodes, nodes_of}
use Rattle.cells.specs.Cover.{SameEnds, CutLine, no_cut_line, EdgeFrom, side, across, PieceFrom, CutFrom}
use Rattle.cells.proofs.Attempts.{Adds, middles-grown, attempt-grown, attempt-any, subdivide_by, onward-done, pieces-grown, pieces-later, ends-later}
use Rattle.cells.proofs.Middles.{middle_comm}
use Rattle.cells.proofs.Ranges.{edge_by, straight≢snap}

-- ---- the points that marked edges snap to
abbrev snaps : List EdgeMark → List Point
snaps [] = []
snaps (Straight ∷ es) = snaps es
snaps (Snap q ∷ es) = q ∷ snaps es

snaps-count : (es : List EdgeMark) → length (snaps es) ≡ mark_count es
snaps-count [] = refl
snaps-count (Straight ∷ es) = snaps-count es
snaps-count (Snap q ∷ es) = ap suc (snaps-count es)

has-snap : (es : List EdgeMark) (j : ℕ) (q : Point) → get_or es j Straight ≡ Snap q → HasKeyOf (snaps es) q
has-snap [] j q e = absurd (straight≢snap q e)
has-snap (Straight ∷ es) zero q e = absurd (straight≢snap q e)
has-snap (Snap p ∷ es) zero q e = record { place = 0; low = omega arith; like = ≈-of (cc) }
has-snap (Straight ∷ es) (suc j) q e = has-snap es j q e
has-snap (Snap p ∷ es) (suc j) q e = has_right (p ∷ []) (snaps es) q (has-snap es j q e)

-- ---- the straight middle of an edge, from its ends as they are listed in ms
abbrev pub middle_in : List Point → GridPoint → GridPoint → Point
middle_in ms a b = middle (node_for ms (in_mm a)) (node_for ms (in_mm b))

middle-ends : (ms : List Point) (a b c d : GridPoint) → SameEnds a b c d → middle_in ms a b ≡ middle_in ms c d
middle-ends ms a b c d (inl e) = ap₂ (middle_in ms) e.0 e.1
middle-ends ms a b c d (inr e) = ap₂ (middle_in ms) e.0 e.1 ∙ middle_comm (node_for ms (in_mm d)) (node_for ms (in_mm c))

-- ---- the points that cover what the pieces add
module _ (share : Float) (ring : Part) (ds : List CutLine) (ps : List Part) (ms : List Point) where
  abbrev corner_list : List Point
  corner_list = tab (λ i. in_mm (get_or ring.points i origin)) (length ring.points)

  abbrev side_list : List Point
  side_list = tab (λ i. middle_in ms (at ring.points i) (at ring.points (suc i))) (length ring.points)

  abbrev across_list : List Point
  across_list = tab (λ i. middle_in ms (get_or ds i no_cut_line).a (get_or ds i no_cut_line).b) (length ds)

  abbrev centre_in : List GridPoint → Point
  centre_in p = mean (λ k. node_for ms (in_mm (at p k))) (length p)

  abbrev centre_list : List Point
  centre_list = tab (λ i. centre_in (get_or ps i no_part).points) (length ps)

  abbrev cover : List Point
  cover = corner_list ++ (side_list ++ (snaps ring.edges ++ (across_list ++ centre_list)))

  length-cover : length cover ≡ 2 * length ring.points + mark_count ring.edges + length ds + length ps
  length-cover =
      omega (
        arith,
        length-append corner_list (side_list ++ (snaps ring.edges ++ (across_list ++ centre_list))),
        length-append side_list (snaps ring.edges ++ (across_list ++ centre_list)),
        length-append (snaps ring.edges) (across_list ++ centre_list),
        length-append across_list centre_list,
        length_tab (λ i. in_mm (get_or ring.points i origin)) (length ring.points),
        length_tab (λ i. middle_in ms (at ring.points i) (at ring.points (suc i))) (length ring.points),
        length_tab (λ i. middle_in ms (get_or ds i no_cut_line).a (get_or ds i no_cut_line).b) (length ds),
        length_tab (λ i. centre_in (get_or ps i no_part).points) (length ps),
        snaps-count ring.edges,
      )

  -- past the corners, past the sides, past the snap points
  past-corners : (q : Point) → HasKeyOf (side_list ++ (snaps ring.edges ++ (across_list ++ centre_list))) q → HasKeyOf cover q
  past-corners q h = has_right corner_list (side_list ++ (snaps ring.edges ++ (across_list ++ centre_list))) q h

  past-sides : (q : Point) → HasKeyOf (snaps ring.edges ++ (across_list ++ centre_list)) q → HasKeyOf cover q
  past-sides q h = past-corners q (has_right side_list (snaps ring.edges ++ (across_list ++ centre_list)) q h)

  past-snaps : (q : Point) → HasKeyOf (across_list ++ centre_list) q → HasKeyOf cover q
  past-snaps q h = past-sides q (has_right (snaps ring.edges) (across_list ++ centre_list) q h)

  has-corner : (j : ℕ) → j < length ring.points → HasKeyOf cover (in_mm (get_or ring.points j origin))
  has-corner j h =
      has_left corner_list (side_list ++ (snaps ring.edges ++ (across_list ++ centre_list))) _
      (has_tab (λ i. in_mm (get_or ring.points i origin)) (length ring.points) j h)

  has-side : (j : ℕ) → j < length ring.points → HasKeyOf cover (middle_in ms (at ring.points j) (at ring.points (suc j)))
  has-side j h =
      past-corners _
      (has_left side_list (snaps ring.edges ++ (across_list ++ centre_list)) _
      (has_tab (λ i. middle_in ms (at ring.points i) (at ring.points (suc i))) (length ring.points) j h))

  has-mark : (j : ℕ) (q : Point) → mark_at ring j ≡ Snap q → HasKeyOf cover q
  has-mark j q e = past-sides q (has_left (snaps ring.edges) (across_list ++ centre_list) q (has-snap ring.edges j q e))

  has-across : (j : ℕ) → j < length ds → HasKeyOf cover (middle_in ms (get_or ds j no_cut_line).a (get_or ds j no_cut_line).b)
  has-across j h =
      past-snaps _ (has_left across_list centre_list _ (has_tab (λ i. middle_in ms (get_or ds i no_cut_line).a (get_or ds i no_cut_line).b) (length ds) j h))

  has-centre : (j : ℕ) → j < length ps → HasKeyOf cover (centre_in (get_or ps j no_part).points)
  has-centre j h = past-snaps _ (has_right across_list centre_list _ (has_tab (λ i. centre_in (get_or ps i no_part).points) (length ps) j h))

  -- an edge's straight middle, and the point that it snaps to
  edge-middle : (a b : GridPoint) (e : EdgeMark) → EdgeFrom ring ds a b e → HasKeyOf cover (middle_in ms a b)
  edge-middle a b e (side j h u m) = subst (HasKeyOf cover) (sym (middle-ends ms a b (at ring.points j) (at ring.points (suc j)) u)) (has-side j h)
  edge-middle a b e (across j h u m) =
      subst (HasKeyOf cover) (sym (middle-ends ms a b (get_or ds j no_cut_line).a (get_or ds j no_cut_line).b u)) (has-across j h)

  edge-snap : (a b : GridPoint) (e : EdgeMark) (q : Point) → EdgeFrom ring ds a b e → e ≡ Snap q → HasKeyOf cover q
  edge-snap a b e q (side j h u m) k = has-mark j q (sym m ∙ k)
  edge-snap a b e q (across j h u m) k = absurd (straight≢snap q (sym m ∙ k))

  -- what an attempt at piece i adds, where a mark of e is one of the piece's
  adds : (i : ℕ) (e : ℕ → EdgeMark) → i < length ps → PieceFrom ring ds (get_or ps i no_part)
      → ((k : ℕ) (q : Point) → e k ≡ Snap q → mark_at (get_or ps i no_part) k ≡ Snap q)
      → Adds share (HasKeyOf cover) (get_or ps i no_part).points e (λ k. node_for ms (in_mm (at (get_or ps i no_part).points k)))
  adds i e h f m =
      record {
        corner = λ k l. let c = f.corner k l in subst (λ (q : GridPoint). HasKeyOf cover (in_mm q)) (sym c.2) (has-corner c.0 c.1);
        middle = λ k l.
            edge_by share (HasKeyOf cover) (e k) (node_for ms (in_mm (at p.points k))) (node_for ms (in_mm (at p.points (suc k))))
            (edge-middle (at p.points k) (at p.points (suc k)) (mark_at p k) (f.edge k l))
            (λ q u. edge-snap (at p.points k) (at p.points (suc k)) (mark_at p k) q (f.edge k l) (m k q u));
        centre = has-centre i h;
      }
    where
      p : Part
      p = get_or ps i no_part

-- ---- an attempt and a piece, seen from a later list
module _ (share : Float) {P : Point → Type 0} where
  attempt-later : (ns ms : List Point) (ps : List GridPoint) (e : ℕ → EdgeMark) → 0 < length ps → Grown Anything (attempt share ns ps e).nodes ms
      → Adds share P ps e (λ k. node_for ms (in_mm (at ps k)))
      → Grown P ns (attempt share ns ps e).nodes
  attempt-later ns ms ps e h g f = attempt-grown share ns ps e (subst (Adds share P ps e) (sym same) f)
    where
      on : Grown Anything (corners ns ps).nodes ms
      on = grown_trans (middles-grown share {P = Anything} ns ps e (λ i l. tt) tt) g

      same : end ns ps ≡ (λ k. node_for ms (in_mm (at ps k)))
      same = unfold at in fun_ext (λ k. ends-later ns ms ps h on k)

  subdivide-later : (ns ms : List Point) (p : Part) → 0 < length p.points → Grown Anything (subdivide share ns p).nodes ms
      → Adds share P p.points (mark_at p) (λ k. node_for ms (in_mm (at p.points k)))
      → Adds share P p.points straight (λ k. node_for ms (in_mm (at p.points k)))
      → Grown P ns (subdivide share ns p).nodes
  subdivide-later ns ms p h g a b = subdivide_by share (λ (l : List Point). Grown Anything l ms → Grown P ns l) ns p once twice g
    where
      once : Grown Anything (first_nodes share ns p) ms → Grown P ns (first_nodes share ns p)
      once g = attempt-later ns ms p.points (mark_at p) h g a

      twice : Grown Anything (second_nodes share ns p) ms → Grown P ns (second_nodes share ns p)
      twice g =
          grown_trans (once (grown_trans (attempt-any share (first_nodes share ns p) p.points straight) g))
          (attempt-later (first_nodes share ns p) ms p.points straight h g b)

-- ---- all pieces
module _ (share : Float) (ring : Part) (ds : List CutLine) (ps : List Part) (ns : List Point) (f : CutFrom ring ds ps) where
  abbrev left : List Point
  left = nodes_of (pieces_to share ps ns (length ps))

  next : (i : ℕ) (ms : List Point) (cs : List Cell) → pieces_to share ps ns i ≡ done ms cs
      → nodes_of (pieces_to share ps ns (suc i)) ≡ (subdivide share ms (get_or ps i no_part)).nodes
  next i ms cs e = unfold pieces_to in (ap (λ (o : Outcome). nodes_of (onward share o (get_or ps i no_part))) e ∙ onward-done share ms cs (get_or ps i no_part))

  on : (i : ℕ) → i < length ps → (ms : List Point) (cs : List Cell) → pieces_to share ps ns i ≡ done ms cs
      → Grown Anything (subdivide share ms (get_or ps i no_part)).nodes left
  on i h ms cs e =
      let d : length ps - suc i + suc i ≡ length ps = omega arith in
      subst (λ (l : List Point). Grown Anything l left) (next i ms cs e)
      (subst (λ (n : ℕ). Grown Anything (nodes_of (pieces_to share ps ns (suc i))) (nodes_of (pieces_to share ps ns n))) d
      (pieces-later share ps ns (suc i) (length ps - suc i)))

  pub pieces_covered : Grown (HasKeyOf (cover share ring ds ps left)) ns left
  pieces_covered =
      pieces-grown share ps ns (length ps) (λ i h ms cs e.
      subdivide-later share ms left (get_or ps i no_part) (f.from i h).some (on i h ms cs e)
      (adds share ring ds ps left i (mark_at (get_or ps i no_part)) h (f.from i h) (λ k q u. u))
      (adds share ring ds ps left i straight h (f.from i h) (λ k q u. absurd (straight≢snap q u))))

  pub pieces-most : length (nodes_of (pieces_to share ps ns (length ps))) ≤ length ns + (2 * length ring.points + mark_count ring.edges + 2 * length ds + 1)
  pieces-most = omega (arith, added-most (cover share ring ds ps left) ns left pieces_covered, length-cover share ring ds ps left, f.pieces)
