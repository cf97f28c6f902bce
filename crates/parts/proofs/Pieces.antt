-- The pieces that the code holds, one by one: their size, points and marks.
use Prim.Native.Nat.{ℕ, suc, ◌+◌, ◌-◌, ◌%◌, ◌≤◌, ◌<◌}
use native.Mathlib.Numerals.{add-one}
use native.Mathlib.Omega.{arith}
use mathlib.Core.Path.{◌≡◌, sym, ap, ◌∙◌}
use mathlib.Core.List.{List}
use denote.Ref.{Bor}
use Rattle.std.proofs.Common.{Option, Some, None}
use Rattle.std.specs.Option.{unwrap_or, option_copied}
use Rattle.std.specs.Slice.{IsItemAt}
use lib.ListN.{get_or-eq_default, length, get_or, take, drop, length-drop}
use lib.Seq.{get_or-take, get_or-drop, length-take-le}
use Rattle.std.proofs.lemmas.List.{get_or_default}
use Rattle.laws.specs.Table.{tab}
use Rattle.laws.proofs.Table.{length_tab, get_d_tab, is_tab, tab_ext}
use Rattle.vector.specs.declared.GridPoint.{GridPoint}
use Rattle.vector.specs.Grid.{origin}
use Rattle.marks.specs.declared.EdgeMark.{EdgeMark}
use Rattle.marks.specs.declared.EdgeMark.TheVariants.{Straight}
use Rattle.marks.specs.Part.{Part, no_part}
use Rattle.parts.specs.declared.list.Vertex.{Vertex}
use Rattle.parts.specs.declared.list.PartList.{PartList}
use Rattle.parts.specs.Vertices.{no_vertex, vertex, corner_point, edge_at}
use Rattle.parts.specs.Layout.{end, size, nth}
use Rattle.parts.specs.Pieces.{piece_in}
use Rattle.parts.proofs.Stored.{rises, kept_rises}
use Rattle.parts.proofs.Segments.{from_first}
use Rattle.parts.specs.Layout.{corners_of}

-- corners cut out of a list
pub corners-cut : (vs : List Vertex) (a k : ℕ) → a + k ≤ length vs → take k (drop a vs) ≡ tab (λ i. vertex vs (a + i)) k
corners-cut vs a k h =
    is_tab (take k (drop a vs)) (λ i. vertex vs (a + i)) k no_vertex (length-take-le k (drop a vs) (omega (arith, length-drop a vs)))
    (λ i l. get_or-take k (drop a vs) i no_vertex l ∙ get_or-drop a vs i no_vertex)

module _ (p : PartList) (i : ℕ) (l : i < p.count) where
  pub piece-nth : (ring : List GridPoint) (es : List EdgeMark) → piece_in ring es p i ≡ nth ring es p i
  piece-nth ring es = get_d_tab (nth ring es p) p.count i no_part l

  -- where the piece stands, as the code reads it
  pub placed : (end p i + 3 ≤ end p (i + 1)) × (end p (i + 1) ≤ end p i + 60) × (end p (i + 1) ≤ 124) × (end p (i + 1) - end p i ≡ size p i)
  placed =
      let f = ap (end p) (sym (add-one i)) in
      let s = p.step i l in
      let t = rises p p.count (kept_rises p) (p.count - suc i) (suc i) (omega arith) in
      (omega (arith, f, s.0), omega (arith, f, s.1), omega (arith, f, t, p.fits), ap (λ (e : ℕ). e - end p i) (sym f))

-- ---- marks
-- what the code reads of a corner's edge
pub mark-read : (marks : List EdgeMark) (k : ℕ) (r : Option (Bor EdgeMark))
    → IsItemAt marks k r → unwrap_or (option_copied r) Straight ≡ get_or marks k Straight
mark-read marks k None h = sym (get_or-eq_default marks Straight h.3)
mark-read marks k (Some x) h = h.1 ∙ get_or_default marks k x.now Straight h.3.0

pub marks_are : (p : PartList) (i : ℕ) → i < p.count → (marks out : List EdgeMark)
    → take (size p i) out ≡ tab (λ j. edge_at marks p.corners (end p i + j)) (size p i) → (ring : List GridPoint)
    → take (size p i) out ≡ (piece_in ring marks p i).edges
marks_are p i l marks out e ring = e ∙ sym (ap (λ (q : Part). q.edges) (piece-nth p i l ring marks))

pub points_are : (p : PartList) (i : ℕ) → i < p.count → (ring : List GridPoint) (es : List EdgeMark)
    → tab (λ j. corner_point ring p.corners (end p i + j)) (size p i) ≡ (piece_in ring es p i).points
points_are p i l ring es = sym (ap (λ (q : Part). q.points) (piece-nth p i l ring es))

-- the points of a part's corners are those of the piece
pub part-points : (p : PartList) (i : ℕ) → i < p.count → (vs : List Vertex) → vs ≡ corners_of p i → (ring : List GridPoint) (es : List EdgeMark)
    → tab (λ k. corner_point ring vs ((0 + k) % length vs)) (length vs) ≡ (piece_in ring es p i).points
part-points p i l vs e ring es =
    let f : ℕ → Vertex = (λ j. vertex p.corners (end p i + j)) in
    let n : length vs ≡ size p i = ap length e ∙ length_tab f (size p i) in
    from_first ring vs (length vs)
    ∙ tab_ext (corner_point ring vs) (λ j. corner_point ring p.corners (end p i + j)) (length vs)
    (λ j h. ap (λ (v : Vertex). get_or ring v.at origin)
    (ap (λ (l : List Vertex). vertex l j) e ∙ get_d_tab f (size p i) j no_vertex (omega (arith, n))))
    ∙ ap (tab (λ j. corner_point ring p.corners (end p i + j))) n
    ∙ points_are p i l ring es
