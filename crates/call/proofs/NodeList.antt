-- What a ring leaves of the node list, accepted or refused, of every entry, for every set of limits and whatever the list held before (`nodes-left_by`).
-- Every node that was used has its number and its bits, and after them come nodes none of whose keys is listed before it; the
-- list keeps its places, and the used count stays among them; at most 2n + c + 2s + 1 nodes are added; and the used nodes are finite and within 1,024 mm if
-- they were before.
use Prim.Native.Nat.{ℕ, suc, ◌+◌, ◌≤◌, ◌<◌}
use native.Mathlib.Nat.{le_refl}
use native.Mathlib.Omega.{arith}
use mathlib.Core.Path.{◌≡◌, refl, sym, ap, ◌∙◌, subst}
use mathlib.Core.List.{List, [], ◌∷◌}
use lib.Dec.{T}
use lib.ListN.{length, get_or, take, drop, length-append, length-drop, length-take, length-map}
use lib.Seq.{take-append_seam}
use Rattle.vector.specs.declared.Point.{Point}
use Rattle.vector.specs.Grid.{at}
use Rattle.vector.specs.Size.{OnSheet}
use Rattle.marks.specs.declared.EdgeMark.{EdgeMark}
use Rattle.marks.specs.declared.EdgeMark.TheVariants.{Straight, Snap}
use Rattle.marks.specs.Part.{Part, no_part, mark_count}
use Rattle.limits.specs.declared.Limits.{Limits}
use Rattle.split.specs.Split.{Stack, split_bad_vertices}
use Rattle.cuts.specs.Counts.{Sound}
use Rattle.cuts.proofs.Counts.{counted}
use Rattle.nodes.specs.Growth.{Grown, Anything, EachNode, InRange}
use Rattle.nodes.proofs.Growth.{grown_refl}
use Rattle.cells.specs.Stages.{mark_at, nodes_of}
use Rattle.cells.specs.Pieces.{Outcome, done, failed}
use Rattle.cells.specs.Claims.{ValidPiece}
use Rattle.cells.specs.Cover.{EdgeFrom, side, across, PieceFrom}
use Rattle.cells.proofs.Attempts.{pieces-any}
use Rattle.cells.proofs.Ranges.{straight≢snap, pieces_in_range}
use Rattle.cells.proofs.Bound.{pieces-most}
use Rattle.table.specs.Refusals.{Refusal, Passes, numbered}
use Rattle.call.specs.Call.{Lists, used_in}
use Rattle.call.specs.Divide.{CallAnswer, put, refused, refused_or, answered, core}
use Rattle.call.specs.Demand.{Prepared, pieces_of, log_of}
use Rattle.call.specs.LentCalls.{allowance}
use Rattle.call.proofs.Course.{outcome_of, Divisible, Course, away, ran, course}
use Rattle.call.proofs.PiecesFrom.{ends, diagonals_of, cut-from, piece-corners}

marks-most : (es : List EdgeMark) → mark_count es ≤ length es
marks-most [] = le_refl 0
marks-most (Straight ∷ es) = omega (arith, marks-most es)
marks-most (Snap p ∷ es) = omega (arith, marks-most es)

-- ---- the pieces of a ring that is not turned away
module _ (L : Limits) (r : ℕ) (p : Part) (x : Lists) (s : Divisible L r p x) where
  abbrev h : Prepared L r p x
  h = s.prepared

  pub sound : Sound p
  sound = record { three = s.whole.three; edged = h.edged }

  pub valid : (i : ℕ) → i < length (pieces_of L p) → ValidPiece (get_or (pieces_of L p) i no_part)
  valid i l =
      record {
        some = f.some;
        few = omega (arith, piece-corners L p sound i l, h.fewer, h.few);
        corner = λ k u. let q = f.corner k u in subst OnSheet (sym q.2) (h.sheet q.0);
        snap = λ k q u e. edge k (f.edge k u) q e;
      }
    where
      part : Part
      part = get_or (pieces_of L p) i no_part

      f : PieceFrom p (diagonals_of (log_of L p)) part
      f = (cut-from L p sound).from i l

      edge : (k : ℕ) → EdgeFrom p (diagonals_of (log_of L p)) (at part.points k) (at part.points (suc k)) (mark_at part k) → (q : Point)
          → mark_at part k ≡ Snap q → InRange q
      edge k (side j b e m) q u = h.snaps j q (sym m ∙ u)
      edge k (across j b e m) q u = absurd (straight≢snap q (sym m ∙ u))

  added : length (nodes_of (outcome_of L p x)) ≤ length (used_in x) + allowance L p
  added =
      omega (
        arith,
        pieces-most L.share p (diagonals_of (log_of L p)) (pieces_of L p) (used_in x) (cut-from L p sound),
        length-map (log_of L p) ends,
        (counted L p sound).logged,
      )

  -- the reserve that the entry asks for suffices
  pub fits : length (nodes_of (outcome_of L p x)) ≤ length x.nodes
  fits =
      let k = counted L p sound in
      omega (
        arith,
        added,
        k.most,
        k.few,
        h.ready.nodes_free,
        h.ready.listed,
        h.fewer,
        length-take x.node_count_of x.nodes,
        marks-most p.edges,
        h.edged,
      )

-- ---- the claim
abbrev pub used_after : CallAnswer → List Point
used_after a = take a.row.nodes a.nodes

pub record NodesLeft (L : Limits) (p : Part) (x : Lists) (a : CallAnswer) : Type 0 where
  pub grown : Grown Anything (used_in x) (used_after a)
  pub places : length a.nodes ≡ length x.nodes
  pub fits : x.node_count_of ≤ length x.nodes → a.row.nodes ≤ length a.nodes
  pub adds : a.row.nodes ≤ x.node_count_of + allowance L p
  pub ranged : EachNode InRange (used_in x) → EachNode InRange (used_after a)

-- nodes put over the first places are the used ones
used-put : (l ns : List Point) → take (length ns) (put l 0 ns) ≡ ns
used-put l ns = take-append_seam ns (drop (0 + length ns) l)

put-length : (l ns : List Point) → length ns ≤ length l → length (put l 0 ns) ≡ length l
put-length l ns h = omega (arith, length-append ns (drop (0 + length ns) l), length-drop (0 + length ns) l)

answered-nodes : (L : Limits) (r : ℕ) (p : Part) (x : Lists) (s : Stack) (o : Outcome)
    → ((answered L r p x s o).row.nodes ≡ length (nodes_of o)) × ((answered L r p x s o).nodes ≡ put x.nodes 0 (nodes_of o))
unfolding answered
answered-nodes L r p x s (done ns cs) = (refl, refl)
answered-nodes L r p x s (failed ns n k) = (refl, refl)

refused-left : (L : Limits) (p : Part) (x : Lists) (n : ℕ) → NodesLeft L p x (refused x n)
unfolding refused
refused-left L p x n = record { grown = grown_refl (used_in x); places = refl; fits = λ h. h; adds = omega arith; ranged = λ h. h }

module _ (L : Limits) (r : ℕ) (p : Part) (x : Lists) where
  answered-left : Divisible L r p x → NodesLeft L p x (answered L r p x (split_bad_vertices L p) (outcome_of L p x))
  answered-left s =
      let ns = nodes_of (outcome_of L p x) in
      let e = answered-nodes L r p x (split_bad_vertices L p) (outcome_of L p x) in
      let k = fits L r p x s in
      let keeps = put-length x.nodes ns k in
      let used : used_after (answered L r p x (split_bad_vertices L p) (outcome_of L p x)) ≡ ns = rw (e.0, e.1) (used-put x.nodes ns) in
      record {
        grown = rw used (pieces-any L.share (pieces_of L p) (used_in x) (length (pieces_of L p)));
        places = ap length e.1 ∙ keeps;
        fits = λ h. omega (arith, e.0, ap length e.1, keeps, k);
        adds = omega (arith, e.0, added L r p x s, length-take x.node_count_of x.nodes);
        ranged = λ h. rw used (pieces_in_range L.share (pieces_of L p) (used_in x) (length (pieces_of L p)) (valid L r p x s) h);
      }

  -- of any entry
  pub nodes-left_by : (rs : List Refusal) → T (numbered rs) → (Passes rs → Prepared L r p x) → NodesLeft L p x (refused_or x rs (core L r p x))
  nodes-left_by rs n h = go (course L r p x rs n h)
    where
      a : CallAnswer
      a = refused_or x rs (core L r p x)

      go : Course L r p x a → NodesLeft L p x a
      go (away n t e) = subst (NodesLeft L p x) (sym e) (refused-left L p x n)
      go (ran s e) = subst (NodesLeft L p x) (sym e) (answered-left s)
