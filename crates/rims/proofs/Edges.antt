-- THEOREM `labelled`. A ring of three corners or more with each of its edges marked is split into the same pieces as the ring itself. There an edge of a
-- piece is marked exactly if it is one of the ring's: a marked one joins, in one sense or the other, two neighbours of the ring; one that is not is the
-- diagonal of a cut, and straight in the piece itself.
use Prim.Native.Nat.{ℕ, zero, suc, ◌<◌}
use native.Mathlib.Omega.{arith}
use mathlib.Core.Path.{◌≡◌, refl, sym, ap, ◌∙◌, subst}
use mathlib.Core.Bool.{Bool, true, false}
use mathlib.Core.List.{List, [], ◌∷◌, map, Memᴰ}
use lib.ListN.{length, get_or, length-map}
use Rattle.vector.specs.declared.GridPoint.{GridPoint}
use Rattle.vector.specs.Grid.{at}
use Rattle.marks.specs.declared.EdgeMark.{EdgeMark}
use Rattle.marks.specs.declared.EdgeMark.TheVariants.{Straight}
use Rattle.marks.specs.Part.{Part, no_part}
use Rattle.limits.specs.declared.Limits.{Limits}
use Rattle.split.specs.Split.{Cut, split_bad_vertices}
use Rattle.cuts.specs.Counts.{Sound}
use Rattle.cuts.specs.Provenance.{Side, diagonal}
use Rattle.cells.specs.Stages.{mark_at}
use Rattle.cells.specs.Cover.{SameEnds, CutLine, no_cut_line, EdgeFrom, side, across}
use Rattle.call.proofs.PiecesFrom.{diagonals_of, cut-from}
use Rattle.cells.specs.Asks.{label, all_marked, is_marked, of_ring}
use Rattle.rims.specs.Edges as Edges
use Rattle.rims.specs.Edges.{Source, piece_of, labels_of, Labelled}
use Rattle.rims.proofs.Twins.{Both, both-length, both_at, Twin, Across, Twins, twins}

-- an edge that is not marked is straight
abbrev Plain : EdgeMark → EdgeMark → Type 0
Plain m e = is_marked m ≡ false → e ≡ Straight

all_plain : (es : List EdgeMark) → Both Plain (map (λ (e : EdgeMark). label) es) es
all_plain [] = tt
all_plain (e ∷ es) = ((λ u. let z : ◌≡◌ {A = ℕ} 0 1 = cc in absurd (omega arith)), all_plain es)

-- each edge of the ring is marked
ring-marked : (es : List EdgeMark) (k : ℕ) → k < length es → is_marked (get_or (map (λ (e : EdgeMark). label) es) k Straight) ≡ true
ring-marked [] k h = absurd (omega (arith, h))
ring-marked (e ∷ es) zero h = refl
ring-marked (e ∷ es) (suc k) h = ring-marked es k (omega (arith, h))

-- a cut of one log with the diagonal of a cut of the other
record Cutting (l : List Cut) (d : CutLine) : Type 0 where
  pub c : Cut
  pub one : Memᴰ c l
  pub a : (diagonal c).a ≡ d.a
  pub b : (diagonal c).b ≡ d.b

cutting : (R : EdgeMark → EdgeMark → Type 0) (l m : List Cut) → Both (Across R) l m → (j : ℕ) → j < length (diagonals_of l)
    → Cutting m (get_or (diagonals_of l) j no_cut_line)
cutting R [] [] h j k = absurd (omega (arith, k))
cutting R [] (d ∷ m) h j k = absurd h
cutting R (c ∷ l) [] h j k = absurd h
cutting R (c ∷ l) (d ∷ m) h zero k =
    record { c = d; one = Memᴰ.head refl; a = sym (ap (λ (s : Side). s.a) h.0); b = sym (ap (λ (s : Side). s.b) h.0) }
cutting R (c ∷ l) (d ∷ m) h (suc j) k =
    let w = cutting R l m h.1 j (omega (arith, k)) in
    record { c = w.c; one = Memᴰ.tail w.one; a = w.a; b = w.b }

-- as many cuts: whatever the ring
unmarked : (es : List EdgeMark) → Both (λ (m : EdgeMark) (e : EdgeMark). Unit {0}) (map (λ (e : EdgeMark). label) es) es
unmarked [] = tt
unmarked (e ∷ es) = (tt, unmarked es)

pub marked-cuts : (L : Limits) (ring : Part) → (split_bad_vertices L (all_marked ring)).cuts ≡ (split_bad_vertices L ring).cuts
unfolding all_marked
marked-cuts L ring =
    (twins (λ (m : EdgeMark) (e : EdgeMark). Unit {0}) tt L (all_marked ring) ring (record { points = refl; edges = unmarked ring.edges })).cuts

module _ (L : Limits) (ring : Part) (s : Sound ring) where
  marked-points : (all_marked ring).points ≡ ring.points
  unfolding all_marked
  marked-points = refl

  marked-edges : (all_marked ring).edges ≡ map (λ (e : EdgeMark). label) ring.edges
  unfolding all_marked
  marked-edges = refl

  sound : Sound (all_marked ring)
  unfolding all_marked
  sound = record { three = s.three; edged = length-map ring.edges (λ (e : EdgeMark). label) ∙ s.edged }

  twin : Twins Plain (split_bad_vertices L (all_marked ring)) (split_bad_vertices L ring)
  twin = twins Plain (λ u. refl) L (all_marked ring) ring (unfold all_marked in record { points = refl; edges = all_plain ring.edges })

  pair : (i : ℕ) → Twin Plain (labels_of L ring i) (piece_of L ring i)
  pair i =
      both_at (Twin Plain) (split_bad_vertices L (all_marked ring)).pieces (split_bad_vertices L ring).pieces i no_part twin.pieces
      (record { points = refl; edges = tt })

  many : length (split_bad_vertices L (all_marked ring)).pieces ≡ length (split_bad_vertices L ring).pieces
  many = both-length (Twin Plain) (split_bad_vertices L (all_marked ring)).pieces (split_bad_vertices L ring).pieces twin.pieces

  plain : (i k : ℕ) → of_ring (labels_of L ring i) k ≡ false → mark_at (piece_of L ring i) k ≡ Straight
  plain i k = both_at Plain (labels_of L ring i).edges (piece_of L ring i).edges k Straight (pair i).edges (λ u. refl)

  ring-is : (j : ℕ) → j < length ring.points → is_marked (mark_at (all_marked ring) j) ≡ true
  ring-is j h = ap (λ (es : List EdgeMark). is_marked (get_or es j Straight)) marked-edges ∙ ring-marked ring.edges j (omega (arith, h, s.edged))

  -- by the label b
  told : (i k : ℕ) (p q : GridPoint) (b : Bool) → of_ring (labels_of L ring i) k ≡ b
      → EdgeFrom (all_marked ring) (diagonals_of (split_bad_vertices L (all_marked ring)).log) p q (mark_at (labels_of L ring i) k)
      → Source ring (split_bad_vertices L ring).log p q (mark_at (piece_of L ring i) k) b
  told i k p q true e (side j h u m) =
      Edges.side j (subst (λ (r : List GridPoint). j < length r) marked-points h)
      (subst (λ (r : List GridPoint). SameEnds p q (at r j) (at r (suc j))) marked-points u)
  told i k p q false e (side j h u m) =
      let z : true ≡ false = sym (ring-is j (subst (λ (r : List GridPoint). j < length r) marked-points h)) ∙ ap is_marked (sym m) ∙ e in
      let y : ◌≡◌ {A = ℕ} 0 1 = cc in
      absurd (omega arith)
  told i k p q true e (across j h u m) =
      let z : false ≡ true = ap is_marked (sym m) ∙ e in
      let y : ◌≡◌ {A = ℕ} 0 1 = cc in
      absurd (omega arith)
  told i k p q false e (across j h u m) =
      let w = cutting Plain (split_bad_vertices L (all_marked ring)).log (split_bad_vertices L ring).log twin.log j h in
      Edges.across w.c w.one
      (subst (λ (x : GridPoint). SameEnds p q x (diagonal w.c).b) (sym w.a)
      (subst (λ (x : GridPoint). SameEnds p q (get_or (diagonals_of (split_bad_vertices L (all_marked ring)).log) j no_cut_line).a x) (sym w.b) u))
      (plain i k e)

  pub labelled : Labelled L ring
  labelled =
      record {
        many = many;
        points = λ i. (pair i).points;
        from = λ i k h l.
            let p = (pair i).points in
            let f = (cut-from L (all_marked ring) sound).from i (omega (arith, h, many)) in
            told i k (at (piece_of L ring i).points k) (at (piece_of L ring i).points (suc k)) (of_ring (labels_of L ring i) k) refl
            (subst (λ (r : List GridPoint). EdgeFrom (all_marked ring) (diagonals_of (split_bad_vertices L (all_marked ring)).log) (at r k) (at r (suc k))
            (mark_at (labels_of L ring i) k)) p
            (f.edge k (omega (arith, l, ap length p))));
      }
