-- The pieces of a split come of the ring and of the diagonals of its cuts (`cut-from`): what the bound on new nodes asks for. The corners of each piece are
-- corners of the ring, and each of its edges is, in either sense, an edge of the ring with its mark or the diagonal of a cut, straight. And no piece has more
-- corners than the ring (`piece-corners`).
use Prim.Native.Nat.{ℕ, zero, suc, ◌+◌, ◌*◌, ◌≤◌, ◌<◌}
use native.Mathlib.Nat.{not-suc-le-zero}
use native.Mathlib.Omega.{arith}
use mathlib.Core.Path.{◌≡◌, refl, sym, ap, ◌∙◌, subst}
use mathlib.Core.Logic.{◌⊎◌, inl, inr}
use mathlib.Core.List.{List, [], ◌∷◌, ◌++◌, map, Memᴰ}
use lib.ListN.{length, get_or, length-map}
use Rattle.laws.specs.All.{All}
use Rattle.laws.proofs.Lists.{all-get, mem_get}
use Rattle.vector.specs.declared.GridPoint.{GridPoint}
use Rattle.vector.specs.Grid.{origin, at}
use Rattle.marks.specs.declared.EdgeMark.TheVariants.{Straight}
use Rattle.marks.specs.Part.{Part, no_part}
use Rattle.limits.specs.declared.Limits.{Limits}
use Rattle.split.specs.Split.{Cut, split_bad_vertices}
use Rattle.cuts.specs.Counts as Counts
use Rattle.cuts.specs.Counts.{Sound}
use Rattle.cuts.specs.Provenance as Provenance
use Rattle.cuts.specs.Provenance.{Side, no_side, sides, SameSide, same, turned, diagonal, diagonals, Among, Cornered}
use Rattle.cuts.proofs.Counts.{counted, three-each}
use Rattle.cuts.proofs.Sides.{diagonal-straight, side-count, side-at}
use Rattle.cuts.proofs.Provenance.{traced}
use Rattle.cells.specs.Stages.{mark_at}
use Rattle.cells.specs.Cover.{SameEnds, CutLine, no_cut_line, EdgeFrom, side, across, CutFrom}

-- ---- the diagonals, each once
abbrev pub ends : Cut → CutLine
ends c = record { a = (diagonal c).a; b = (diagonal c).b }

abbrev pub diagonals_of : List Cut → List CutLine
diagonals_of l = map ends l

-- a side that is the diagonal of a cut of the log
record Across (l : List Cut) (s : Side) : Type 0 where
  pub place : ℕ
  pub low : place < length l
  pub from : s.a ≡ (get_or (diagonals_of l) place no_cut_line).a
  pub to : s.b ≡ (get_or (diagonals_of l) place no_cut_line).b
  pub plain : s.mark ≡ Straight

latest : (c : Cut) (l : List Cut) (s : Side) → s ≡ diagonal c → Across (c ∷ l) s
latest c l s e =
    record {
      place = 0;
      low = omega arith;
      from = ap (λ (s : Side). s.a) e;
      to = ap (λ (s : Side). s.b) e;
      plain = ap (λ (s : Side). s.mark) e ∙ diagonal-straight c;
    }

earlier : (c : Cut) (l : List Cut) (s : Side) → Across l s → Across (c ∷ l) s
earlier c l s h = record { place = suc h.place; low = omega (arith, h.low); from = h.from; to = h.to; plain = h.plain }

source : (l : List Cut) (m : List Side) (s : Side) → Memᴰ s (diagonals l ++ m) → Across l s ⊎ Memᴰ s m
source [] m s h = inr h
source (c ∷ l) m s (Memᴰ.head e) = inl (latest c l s e)
source (c ∷ l) m s (Memᴰ.tail (Memᴰ.head e)) = inl (latest c l s e)
source (c ∷ l) m s (Memᴰ.tail (Memᴰ.tail h)) = more (source l m s h)
  where
    more : Across l s ⊎ Memᴰ s m → Across (c ∷ l) s ⊎ Memᴰ s m
    more (inl a) = inl (earlier c l s a)
    more (inr b) = inr b

-- ---- an edge
alike-ends : (s t : Side) (c d : GridPoint) → SameSide s t → t.a ≡ c → t.b ≡ d → SameEnds s.a s.b c d × (s.mark ≡ t.mark)
alike-ends s t c d same e f = (inl (e, f), refl)
alike-ends s t c d turned e f = (inr (f, e), refl)

-- a side that is alike to one of the ring or to a diagonal of the log
abbrev Known : Part → List Cut → Side → Type 0
Known ring l s = Among (diagonals l ++ sides ring) s

edge-from : (ring : Part) (l : List Cut) (s : Side) → Sound ring → Known ring l s → EdgeFrom ring (diagonals_of l) s.a s.b s.mark
edge-from ring l s g k = go (source l (sides ring) k.like k.source)
  where
    go : Across l k.like ⊎ Memᴰ k.like (sides ring) → EdgeFrom ring (diagonals_of l) s.a s.b s.mark
    go (inl a) =
        let e =
        alike-ends s k.like (get_or (diagonals_of l) a.place no_cut_line).a (get_or (diagonals_of l) a.place no_cut_line).b k.alike a.from a.to in
        across a.place (subst (λ (n : ℕ). a.place < n) (sym (length-map l ends)) a.low) e.0 (e.1 ∙ a.plain)
    go (inr h) =
        let p = mem_get no_side h in
        let low : p.place < length ring.points = subst (λ (n : ℕ). p.place < n) (side-count ring g) p.low in
        let q = p.is ∙ side-at ring g p.place no_side low in
        let e =
        alike-ends s k.like (at ring.points p.place) (at ring.points (suc p.place)) k.alike (ap (λ (s : Side). s.a) q)
        (ap (λ (s : Side). s.b) q) in
        side p.place low e.0 (e.1 ∙ ap (λ (s : Side). s.mark) q)

-- edge j of a piece whose sides are known
piece-edge : (ring p : Part) (l : List Cut) → Sound ring → Sound p → All (Known ring l) (sides p) → (j : ℕ) → j < length p.points
    → EdgeFrom ring (diagonals_of l) (at p.points j) (at p.points (suc j)) (mark_at p j)
piece-edge ring p l g e k j u =
    edge-from ring l (Provenance.side (at p.points j) (at p.points (suc j)) (mark_at p j)) g
    (subst (Known ring l) (side-at p e j no_side u)
    (all-get (Known ring l) (sides p) j no_side k (subst (λ (n : ℕ). j < n) (sym (side-count p e)) u)))

-- ---- the claims
pub cut-from : (L : Limits) (ring : Part) → Sound ring → CutFrom ring (diagonals_of (split_bad_vertices L ring).log) (split_bad_vertices L ring).pieces
cut-from L ring w =
    let l = (split_bad_vertices L ring).log in
    let ps = (split_bad_vertices L ring).pieces in
    let c = counted L ring w in
    let t = traced L ring w in
    record {
      pieces = omega (arith, length-map l ends, c.logged, c.pieces);
      from = λ i u.
          let s = all-get Sound ps i no_part c.sound u in
          let m = all-get (Cornered (λ x. Memᴰ x ring.points)) ps i no_part t.corners u in
          let k = all-get (λ (q : Part). All (Known ring l) (sides q)) ps i no_part t.known u in
          record {
            some = omega (arith, s.three);
            corner =
                λ j v. let q = mem_get origin (all-get (λ x. Memᴰ x ring.points) (get_or ps i no_part).points j origin m v) in (q.place, q.low, q.is);
            edge = λ j v. piece-edge ring (get_or ps i no_part) l w s k j v;
          };
    }

one_of : (ps : List Part) (i : ℕ) → All Sound ps → i < length ps → length (get_or ps i no_part).points + 3 * length ps ≤ Counts.corners ps + 3
one_of [] i h l = absurd (not-suc-le-zero l)
one_of (p ∷ ps) zero h l = omega (arith, three-each ps h.1)
one_of (p ∷ ps) (suc i) h l = omega (arith, h.0.three, one_of ps i h.1 (omega (arith, l)))

pub piece-corners : (L : Limits) (ring : Part) → Sound ring → (i : ℕ) → i < length (split_bad_vertices L ring).pieces
    → length (get_or (split_bad_vertices L ring).pieces i no_part).points ≤ length ring.points
piece-corners L ring w i l = let c = counted L ring w in omega (arith, one_of (split_bad_vertices L ring).pieces i c.sound l, c.corners, c.pieces)
