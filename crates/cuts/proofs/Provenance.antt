-- THEOREM `traced`. For every set of limits, of a ring of 3 corners or more that is split:
--   the parts that were cut and the pieces are, each once, the ring and the parts that the cuts made;
--   each corner of each piece, and of each part that was cut, is a corner of the ring;
--   the sides of all pieces are, each once and in one sense or the other, the sides of the ring with their marks and the diagonal of each cut twice, straight;
--   so was each side of a part that was cut, of the cuts before it;
--   a cut deals the sides of its part to the two parts that it makes, and each gets the diagonal besides.
-- THEOREM `followed`. The diagonal of each cut, through all later cuts of the two parts beside it, ends as a side of two pieces, one that comes of either;
-- they stand in two places.
use mathlib.Core.Path.{◌≡◌, subst}
use mathlib.Core.List.{List, [], ◌∷◌, ◌++◌, Memᴰ}
use Rattle.laws.specs.All.{All}
use Rattle.laws.proofs.Lists.{all_left, all_right, all_own}
use Rattle.marks.specs.Part.{Part}
use Rattle.limits.specs.declared.Limits.{Limits}
use Rattle.split.specs.Split.{split_bad_vertices}
use Rattle.cuts.specs.Counts.{Sound}
use Rattle.cuts.specs.Provenance.{Side, sides, all_sides, diagonals, made, spent_parts, SameSide, Match, Among, FromRingAndCuts, Beside, Followed}
use Rattle.cuts.proofs.Machine.{emptied}
use Rattle.cuts.proofs.Corners.{corners_hold}
use Rattle.cuts.proofs.Match.{among_match}
use Rattle.cuts.proofs.Tracing.{tracing}
use Rattle.cuts.proofs.Lineage.{following}

-- what holds of each side of some parts, part by part
by_part : (P : Side → Type 0) (ps : List Part) → All P (all_sides ps) → All (λ p. All P (sides p)) ps
by_part P [] h = tt
by_part P (p ∷ ps) h = (all_left P (sides p) (all_sides ps) h, by_part P ps (all_right P (sides p) (all_sides ps) h))

-- ---- the theorems
pub traced : (L : Limits) (ring : Part) → Sound ring → FromRingAndCuts ring (split_bad_vertices L ring)
traced L ring s =
    let i = tracing L ring s in
    let e = emptied L ring in
    let o = (split_bad_vertices L ring).pieces in
    let l = (split_bad_vertices L ring).log in
    let c = corners_hold L (λ x. Memᴰ x ring.points) ring s (all_own ring.points) in
    let m : Match SameSide (all_sides o) (diagonals l ++ sides ring) =
    subst (λ ps. Match SameSide (all_sides ps ++ all_sides o) (diagonals l ++ sides ring)) e i.sides in
    record {
      parts = subst (λ ps. Match ◌≡◌ (spent_parts l ++ (ps ++ o)) (ring ∷ made l)) e i.parts;
      corners = c.pieces;
      cut_corners = c.cut;
      edges = m;
      known = by_part (Among (diagonals l ++ sides ring)) o (among_match m);
      grown = i.grown;
      deals = i.deals;
    }

pub followed : (L : Limits) (ring : Part) → Sound ring → Followed (split_bad_vertices L ring)
followed L ring s =
    let o = (split_bad_vertices L ring).pieces in
    let l = (split_bad_vertices L ring).log in
    subst (λ ps. All (Beside l (ps ++ o)) l) (emptied L ring) (following L ring s)
