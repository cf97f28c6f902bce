-- THEOREM `counted`. For every set of limits, a ring of n corners (3 or more, and as many edges) is split so that
--   no part is left on the stack;
--   each piece has three corners or more, and as many edges;
--   the cuts are at most those of the set, and at most n - 3;
--   the pieces are one more than the cuts, and their corners are n and two for each cut;
--   the log holds each cut.
-- THEOREM `marked-sound`. The ring that a divider call splits, three points or more with their marks, is such a ring.
use Prim.Native.Nat.{ℕ, ◌+◌, ◌*◌, ◌≤◌}
use native.Mathlib.Omega.{arith}
use mathlib.Core.Path.{◌≡◌, refl, ap}
use mathlib.Core.List.{List, [], ◌∷◌, ◌++◌}
use lib.ListN.{length, length-append}
use Rattle.laws.specs.All.{All}
use Rattle.laws.proofs.Lists.{all_snoc}
use Rattle.vector.specs.declared.GridPoint.{GridPoint}
use Rattle.chain.specs.Chain.{Stretch}
use Rattle.marks.specs.Part.{Part}
use Rattle.marks.specs.Marks.{marked}
use Rattle.marks.proofs.SnapRange.{marks-many}
use Rattle.limits.specs.declared.Limits.{Limits}
use Rattle.split.specs.Split.{Stack, split_bad_vertices}
use Rattle.cuts.specs.Counts.{Sound, corners, Counted}
use Rattle.cuts.proofs.Machine.{emptied}
use Rattle.cuts.proofs.Parts.{keep}

corners_snoc : (l : List Part) (p : Part) → corners (l ++ (p ∷ [])) ≡ corners l + length p.points
corners_snoc [] p = omega arith
corners_snoc (q ∷ l) p = omega (arith, corners_snoc l p)

-- at any time: over the parts that stand and the pieces
record Count (L : Limits) (n : ℕ) (s : Stack) : Type 0 where
  pub gone : All Sound s.pieces
  pub most : s.cuts ≤ L.cuts
  pub parts : length s.parts + length s.pieces ≡ s.cuts + 1
  pub corners : corners s.parts + corners s.pieces ≡ n + 2 * s.cuts
  pub logged : length s.log ≡ s.cuts

count : (L : Limits) (p : Part) → Sound p → Count L (length p.points) (split_bad_vertices L p)
count L p s =
    keep L (Count L (length p.points))
    (λ p ps o c t l s g i.
    record {
      gone = all_snoc Sound o p i.gone s;
      most = i.most;
      parts = omega (arith, i.parts, length-append o (p ∷ []));
      corners = omega (arith, i.corners, corners_snoc o p);
      logged = i.logged;
    })
    (λ p ps o c t l k f h i.
    record {
      gone = i.gone;
      most = h.left;
      parts = omega (arith, i.parts);
      corners = omega (arith, i.corners, f.halves.first_corners, f.halves.second_corners);
      logged = omega (arith, i.logged);
    })
    p s (record { gone = tt; most = omega arith; parts = refl; corners = omega arith; logged = refl })

pub three-each : (l : List Part) → All Sound l → 3 * length l ≤ corners l
three-each [] h = omega arith
three-each (p ∷ l) h = omega (arith, three-each l h.1, h.0.three)

-- ---- the theorems
pub counted : (L : Limits) (p : Part) → Sound p → Counted L (length p.points) (split_bad_vertices L p)
counted L p s =
    let c = count L p s in
    let e = emptied L p in
    let l : length (split_bad_vertices L p).pieces ≡ (split_bad_vertices L p).cuts + 1 = omega (arith, ap length e, c.parts) in
    let m : corners (split_bad_vertices L p).pieces ≡ length p.points + 2 * (split_bad_vertices L p).cuts = omega (arith, ap corners e, c.corners) in
    record {
      emptied = e;
      sound = c.gone;
      most = c.most;
      few = omega (arith, three-each (split_bad_vertices L p).pieces c.gone);
      pieces = l;
      corners = m;
      logged = c.logged;
    }

pub marked-sound : (c : List Stretch) (r : List GridPoint) → 3 ≤ length r → Sound (marked c r)
unfolding marked
marked-sound c r h = record { three = h; edged = marks-many c r (length r) }
