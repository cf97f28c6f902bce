-- The two parts that a cut makes: how many corners and edges they have, so that each part that ever stands has three corners or more and as many edges.
use Prim.Native.Nat.{ℕ, suc, ◌+◌, ◌≤◌}
use native.Mathlib.Omega.{arith}
use mathlib.Core.Path.{◌≡◌, refl}
use mathlib.Core.Bool.{Bool, true, false}
use mathlib.Core.List.{List, [], ◌∷◌, ◌++◌, reverse}
use lib.ListN.{length, take, drop, length-append, length-take, length-drop, length-reverse}
use lib.Signed.{non_neg}
use Rattle.laws.specs.All.{All}
use Rattle.vector.specs.declared.GridPoint.{GridPoint}
use Rattle.vector.specs.Grid.{polygon_area}
use Rattle.marks.specs.declared.EdgeMark.{EdgeMark}
use Rattle.marks.specs.declared.EdgeMark.TheVariants.{Straight}
use Rattle.marks.specs.Part.{Part}
use Rattle.limits.specs.declared.Limits.{Limits}
use Rattle.corner.specs.Corner.{Worst}
use Rattle.corner.proofs.WorstCorner.{worst-is}
use Rattle.parts.specs.Cut.{rotate, oriented, make_sub_polygon, first_points, second_points, first_part, second_part, turned_in}
use Rattle.split.specs.Split.{Cut, Stack, start, split_bad_vertices}
use Rattle.cuts.specs.Counts.{Sound}
use Rattle.split.specs.Diagonals.{Best}
use Rattle.cuts.proofs.Machine.{stack, worst_of, cut, GoesOut, IsCut, keep_all}
use Rattle.parts.proofs.Rotation.{length-rotate}
use Rattle.split.proofs.BestDiagonal.{best-diagonal}

-- ---- make_sub_polygon gives the corners that it gets, and one edge more
oriented-corners : (b : Bool) (r : List GridPoint) (es : List EdgeMark) → length (oriented b r es).points ≡ length r
unfolding oriented
oriented-corners true r es = refl
oriented-corners false r es = length-reverse r

oriented-edges : (b : Bool) (r : List GridPoint) (es : List EdgeMark) → length (oriented b r es).edges ≡ suc (length es)
unfolding oriented
oriented-edges true r es = omega (arith, length-append es (Straight ∷ []))
oriented-edges false r es = omega (arith, length-append (reverse es) (Straight ∷ []), length-reverse es)

pub sub-corners : (r : List GridPoint) (es : List EdgeMark) → length (make_sub_polygon r es).points ≡ length r
unfolding make_sub_polygon
sub-corners r es = oriented-corners (non_neg (polygon_area r)) r es

pub sub-edges : (r : List GridPoint) (es : List EdgeMark) → length (make_sub_polygon r es).edges ≡ suc (length es)
unfolding make_sub_polygon
sub-edges r es = oriented-edges (non_neg (polygon_area r)) r es

-- ---- the two parts of a cut, by the part that is cut
pub record Halves (p : Part) (v k : ℕ) : Type 0 where
  pub first_corners : length (first_part p v k).points ≡ suc k
  pub first_edges : length (first_part p v k).edges ≡ suc k
  pub second_corners : length (second_part p v k).points + k ≡ suc (length p.points)
  pub second_edges : length (second_part p v k).edges + k ≡ suc (length p.points)

pub halves : (p : Part) (v k : ℕ) → Sound p → k + 2 ≤ length p.points → Halves p v k
unfolding first_part second_part
halves p v k s h =
    let r = rotate v p.points in
    let e = rotate v p.edges in
    record {
      first_corners = omega (arith, sub-corners (first_points r k) (take k e), length-take (suc k) r, length-rotate v p.points);
      first_edges = omega (arith, sub-edges (first_points r k) (take k e), length-take k e, length-rotate v p.edges, s.edged);
      second_corners =
          omega (
            arith,
            sub-corners (second_points r k) (drop k e),
            length-append (drop k r) (take 1 r),
            length-drop k r,
            length-take 1 r,
            length-rotate v p.points,
          );
      second_edges = omega (arith, sub-edges (second_points r k) (drop k e), length-drop k e, length-rotate v p.edges, s.edged);
    }

-- ---- a cut of a sound part: its corner is the worst, and its diagonal the best
pub record SoundCut (L : Limits) (p : Part) (k : ℕ) : Type 0 where
  pub sound : Sound p
  pub worst : Worst p.points (worst_of p)
  pub best : Best L (rotate (worst_of p) p.points) k
  pub low : 2 ≤ k
  pub high : k + 2 ≤ length p.points
  pub halves : Halves p (worst_of p) k

sound-cut : (L : Limits) (p : Part) (c k : ℕ) → Sound p → IsCut L p c k → SoundCut L p k
sound-cut L p c k s h =
    let r = rotate (worst_of p) p.points in
    let n = length-rotate (worst_of p) p.points in
    let b = best-diagonal L r (length p.points) k n s.three h.chosen in
    let l : k + 2 ≤ length p.points = omega (arith, b.high, n) in
    record { sound = s; worst = worst-is p.points (omega (arith, s.three)); best = b; low = b.low; high = l; halves = halves p (worst_of p) k s l }

-- ---- what is kept by a step of a stack whose parts are sound holds at the end
pub keep : (L : Limits) (I : Stack → Type 0)
    → ((p : Part) (ps o : List Part) (c t : ℕ) (l : List Cut) → Sound p → GoesOut L p c → I (stack (p ∷ ps) o c t l) → I (stack ps (o ++ (p ∷ [])) c t l))
    → ((p : Part) (ps o : List Part) (c t : ℕ) (l : List Cut) (k : ℕ) → SoundCut L p k → IsCut L p c k → I (stack (p ∷ ps) o c t l)
    → I (stack (second_part p (worst_of p) k ∷ first_part p (worst_of p) k ∷ ps) o (suc c) (t + turned_in p (worst_of p) k) (cut p k ∷ l)))
    → (p : Part) → Sound p → I (start p) → I (split_bad_vertices L p)
keep L I go part p s i =
    (keep_all L (λ s. All Sound s.parts × I s)
    (λ p ps o c t l g j. (j.0.1, go p ps o c t l j.0.0 g j.1))
    (λ p ps o c t l k h j.
    let f = sound-cut L p c k j.0.0 h in
    let u = f.halves in
    let a : Sound (first_part p (worst_of p) k) =
    record { three = omega (arith, u.first_corners, f.low); edged = omega (arith, u.first_corners, u.first_edges) } in
    let b : Sound (second_part p (worst_of p) k) =
    record { three = omega (arith, u.second_corners, f.high); edged = omega (arith, u.second_corners, u.second_edges) } in
    ((b, (a, j.0.1)), part p ps o c t l k f h j.1))
    p ((s, tt), i)).1
