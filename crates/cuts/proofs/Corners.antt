-- What holds of each corner of the ring holds of each corner of each part that stands, went out or was cut.
use Prim.Native.Nat.{ℕ, suc}
use mathlib.Core.Bool.{Bool, true, false}
use mathlib.Core.List.{List}
use lib.ListN.{take, drop}
use lib.Signed.{non_neg}
use Rattle.laws.specs.All.{All}
use Rattle.laws.proofs.Lists.{all_append, all_snoc, all_take, all_drop, all_reverse}
use Rattle.vector.specs.declared.GridPoint.{GridPoint}
use Rattle.vector.specs.Grid.{polygon_area}
use Rattle.marks.specs.declared.EdgeMark.{EdgeMark}
use Rattle.marks.specs.Part.{Part}
use Rattle.limits.specs.declared.Limits.{Limits}
use Rattle.parts.specs.Cut.{rotate, oriented, make_sub_polygon, first_points, second_points, first_part, second_part}
use Rattle.split.specs.Split.{Stack, split_bad_vertices}
use Rattle.cuts.specs.Counts.{Sound}
use Rattle.cuts.specs.Provenance.{Cornered}
use Rattle.cuts.proofs.Machine.{worst_of}
use Rattle.parts.proofs.Rotation.{all_rotate}
use Rattle.cuts.proofs.Parts.{keep}

module _ (P : GridPoint → Type 0) where
  oriented-holds : (w : Bool) (r : List GridPoint) (es : List EdgeMark) → All P r → Cornered P (oriented w r es)
  unfolding oriented
  oriented-holds true r es h = h
  oriented-holds false r es h = all_reverse P r h

  first_holds : (p : Part) (v k : ℕ) → Cornered P p → Cornered P (first_part p v k)
  unfolding first_part make_sub_polygon
  first_holds p v k h =
      let r = rotate v p.points in
      oriented-holds (non_neg (polygon_area (first_points r k))) (first_points r k) (take k (rotate v p.edges))
      (all_take P (suc k) r (all_rotate P v p.points h))

  second_holds : (p : Part) (v k : ℕ) → Cornered P p → Cornered P (second_part p v k)
  unfolding second_part make_sub_polygon
  second_holds p v k h =
      let r = rotate v p.points in
      let g = all_rotate P v p.points h in
      oriented-holds (non_neg (polygon_area (second_points r k))) (second_points r k) (drop k (rotate v p.edges))
      (all_append P (drop k r) (take 1 r) (all_drop P k r g) (all_take P 1 r g))

pub record Corners (P : GridPoint → Type 0) (s : Stack) : Type 0 where
  pub standing : All (Cornered P) s.parts
  pub pieces : All (Cornered P) s.pieces
  pub cut : All (λ c. Cornered P c.part) s.log

pub corners_hold : (L : Limits) (P : GridPoint → Type 0) (ring : Part) → Sound ring → Cornered P ring → Corners P (split_bad_vertices L ring)
corners_hold L P ring s h =
    keep L (Corners P)
    (λ p ps o c t l s g i. record { standing = i.standing.1; pieces = all_snoc (Cornered P) o p i.pieces i.standing.0; cut = i.cut })
    (λ p ps o c t l k f h i.
    record {
      standing = (second_holds P p (worst_of p) k i.standing.0, (first_holds P p (worst_of p) k i.standing.0, i.standing.1));
      pieces = i.pieces;
      cut = (i.standing.0, i.cut);
    })
    ring s (record { standing = (h, tt); pieces = tt; cut = tt })
