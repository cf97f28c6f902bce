-- THEOREM `weighed`. For every set of limits, of a ring of 3 corners or more that is split:
--   the doubled areas of the pieces sum to that of the ring plus twice the turned area;
--   the turned area is what the cuts of the log turned round;
--   where the ring's area is not negative, none of the pieces' is.
use Prim.Native.Nat.{ℕ, suc, ◌+◌, ◌*◌, ◌<◌}
use native.Mathlib.Omega.{arith}
use mathlib.Core.Path.{◌≡◌, refl, sym, ap, ◌∙◌, subst}
use mathlib.Core.Bool.{cond}
use mathlib.Core.List.{List, [], ◌∷◌, ◌++◌}
use lib.ListN.{length, take, drop}
use lib.IntN.{ℤ, pos, negsuc, neg_ℤ, nat_abs, ◌+ℤ◌, +ℤ_assoc, +ℤ_comm, +ℤ_idl, +ℤ_idr, +ℤ_invl}
use lib.Signed.{non_neg}
use lib.Dec.{T}
use Rattle.laws.specs.All.{All}
use Rattle.laws.proofs.Integers.{+ℤ-left}
use Rattle.laws.proofs.Lists.{all_snoc}
use Rattle.vector.specs.declared.GridPoint.{GridPoint}
use Rattle.vector.specs.Grid.{polygon_area}
use Rattle.marks.specs.declared.EdgeMark.{EdgeMark}
use Rattle.marks.specs.Part.{Part}
use Rattle.limits.specs.declared.Limits.{Limits}
use Rattle.parts.specs.Cut.{rotate, oriented, make_sub_polygon, turned_area, first_points, second_points, first_part, second_part, turned_in}
use Rattle.split.specs.Split.{Stack, split_bad_vertices}
use Rattle.cuts.specs.Counts.{Sound}
use Rattle.cuts.specs.Areas.{areas, NotNegative, turned_by, AreasBalance}
use Rattle.cuts.proofs.Machine.{worst_of, emptied}
use Rattle.parts.proofs.Rotation.{length-rotate}
use Rattle.cuts.proofs.Parts.{keep}
use Rattle.cuts.proofs.RingArea.{area_rotate, area_reverse, area-cut}

-- ---- what make_sub_polygon turns round gains twice its turned area, and is then not negative
gains : (n : ℕ) → pos (suc n) ≡ negsuc n +ℤ pos (2 * suc n)
gains n =
    sym (+ℤ_idl (pos (suc n))) ∙ ap (λ x. x +ℤ pos (suc n)) (sym (+ℤ_invl (pos (suc n))))
    ∙ +ℤ_assoc (negsuc n) (pos (suc n)) (pos (suc n)) ∙ ap (λ m. negsuc n +ℤ pos m) (twice n)
  where
    twice : (n : ℕ) → suc n + suc n ≡ 2 * suc n
    twice n = omega arith

oriented-area : (r : List GridPoint) (es : List EdgeMark) (z : ℤ) → polygon_area r ≡ z
    → polygon_area (oriented (non_neg z) r es).points ≡ z +ℤ pos (2 * cond (non_neg z) 0 (nat_abs z))
unfolding oriented
oriented-area r es (pos n) e = e ∙ sym (+ℤ_idr (pos n))
oriented-area r es (negsuc n) e = area_reverse r ∙ ap neg_ℤ e ∙ gains n

sub-area : (r : List GridPoint) (es : List EdgeMark) → polygon_area (make_sub_polygon r es).points ≡ polygon_area r +ℤ pos (2 * turned_area r)
unfolding make_sub_polygon turned_area
sub-area r es = oriented-area r es (polygon_area r) refl

oriented-upright : (r : List GridPoint) (es : List EdgeMark) (z : ℤ) → polygon_area r ≡ z → NotNegative (oriented (non_neg z) r es)
unfolding oriented
oriented-upright r es (pos n) e = subst (λ z. T (non_neg z)) (sym e) tt
oriented-upright r es (negsuc n) e = subst (λ z. T (non_neg z)) (sym (area_reverse r ∙ ap neg_ℤ e)) tt

sub-upright : (r : List GridPoint) (es : List EdgeMark) → NotNegative (make_sub_polygon r es)
unfolding make_sub_polygon
sub-upright r es = oriented-upright r es (polygon_area r) refl

first-upright : (p : Part) (v k : ℕ) → NotNegative (first_part p v k)
unfolding first_part
first-upright p v k = sub-upright (first_points (rotate v p.points) k) (take k (rotate v p.edges))

second-upright : (p : Part) (v k : ℕ) → NotNegative (second_part p v k)
unfolding second_part
second-upright p v k = sub-upright (second_points (rotate v p.points) k) (drop k (rotate v p.edges))

-- ---- a cut: a and b are the areas of its two parts before they are turned, x and y what they gain
regroup : (a b x y l o : ℤ) → ((b +ℤ y) +ℤ ((a +ℤ x) +ℤ l)) +ℤ o ≡ (((a +ℤ b) +ℤ l) +ℤ o) +ℤ (x +ℤ y)
regroup a b x y l o = simp (+ℤ_assoc, +ℤ_comm, +ℤ-left)

part_cut : (p : Part) (v k : ℕ) → 0 < k → k < length p.points
    → polygon_area p.points ≡ polygon_area (first_points (rotate v p.points) k) +ℤ polygon_area (second_points (rotate v p.points) k)
part_cut p v k g h = sym (area_rotate v p.points) ∙ area-cut (rotate v p.points) k g (subst (λ n. k < n) (sym (length-rotate v p.points)) h)

gained : (m : ℤ) (t x y : ℕ) → (m +ℤ pos (2 * t)) +ℤ (pos (2 * x) +ℤ pos (2 * y)) ≡ m +ℤ pos (2 * (t + (x + y)))
gained m t x y = +ℤ_assoc m (pos (2 * t)) (pos (2 * x + 2 * y)) ∙ ap (λ n. m +ℤ pos n) (sums t x y)
  where
    sums : (t x y : ℕ) → 2 * t + (2 * x + 2 * y) ≡ 2 * (t + (x + y))
    sums t x y = omega arith

balance_cut : (ring : List GridPoint) (p : Part) (ps o : List Part) (t v k : ℕ) → 0 < k → k < length p.points
    → areas (p ∷ ps) +ℤ areas o ≡ polygon_area ring +ℤ pos (2 * t)
    → areas (second_part p v k ∷ first_part p v k ∷ ps) +ℤ areas o ≡ polygon_area ring +ℤ pos (2 * (t + turned_in p v k))
unfolding second_part first_part turned_in
balance_cut ring p ps o t v k g h e =
    let r = rotate v p.points in
    let a : ℤ = polygon_area (first_points r k) in
    let b : ℤ = polygon_area (second_points r k) in
    let x : ℕ = turned_area (first_points r k) in
    let y : ℕ = turned_area (second_points r k) in
    ap (λ z. (z +ℤ (polygon_area (first_part p v k).points +ℤ areas ps)) +ℤ areas o) (sub-area (second_points r k) (drop k (rotate v p.edges)))
    ∙ ap (λ z. ((b +ℤ pos (2 * y)) +ℤ (z +ℤ areas ps)) +ℤ areas o) (sub-area (first_points r k) (take k (rotate v p.edges)))
    ∙ regroup a b (pos (2 * x)) (pos (2 * y)) (areas ps) (areas o)
    ∙ ap (λ z. ((z +ℤ areas ps) +ℤ areas o) +ℤ (pos (2 * x) +ℤ pos (2 * y))) (sym (part_cut p v k g h))
    ∙ ap (λ z. z +ℤ (pos (2 * x) +ℤ pos (2 * y))) e
    ∙ gained (polygon_area ring) t x y

-- ---- a part goes out
areas_snoc : (l : List Part) (p : Part) → areas (l ++ (p ∷ [])) ≡ polygon_area p.points +ℤ areas l
areas_snoc [] p = refl
areas_snoc (q ∷ l) p = ap (λ x. polygon_area q.points +ℤ x) (areas_snoc l p) ∙ +ℤ-left (polygon_area q.points) (polygon_area p.points) (areas l)

balance_out : (p l o : ℤ) → (p +ℤ l) +ℤ o ≡ l +ℤ (p +ℤ o)
balance_out p l o = simp (+ℤ_assoc, +ℤ-left)

-- ---- at any time: over the parts that stand and the pieces
record Weighing (ring : Part) (s : Stack) : Type 0 where
  pub sum : areas s.parts +ℤ areas s.pieces ≡ polygon_area ring.points +ℤ pos (2 * s.turned)
  pub turned : s.turned ≡ turned_by s.log
  pub standing : NotNegative ring → All NotNegative s.parts
  pub gone : NotNegative ring → All NotNegative s.pieces

weighing : (L : Limits) (ring : Part) → Sound ring → Weighing ring (split_bad_vertices L ring)
weighing L ring s =
    keep L (Weighing ring)
    (λ p ps o c t l s g i.
    record {
      sum = ap (λ x. areas ps +ℤ x) (areas_snoc o p) ∙ sym (balance_out (polygon_area p.points) (areas ps) (areas o)) ∙ i.sum;
      turned = i.turned;
      standing = λ h. (i.standing h).1;
      gone = λ h. all_snoc NotNegative o p (i.gone h) (i.standing h).0;
    })
    (λ p ps o c t l k f h i.
    record {
      sum = balance_cut ring.points p ps o t (worst_of p) k (omega (arith, f.low)) (omega (arith, f.high)) i.sum;
      turned = ap (λ n. n + turned_in p (worst_of p) k) i.turned;
      standing = λ h. (second-upright p (worst_of p) k, (first-upright p (worst_of p) k, (i.standing h).1));
      gone = i.gone;
    })
    ring s (record { sum = +ℤ_idr (polygon_area ring.points +ℤ pos 0); turned = refl; standing = λ h. (h, tt); gone = λ h. tt })

-- ---- the theorem
pub weighed : (L : Limits) (ring : Part) → Sound ring → AreasBalance ring (split_bad_vertices L ring)
weighed L ring s =
    let i = weighing L ring s in
    record {
      sum =
          sym (+ℤ_idl (areas (split_bad_vertices L ring).pieces)) ∙ ap (λ l. areas l +ℤ areas (split_bad_vertices L ring).pieces) (sym (emptied L ring))
          ∙ i.sum;
      turned = i.turned;
      upright = i.gone;
    }
