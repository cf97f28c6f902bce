-- Claim: the tests of cleaning are the Rust's, which takes the points in mm and computes in doubles. For points on the sheet
--   `dist <= tol` is `near`, and `dist > tol` its opposite (`same-near`, `same_kept`);
--   `len2 <= 0.0` holds exactly if the segment's ends are the same point (`no_segment`);
--   its point_segment_distance is `point_segment_distance`, bit for bit (`same_distance`): where its quotient is 0, of either sign, the
--   foot is the first end;
--   and a corner that the Rust marks to be dropped is flat between its neighbours (`same-flat`).
use mathlib.Core.Path.{◌≡◌, refl, sym, ap, ◌∙◌, subst}
use mathlib.Core.Bool.{Bool, true, false, ◌&&◌, not, cond}
use Prim.Native.Nat.{ℕ, zero, suc, ◌^◌, ◌≤◌, zero-le}
use native.Mathlib.Nat.{le_trans, zero-lt-suc}
use native.Mathlib.Omega.{arith}
use lib.IntN.{ℤ, pos, negsuc, nat_abs, ◌+ℤ◌, ◌-ℤ◌, ◌*ℤ◌, zero-*ℤ, +ℤ_idr}
use lib.Signed.{le_z}
use lib.Dec.{T, leb, leb→le, lit≤}
use lib.Pow.{pow_pos}
use lib.Ieee.{Float, binary64, div, is_nan, le, lt, of_int, round}
use Rattle.laws.specs.Double.{◌+f◌, ◌-f◌, ◌*f◌, ◌/f◌, ◌<f◌, ◌≤f◌, clamp, int, nat}
use Rattle.laws.specs.Units as Units
use Rattle.laws.proofs.Between.{within_real}
use Rattle.laws.proofs.Booleans.{bool_ext}
use Rattle.laws.proofs.Constants.{one-is, zero_is}
use Rattle.laws.proofs.Grid.{IsZ, add-to_is_z, mul_is_z, scaled_is_z}
use Rattle.laws.proofs.Order.{not-lt-is-le}
use Rattle.laws.proofs.RustDoubles.{Holds}
use Rattle.laws.proofs.Scaled.{of_int_scaled, scaled}
use Rattle.laws.proofs.Signed.{diff-small}
use Rattle.laws.proofs.Units.{mm-is, mm_is_z, mm-sub}
use Rattle.laws.proofs.WholeQuotient.{clamp-zero, holds_is_z, num_above, quotient, zero-over}
use Rattle.vector.specs.declared.GridPoint.{GridPoint}
use Rattle.vector.specs.declared.Point.{Point}
use Rattle.vector.specs.Grid as Grid
use Rattle.vector.specs.Plane as Plane
use Rattle.vector.specs.Plane.{in_mm, lerp}
use Rattle.vector.specs.Size.{OnSheet}
use Rattle.vector.proofs.RustDoubles as exact
use Rattle.vector.proofs.Same.{same→, →same, same_comm, step-zero}
use Rattle.vector.proofs.Sheet.{step, dot-fits}
use Rattle.root.specs.Norm.{dist, grid_dist}
use Rattle.root.proofs.Length.{grid_dist-within}
use Rattle.root.proofs.RustLengths.{dist_in_mm, dot-is, dot-zero, square_sum}
use Rattle.nearness.specs.Nearness.{near, point_segment_distance, is_flat}

-- ---- the Rust's functions, over points in mm
abbrev pub rust_segment_distance : Point → Point → Point → Float
rust_segment_distance p a b =
    let ab = Plane.sub b a in
    let len2 = Plane.dot ab ab in
    cond (len2 ≤f nat 0) (dist p a) (dist p (lerp a b (clamp (nat 0) (nat 1) (Plane.dot (Plane.sub p a) ab /f len2))))

abbrev pub rust_flat : Float → Point → Point → Point → Bool
rust_flat tol before here after = (rust_segment_distance here before after ≤f tol) && (nat 0 <f Plane.dot (Plane.sub here before) (Plane.sub after here))

-- ---- distances
pub same-near : (tol : Float) (a b : GridPoint) → OnSheet a → OnSheet b → near tol a b ≡ (dist (in_mm a) (in_mm b) ≤f tol)
unfolding near
same-near tol a b h k = ap (λ (d : Float). le d tol) (dist_in_mm a b h k)

pub same_kept : (tol : Float) (a b : GridPoint) → T (not (is_nan tol)) → OnSheet a → OnSheet b → not (near tol a b) ≡ (tol <f dist (in_mm a) (in_mm b))
unfolding near
same_kept tol a b r h k =
    ap not (sym (not-lt-is-le tol (grid_dist a b) r (within_real (2 ^ 14) (grid_dist a b) (grid_dist-within a b h k)))) ∙ twice (lt tol (grid_dist a b))
    ∙ ap (lt tol) (dist_in_mm a b h k)
  where
    twice : (b : Bool) → not (not b) ≡ b
    twice true = refl
    twice false = refl

-- ---- products of steps between points
dots : (p q r s : GridPoint) → OnSheet p → OnSheet q → OnSheet r → OnSheet s
    → Holds (Plane.dot (Plane.sub (in_mm p) (in_mm q)) (Plane.sub (in_mm r) (in_mm s))) (Grid.dot (Grid.sub p q) (Grid.sub r s))
dots p q r s hp hq hr hs =
    let u = sym (exact.difference p q hp hq) in
    let v = sym (exact.difference r s hr hs) in
    subst (λ (x : Float). Holds x (Grid.dot (Grid.sub p q) (Grid.sub r s))) (λ i. Plane.dot (u i) (v i))
    (exact.dot (Grid.sub p q) (Grid.sub r s) (step p q hp hq) (step r s hr hs))

area-zero : Units.mm² (pos 0) ≡ nat 0
unfolding Units.mm² of_int round div
area-zero = refl

-- a squared length is at most 0 exactly where the step is zero
none-or-less : (v : GridPoint) → le_z (Grid.dot v v) (pos 0) ≡ Grid.same v Grid.origin
none-or-less v = ap (λ (z : ℤ). le_z z (pos 0)) (dot-is v) ∙ bool_ext (leb (square_sum v) 0) (Grid.same v Grid.origin)
    (λ t. →same v Grid.origin (dot-zero v (dot-is v ∙ ap pos (nought (square_sum v) (leb→le (square_sum v) 0 t)))))
    (λ t. subst (λ (u : GridPoint). T (leb (square_sum u) 0)) (sym (same→ v Grid.origin t)) tt)
  where
    nought : (n : ℕ) → n ≤ 0 → n ≡ 0
    nought n h = omega arith

pub no_segment : (a b : GridPoint) → OnSheet a
    → OnSheet b → (Plane.dot (Plane.sub (in_mm b) (in_mm a)) (Plane.sub (in_mm b) (in_mm a)) ≤f nat 0) ≡ Grid.same a b
no_segment a b h k =
    ap (le (Plane.dot (Plane.sub (in_mm b) (in_mm a)) (Plane.sub (in_mm b) (in_mm a)))) (sym area-zero) ∙ (dots b a b a k h k h).at_most (pos 0) (lit≤ tt)
    ∙ none-or-less (Grid.sub b a) ∙ step-zero b a ∙ same_comm b a

-- ---- the foot where the quotient is a zero
zero_is_z : IsZ (nat 0) (pos 0) 1
zero_is_z = subst (λ (x : Float). IsZ x (pos 0) 1) (sym zero_is) (false, 0, (refl, refl), refl)

one_is_z : IsZ (nat 1) (pos 1) 1
one_is_z = subst (λ (x : Float). IsZ x (pos 1) 1) (sym one-is) (false, 1, (refl, refl), refl)

int_is_z : (z : ℤ) → nat_abs z ≤ 2 ^ 53 → IsZ (int z) z 1
int_is_z z h = subst (λ (x : Float). IsZ x z 1) (sym (of_int_scaled binary64 z)) (scaled_is_z binary64 z 0 h zero-le)

stay : (t : Float) (z w : ℤ) → IsZ t (pos 0) 1 → nat_abs z ≤ 2 ^ 23 → nat_abs w ≤ 2 ^ 23 → Units.mm z +f t *f (Units.mm w -f Units.mm z) ≡ Units.mm z
stay t z w o h k =
    let l : nat_abs z ≤ 2 ^ 53 = le_trans h (lit≤ tt) in
    let d : nat_abs (w -ℤ z) ≤ 2 ^ 53 = le_trans (diff-small w z k h) (lit≤ tt) in
    let e = mm-sub w z (le_trans k (lit≤ tt)) l d in
    let y = t *f Units.mm (w -ℤ z) in
    let p : IsZ y (pos 0 *ℤ (w -ℤ z)) (2 ^ 13) =
    mul_is_z binary64 t (Units.mm (w -ℤ z)) (pos 0) (w -ℤ z) 0 13 (lit≤ tt) (subst (λ (v : ℤ). nat_abs v ≤ 2 ^ 53) (sym (zero-*ℤ (w -ℤ z))) (lit≤ tt)) o
    (mm_is_z (w -ℤ z) d) in
    ap (λ (v : Float). Units.mm z +f t *f v) e ∙ ap (λ (v : Float). v +f y) (mm-is z l) ∙ add-to_is_z binary64 z y (pos 0 *ℤ (w -ℤ z)) 13 l (lit≤ tt) p
    ∙ ap (λ (v : ℤ). scaled binary64 (z +ℤ v) (2 ^ 13)) (zero-*ℤ (w -ℤ z)) ∙ ap (λ (v : ℤ). scaled binary64 v (2 ^ 13)) (+ℤ_idr z) ∙ sym (mm-is z l)

start : (t : Float) (a b : GridPoint) → IsZ t (pos 0) 1 → OnSheet a → OnSheet b → lerp (in_mm a) (in_mm b) (clamp (nat 0) (nat 1) t) ≡ in_mm a
unfolding lerp in_mm
start t a b o h k =
    let e = clamp-zero (nat 0) (nat 1) t (pos 0) (pos 1) zero_is_z one_is_z o refl refl in
    ap (λ (s : Float). lerp (in_mm a) (in_mm b) s) e ∙ (λ i. record { x = stay t a.x b.x o h.x k.x i; y = stay t a.y b.y o h.y k.y i })

-- ---- the distance from a segment
module _ (p a b : GridPoint) (hp : OnSheet p) (ha : OnSheet a) (hb : OnSheet b) where
  abbrev along : ℤ
  along = Grid.dot (Grid.sub p a) (Grid.sub b a)

  abbrev length² : ℤ
  length² = Grid.dot (Grid.sub b a) (Grid.sub b a)

  abbrev along_mm : Float
  along_mm = Plane.dot (Plane.sub (in_mm p) (in_mm a)) (Plane.sub (in_mm b) (in_mm a))

  abbrev length_mm : Float
  length_mm = Plane.dot (Plane.sub (in_mm b) (in_mm a)) (Plane.sub (in_mm b) (in_mm a))

  along-small : nat_abs along ≤ 2 ^ 53
  along-small = dot-fits (Grid.sub p a) (Grid.sub b a) (step p a hp ha) (step b a hb ha)

  length-small : nat_abs length² ≤ 2 ^ 53
  length-small = dot-fits (Grid.sub b a) (Grid.sub b a) (step b a hb ha) (step b a hb ha)

  module _ (n : Grid.same a b ≡ false) where
    apart : length² ≡ pos 0 → ⊥
    apart e = subst T (step-zero b a ∙ same_comm b a ∙ n) (→same (Grid.sub b a) Grid.origin (dot-zero (Grid.sub b a) e))

    rust_zero : along ≡ pos 0 → IsZ (along_mm /f length_mm) (pos 0) 1
    rust_zero z =
        let d = num_above length_mm length² (2 ^ 26) apart (holds_is_z length_mm length² length-small (dots b a b a hb ha hb ha)) in
        zero-over binary64 along_mm length_mm (2 ^ 26) (pow_pos 26)
        (subst (λ (v : ℤ). IsZ along_mm v (2 ^ 26)) z (holds_is_z along_mm along along-small (dots p a b a hp ha hb ha))) d.0 d.1

    whole-zero : along ≡ pos 0 → IsZ (int along /f int length²) (pos 0) 1
    whole-zero z =
        let d = num_above (int length²) length² 1 apart (int_is_z length² length-small) in
        zero-over binary64 (int along) (int length²) 1 (zero-lt-suc 0) (subst (λ (v : ℤ). IsZ (int along) v 1) z (int_is_z along along-small)) d.0 d.1

    same-foot : lerp (in_mm a) (in_mm b) (clamp (nat 0) (nat 1) (int along /f int length²))
        ≡ lerp (in_mm a) (in_mm b) (clamp (nat 0) (nat 1) (along_mm /f length_mm))
    same-foot = go along refl
      where
        moved : (along ≡ pos 0 → ⊥)
            → lerp (in_mm a) (in_mm b) (clamp (nat 0) (nat 1) (int along /f int length²))
            ≡ lerp (in_mm a) (in_mm b) (clamp (nat 0) (nat 1) (along_mm /f length_mm))
        moved m =
            ap (λ (t : Float). lerp (in_mm a) (in_mm b) (clamp (nat 0) (nat 1) t))
            (sym ((quotient along_mm length_mm along length² along-small length-small apart (dots p a b a hp ha hb ha) (dots b a b a hb ha hb ha)).same m))

        go : (z : ℤ) → along ≡ z
            → lerp (in_mm a) (in_mm b) (clamp (nat 0) (nat 1) (int along /f int length²))
            ≡ lerp (in_mm a) (in_mm b) (clamp (nat 0) (nat 1) (along_mm /f length_mm))
        go (pos zero) e = start (int along /f int length²) a b (whole-zero e) ha hb ∙ sym (start (along_mm /f length_mm) a b (rust_zero e) ha hb)
        go (pos (suc m)) e = moved (λ z. omega (arith, ap nat_abs (sym e ∙ z)))
        go (negsuc m) e = moved (λ z. omega (arith, ap nat_abs (sym e ∙ z)))

  pub same_distance : point_segment_distance p a b ≡ rust_segment_distance (in_mm p) (in_mm a) (in_mm b)
  unfolding point_segment_distance
  same_distance =
      go (Grid.same a b) refl ∙ ap
      (λ (t : Bool). cond t (dist (in_mm p) (in_mm a)) (dist (in_mm p) (lerp (in_mm a) (in_mm b) (clamp (nat 0) (nat 1) (along_mm /f length_mm)))))
      (sym (no_segment a b ha hb))
    where
      go : (t : Bool) → Grid.same a b ≡ t
          → cond t (grid_dist p a) (dist (in_mm p) (lerp (in_mm a) (in_mm b) (clamp (nat 0) (nat 1) (int along /f int length²))))
          ≡ cond t (dist (in_mm p) (in_mm a)) (dist (in_mm p) (lerp (in_mm a) (in_mm b) (clamp (nat 0) (nat 1) (along_mm /f length_mm))))
      go true e = dist_in_mm p a hp ha
      go false e = ap (dist (in_mm p)) (same-foot e)

-- ---- a corner to be dropped
pub same-flat : (tol : Float) (a p b : GridPoint) → OnSheet a → OnSheet p → OnSheet b → is_flat tol a p b ≡ rust_flat tol (in_mm a) (in_mm p) (in_mm b)
unfolding is_flat
same-flat tol a p b ha hp hb =
    let u = same_distance p a b hp ha hb in
    let v = sym ((dots p a b p hp ha hb hp).above (pos 0) (lit≤ tt))
    ∙ ap (λ (z : Float). z <f Plane.dot (Plane.sub (in_mm p) (in_mm a)) (Plane.sub (in_mm b) (in_mm p))) area-zero in
    λ j. (u j ≤f tol) && v j
