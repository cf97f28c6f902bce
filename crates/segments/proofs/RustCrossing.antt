-- Claim: `segments_cross` is the Rust's segments_cross. The Rust takes the four points in mm and computes in doubles: differences,
-- the denominator `den`, the test `den.abs() <= 1.0e-14`, the parameters t and u as quotients, and the four tests of these. For
-- points on the sheet
--   `den.abs() <= 1.0e-14` holds exactly if the whole number den is 0 (`parallel_is-zero`);
--   where it is not, each parameter, as a quotient of exact whole numbers, is the Rust's quotient: the same number, and the same
--   double unless it is 0, where the Rust's zero may have the other sign (`first_parameter_lem`, `second_parameter_lem`);
--   so both functions give the same answer (`same-crossing`).
use mathlib.Core.Path.{◌≡◌, refl, sym, ap, ◌∙◌, subst}
use mathlib.Core.Bool.{Bool, true, false, ◌&&◌, not}
use Prim.Native.Nat.{◌*◌, ◌^◌, ◌≤◌, ◌<◌}
use native.Mathlib.Nat.{le_trans}
use lib.IntN.{ℤ, pos, nat_abs}
use lib.Dec.{T, lit≤, lit<}
use lib.Pow.{pow_pos}
use lib.Ieee.{Float, eq, round}
use lib.Ieee.Positive.{den}
use lib.Ieee.Scale.{finite}
use Rattle.laws.specs.Double.{◌-f◌, ◌/f◌, ◌<f◌, ◌≤f◌, lit, nat}
use Rattle.laws.specs.Integer.{eq_z}
use Rattle.laws.proofs.Alike.{gt_alike, lt-alike}
use Rattle.laws.proofs.Fractions.{less, plus}
use Rattle.laws.proofs.NearZero.{magnitude, small-is-zero}
use Rattle.laws.proofs.RustDoubles.{Holds}
use Rattle.laws.proofs.Signed.{cross-small}
use Rattle.laws.proofs.WholeQuotient.{Over, holds_is_z, quotient}
use Rattle.vector.specs.declared.GridPoint.{GridPoint}
use Rattle.vector.specs.declared.Point.{Point}
use Rattle.vector.specs.Grid as Grid
use Rattle.vector.specs.Plane as Plane
use Rattle.vector.specs.Size.{OnSheet, SheetStep}
use Rattle.vector.proofs.RustDoubles as exact
use Rattle.vector.proofs.Sheet.{step}
use Rattle.segments.specs.Segments.{interior, ratio, segments_cross}

-- ---- the Rust's function over points in mm, as it stands there
abbrev pub denominator : Point → Point → Point → Point → Float
denominator a b c d = Plane.cross (Plane.sub b a) (Plane.sub d c)

abbrev pub first_parameter : Point → Point → Point → Point → Float
first_parameter a b c d = Plane.cross (Plane.sub c a) (Plane.sub d c) /f denominator a b c d

abbrev pub second_parameter : Point → Point → Point → Point → Float
second_parameter a b c d = Plane.cross (Plane.sub c a) (Plane.sub b a) /f denominator a b c d

abbrev pub rust_crosses : Point → Point → Point → Point → Bool
rust_crosses a b c d =
    let t = first_parameter a b c d in
    let u = second_parameter a b c d in
    not (magnitude (denominator a b c d) ≤f lit 1 14)
    && (lit 1 9 <f t) && (t <f nat 1 -f lit 1 9) && (lit 1 9 <f u) && (u <f nat 1 -f lit 1 9)

-- ---- a cross product of steps
cross-fits : (u v : GridPoint) → SheetStep u → SheetStep v → nat_abs (Grid.cross u v) ≤ 2 ^ 53
unfolding Grid.cross
cross-fits u v h k = le_trans (cross-small u.x v.y u.y v.x h.x k.y h.y k.x) (lit≤ tt)

limit : T (finite (lit 1 14)) × (less (lit 1 14) ≡ 0) × (plus (lit 1 14) * 2 ^ 26 < den (lit 1 14))
unfolding lit round
limit = (tt, refl, lit< tt)

-- of the steps from q to p and from s to r, as the Rust has it
crosses : (p q r s : GridPoint) → OnSheet p → OnSheet q → OnSheet r → OnSheet s
    → Holds (Plane.cross (Plane.sub (Plane.in_mm p) (Plane.in_mm q)) (Plane.sub (Plane.in_mm r) (Plane.in_mm s))) (Grid.cross (Grid.sub p q) (Grid.sub r s))
crosses p q r s hp hq hr hs =
    let u = sym (exact.difference p q hp hq) in
    let v = sym (exact.difference r s hr hs) in
    subst (λ (x : Float). Holds x (Grid.cross (Grid.sub p q) (Grid.sub r s))) (λ i. Plane.cross (u i) (v i))
    (exact.cross (Grid.sub p q) (Grid.sub r s) (step p q hp hq) (step r s hr hs))

small : (p q r s : GridPoint) → OnSheet p → OnSheet q → OnSheet r → OnSheet s → nat_abs (Grid.cross (Grid.sub p q) (Grid.sub r s)) ≤ 2 ^ 53
small p q r s hp hq hr hs = cross-fits (Grid.sub p q) (Grid.sub r s) (step p q hp hq) (step r s hr hs)

-- ---- tests of a parameter
alike : (p q : Float) → T (eq p q) → interior q ≡ ((lit 1 9 <f p) && (p <f nat 1 -f lit 1 9))
unfolding interior
alike p q e = sym (λ i. gt_alike p q e (lit 1 9) i && lt-alike p q e (nat 1 -f lit 1 9) i)

grouped : (n a b c d : Bool) → (n && a && b && c && d) ≡ (n && (a && b) && (c && d))
grouped false a b c d = refl
grouped true false b c d = refl
grouped true true false c d = refl
grouped true true true c d = refl

-- ---- the claim
module _ (a b c d : GridPoint) (ha : OnSheet a) (hb : OnSheet b) (hc : OnSheet c) (hd : OnSheet d) where
  pub parallel_is-zero : (magnitude (denominator (Plane.in_mm a) (Plane.in_mm b) (Plane.in_mm c) (Plane.in_mm d)) ≤f lit 1 14) ≡ eq_z
      (Grid.cross (Grid.sub b a) (Grid.sub d c)) (pos 0)
  parallel_is-zero =
      let x = denominator (Plane.in_mm a) (Plane.in_mm b) (Plane.in_mm c) (Plane.in_mm d) in
      let z = Grid.cross (Grid.sub b a) (Grid.sub d c) in
      small-is-zero x z (2 ^ 26) (pow_pos 26) (holds_is_z x z (small b a d c hb ha hd hc) (crosses b a d c hb ha hd hc)) (lit 1 14) limit.0 limit.1
      limit.2

  module _ (n : eq_z (Grid.cross (Grid.sub b a) (Grid.sub d c)) (pos 0) ≡ false) where
    apart : Grid.cross (Grid.sub b a) (Grid.sub d c) ≡ pos 0 → ⊥
    apart e = subst T (sym (ap (λ (z : ℤ). eq_z z (pos 0)) e) ∙ n) tt

    pub first_parameter_lem : Over (first_parameter (Plane.in_mm a) (Plane.in_mm b) (Plane.in_mm c) (Plane.in_mm d)) (Grid.cross (Grid.sub c a) (Grid.sub d c))
        (Grid.cross (Grid.sub b a) (Grid.sub d c))
    first_parameter_lem =
        quotient _ _ _ _ (small c a d c hc ha hd hc) (small b a d c hb ha hd hc) apart (crosses c a d c hc ha hd hc) (crosses b a d c hb ha hd hc)

    pub second_parameter_lem :
        Over (second_parameter (Plane.in_mm a) (Plane.in_mm b) (Plane.in_mm c) (Plane.in_mm d)) (Grid.cross (Grid.sub c a) (Grid.sub b a))
        (Grid.cross (Grid.sub b a) (Grid.sub d c))
    second_parameter_lem =
        quotient _ _ _ _ (small c a b a hc ha hb ha) (small b a d c hb ha hd hc) apart (crosses c a b a hc ha hb ha) (crosses b a d c hb ha hd hc)

  pub same-crossing : segments_cross a b c d ≡ rust_crosses (Plane.in_mm a) (Plane.in_mm b) (Plane.in_mm c) (Plane.in_mm d)
  unfolding segments_cross ratio
  same-crossing =
      go (eq_z z (pos 0)) refl
      ∙ sym (ap (λ (p : Bool). not p && (lit 1 9 <f t) && (t <f nat 1 -f lit 1 9) && (lit 1 9 <f u) && (u <f nat 1 -f lit 1 9)) parallel_is-zero)
    where
      z : ℤ
      z = Grid.cross (Grid.sub b a) (Grid.sub d c)

      t : Float
      t = first_parameter (Plane.in_mm a) (Plane.in_mm b) (Plane.in_mm c) (Plane.in_mm d)

      u : Float
      u = second_parameter (Plane.in_mm a) (Plane.in_mm b) (Plane.in_mm c) (Plane.in_mm d)

      go : (p : Bool) → eq_z z (pos 0) ≡ p
          → (not p && interior (ratio (Grid.cross (Grid.sub c a) (Grid.sub d c)) z) && interior (ratio (Grid.cross (Grid.sub c a) (Grid.sub b a)) z))
          ≡ (not p && (lit 1 9 <f t) && (t <f nat 1 -f lit 1 9) && (lit 1 9 <f u) && (u <f nat 1 -f lit 1 9))
      go true e = refl
      go false e =
          let p = alike t (ratio (Grid.cross (Grid.sub c a) (Grid.sub d c)) z) (first_parameter_lem e).number in
          let q = alike u (ratio (Grid.cross (Grid.sub c a) (Grid.sub b a)) z) (second_parameter_lem e).number in
          (λ i. p i && q i) ∙ sym (grouped true (lit 1 9 <f t) (t <f nat 1 -f lit 1 9) (lit 1 9 <f u) (u <f nat 1 -f lit 1 9))
