-- Claim: the cosine of two steps, whose coordinates are up to 2 ^ 24 units, is never a NaN and lies in [-1, 1] (`cosine_range`).
-- And it is the Rust's: the quotient that angle_between_deg takes of the two steps in mm, held to [-1, 1], and 1, the cosine of
-- its 0 degrees, where a norm is <= 0.0. The two are the same number (`cosine-number`), and the same double unless the steps are
-- at right angles, where the Rust's zero may be -0.0 (`cosine-same`).
use mathlib.Core.Path.{◌≡◌, refl, sym, ap, ◌∙◌, subst}
use mathlib.Core.Bool.{Bool, true, false, ◌||◌, not, cond}
use Prim.Native.Nat.{ℕ, zero, suc, ◌+◌, ◌*◌, ◌^◌, ◌≤◌, ◌<◌}
use native.Mathlib.Nat.{mul-le-mul, mul-pos, zero-lt-suc}
use native.Mathlib.Omega.{arith}
use lib.IntN.{ℤ, pos, negsuc, nat_abs}
use lib.Dec.{T, lit≤, not_T}
use lib.Pow.{pow_pos}
use lib.Ieee.{Float, fin, binary64, eq, fits, is_nan, le, lt, of_int, round}
use lib.Ieee.Positive.{den, den_pos, num}
use lib.Ieee.Scale.{finite}
use Rattle.laws.specs.Double.{◌-f◌, ◌*f◌, ◌/f◌, ◌≤f◌, clamp, minus_one_of, nat, naught, one}
use Rattle.laws.specs.Units.{mm²}
use Rattle.laws.proofs.Between.{within_real}
use Rattle.laws.proofs.Bounds.{mul-within}
use Rattle.laws.proofs.Clamp.{clamp-between, clamp-within}
use Rattle.laws.proofs.Constants.{minus_one_is, one-is}
use Rattle.laws.proofs.Fractions.{less, le→Le, plus}
use Rattle.laws.proofs.Grid.{IsZ, is_z_eq, is_z_val}
use Rattle.laws.proofs.Order.{le_antisym_f, le_refl_f, le_trans_f, lt-le_trans_f, lt→not_le}
use Rattle.laws.proofs.Quotient.{above_zero, quotient-real}
use Rattle.laws.proofs.Results.{mul_rounds}
use Rattle.laws.proofs.Round.{rounds_ge}
use Rattle.laws.proofs.UnitInterval.{nonneg}
use Rattle.laws.proofs.Units.{mm²_is_z}
use Rattle.laws.proofs.WholeQuotient.{clamp-zero, holds_is_z, zero-over}
use Rattle.vector.specs.declared.GridPoint.{GridPoint}
use Rattle.vector.specs.declared.Point.{Point}
use Rattle.vector.specs.Grid as Grid
use Rattle.vector.specs.Plane as Plane
use Rattle.vector.specs.Size.{SheetStep}
use Rattle.vector.proofs.RustDoubles as exact
use Rattle.vector.proofs.Sheet.{dot-fits}
use Rattle.root.specs.Norm.{norm, grid_norm}
use Rattle.root.proofs.Length.{grid_norm-within}
use Rattle.root.proofs.RustLengths.{norm_in_mm}
use Rattle.root.proofs.ZeroLengths.{unit, unit-or-more, from_0, rust_short-is-zero}
use Rattle.cosine.specs.Cosine.{cosine}

-- ---- the product of two lengths of a unit or more
product_above : (x y : Float) → T (finite x) → T (finite y) → T (le unit x) → T (le unit y) → T (le (fin false 1 (negsuc 25)) (x *f y))
unfolding fits le lt eq
product_above x y p q h k =
    let a = nonneg x p (le_trans_f naught unit x tt h) in
    let b = nonneg y q (le_trans_f naught unit y tt k) in
    rounds_ge binary64 (x *f y) (fin false 1 (negsuc 25)) (plus x * plus y + less x * less y) (plus x * less y + less x * plus y) (den x * den y)
    (mul-pos (den_pos x) (den_pos y))
    (mul_rounds binary64 x y p q) tt tt
    (go (plus x) (less x) (den x) (plus y) (less y) (den y) a b (le→Le unit x tt p h) (le→Le unit y tt q k))
  where
    go : (a m c b n d : ℕ) → m ≡ 0 → n ≡ 0 → 1 * 1 * c + m * 2 ^ 13 ≤ a * 2 ^ 13 + 0 * c → 1 * 1 * d + n * 2 ^ 13 ≤ b * 2 ^ 13 + 0 * d
        → 1 * 1 * (c * d) + (a * n + m * b) * 2 ^ 26 ≤ (a * b + m * n) * 2 ^ 26 + 0 * (c * d)
    go a m c b n d e f h k =
        let u : c ≤ a * 2 ^ 13 = omega arith in
        let v : d ≤ b * 2 ^ 13 = omega arith in
        omega (arith, mul-le-mul u v, ap (λ (z : ℕ). a * z) f, ap (λ (z : ℕ). z * b) e)

module _ (a b : GridPoint) (h : SheetStep a) (k : SheetStep b) where
  abbrev norms : Float
  norms = grid_norm a *f grid_norm b

  finite-norms : T (finite norms)
  finite-norms = (mul-within binary64 (2 ^ 14) (2 ^ 14) (grid_norm a) (grid_norm b) (lit≤ tt) (grid_norm-within a h) (grid_norm-within b k)).0

  module _ (p : Grid.same a Grid.origin ≡ false) (q : Grid.same b Grid.origin ≡ false) where
    pub norms-above : 0 < num norms
    unfolding of_int round le lt eq
    norms-above =
        let l = product_above (grid_norm a) (grid_norm b) (grid_norm-within a h).0 (grid_norm-within b k).0 (unit-or-more a h p) (unit-or-more b k q) in
        above_zero norms finite-norms (not_T (norms ≤f nat 0) (λ t. lt→not_le norms (nat 0) (lt-le_trans_f (nat 0) (fin false 1 (negsuc 25)) norms tt l) t))

-- ---- the range
abbrev pub InRange : Float → Type 0
InRange c = T (not (is_nan c)) × T (le minus_one_of c) × T (le c one)

one_in_range : InRange one
unfolding is_nan le lt eq
one_in_range = (tt, tt, tt)

held : (c : Float) → T (not (is_nan c)) → InRange (clamp minus_one_of one c)
unfolding is_nan le lt eq
held c r =
    let b = clamp-between minus_one_of one c tt tt r tt in
    (within_real 1 (clamp minus_one_of one c) (clamp-within minus_one_of one c tt tt r tt 1 (tt, lit≤ tt) (tt, lit≤ tt)), b.0, b.1)

-- the cosine, its limits written as data
abbrev quotient : GridPoint → GridPoint → Float
quotient a b = mm² (Grid.dot a b) /f (grid_norm a *f grid_norm b)

cosine-is : (a b : GridPoint) → cosine a b ≡ cond (Grid.same a Grid.origin || Grid.same b Grid.origin) one (clamp minus_one_of one (quotient a b))
unfolding cosine
cosine-is a b = λ i. cond (Grid.same a Grid.origin || Grid.same b Grid.origin) (one-is i) (clamp (minus_one_is i) (one-is i) (quotient a b))

module _ (a b : GridPoint) (h : SheetStep a) (k : SheetStep b) where
  real : Grid.same a Grid.origin ≡ false → Grid.same b Grid.origin ≡ false → T (not (is_nan (quotient a b)))
  real p q =
      quotient-real binary64 (mm² (Grid.dot a b)) (grid_norm a *f grid_norm b)
      (is_z_val (mm² (Grid.dot a b)) (Grid.dot a b) (2 ^ 26) (mm²_is_z (Grid.dot a b) (dot-fits a b h k))).0
      (finite-norms a b h k) (norms-above a b h k p q)

  pub cosine_range : InRange (cosine a b)
  cosine_range = subst InRange (sym (cosine-is a b)) (go (Grid.same a Grid.origin) (Grid.same b Grid.origin) refl refl)
    where
      go : (p q : Bool) → Grid.same a Grid.origin ≡ p → Grid.same b Grid.origin ≡ q → InRange (cond (p || q) one (clamp minus_one_of one (quotient a b)))
      go true q e f = one_in_range
      go false true e f = one_in_range
      go false false e f = held (quotient a b) (real e f)

-- ---- the Rust's, over steps in mm
abbrev pub rust_cosine : Point → Point → Float
rust_cosine a b = cond ((norm a ≤f nat 0) || (norm b ≤f nat 0)) (nat 1) (clamp (nat 0 -f nat 1) (nat 1) (Plane.dot a b /f (norm a *f norm b)))

minus-one_is_z : IsZ minus_one_of (negsuc 0) 1
minus-one_is_z = (true, 1, (refl, refl), refl)

one_is_z : IsZ one (pos 1) 1
one_is_z = (false, 1, (refl, refl), refl)

module _ (a b : GridPoint) (h : SheetStep a) (k : SheetStep b) where
  abbrev dot_mm : Float
  dot_mm = Plane.dot (Plane.in_mm a) (Plane.in_mm b)

  -- the Rust's tests and norms, by the grid's
  rust_is : rust_cosine (Plane.in_mm a) (Plane.in_mm b)
      ≡ cond (Grid.same a Grid.origin || Grid.same b Grid.origin) one (clamp minus_one_of one (dot_mm /f (grid_norm a *f grid_norm b)))
  rust_is =
      let p = rust_short-is-zero (nat 0) from_0.0 from_0.1 a h in
      let q = rust_short-is-zero (nat 0) from_0.0 from_0.1 b k in
      let u = sym (norm_in_mm a h) in
      let v = sym (norm_in_mm b k) in
      λ i. cond (p i || q i) (one-is i) (clamp (minus_one_is i) (one-is i) (dot_mm /f (u i *f v i)))

  pub cosine-same : (Grid.dot a b ≡ pos 0 → ⊥) → rust_cosine (Plane.in_mm a) (Plane.in_mm b) ≡ cosine a b
  cosine-same n =
      let e = (exact.dot a b h k).same n in
      rust_is ∙ (λ i. cond (Grid.same a Grid.origin || Grid.same b Grid.origin) one (clamp minus_one_of one (e i /f (grid_norm a *f grid_norm b))))
      ∙ sym (cosine-is a b)

  self : T (eq (cosine a b) (cosine a b))
  self = let r = le_refl_f (cosine a b) (cosine_range a b h k).0 in le_antisym_f (cosine a b) (cosine a b) r r

  -- where dot is 0, both quotients are zeros
  at-right_angles : (x : Float) → IsZ x (pos 0) (2 ^ 26) → Grid.same a Grid.origin ≡ false → Grid.same b Grid.origin ≡ false
      → IsZ (clamp minus_one_of one (x /f (grid_norm a *f grid_norm b))) (pos 0) 1
  at-right_angles x z p q =
      let y = x /f (grid_norm a *f grid_norm b) in
      let o = zero-over binary64 x (grid_norm a *f grid_norm b) (2 ^ 26) (pow_pos 26) z (finite-norms a b h k) (norms-above a b h k p q) in
      subst (λ (v : Float). IsZ v (pos 0) 1) (sym (clamp-zero minus_one_of one y (negsuc 0) (pos 1) minus-one_is_z one_is_z o refl refl)) o

  pub cosine-number : T (eq (rust_cosine (Plane.in_mm a) (Plane.in_mm b)) (cosine a b))
  cosine-number = go (Grid.dot a b) refl
    where
      one-self : T (eq one one)
      one-self = let r = le_refl_f one one_in_range.0 in le_antisym_f one one r r

      zeros : (p q : Bool) → Grid.same a Grid.origin ≡ p → Grid.same b Grid.origin ≡ q → Grid.dot a b ≡ pos 0
          → T (eq (cond (p || q) one (clamp minus_one_of one (dot_mm /f (grid_norm a *f grid_norm b))))
          (cond (p || q) one (clamp minus_one_of one (quotient a b))))
      zeros true q e f z = one-self
      zeros false true e f z = one-self
      zeros false false e f z =
          is_z_eq (clamp minus_one_of one (dot_mm /f (grid_norm a *f grid_norm b))) (clamp minus_one_of one (quotient a b)) (pos 0) 1 (zero-lt-suc 0)
          (at-right_angles dot_mm (subst (λ (d : ℤ). IsZ dot_mm d (2 ^ 26)) z (holds_is_z dot_mm (Grid.dot a b) (dot-fits a b h k) (exact.dot a b h k))) e f)
          (at-right_angles (mm² (Grid.dot a b)) (subst (λ (d : ℤ). IsZ (mm² (Grid.dot a b)) d (2 ^ 26)) z (mm²_is_z (Grid.dot a b) (dot-fits a b h k))) e f)

      go : (d : ℤ) → Grid.dot a b ≡ d → T (eq (rust_cosine (Plane.in_mm a) (Plane.in_mm b)) (cosine a b))
      go (pos zero) z =
          subst (λ (x : Float). T (eq x (cosine a b))) (sym rust_is)
          (subst (λ (y : Float). T
          (eq (cond (Grid.same a Grid.origin || Grid.same b Grid.origin) one (clamp minus_one_of one (dot_mm /f (grid_norm a *f grid_norm b)))) y))
          (sym (cosine-is a b)) (zeros (Grid.same a Grid.origin) (Grid.same b Grid.origin) refl refl z))
      go (pos (suc n)) z = subst (λ (x : Float). T (eq x (cosine a b))) (sym (cosine-same (λ e. omega (arith, ap nat_abs (sym z ∙ e))))) self
      go (negsuc n) z = subst (λ (x : Float). T (eq x (cosine a b))) (sym (cosine-same (λ e. omega (arith, ap nat_abs (sym z ∙ e))))) self
