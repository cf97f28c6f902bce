-- Claim: a length is 0 exactly where the step is (`zero-length`), and no other length is below 2 ^ -13 mm, one unit
-- (`unit-or-more`). So for every limit t from 0 up to that, and 0.0, 1.0e-12 and 1.0e-9 are such limits, the test
-- `norm(v) <= t` holds exactly if the step v is zero (`short-is-zero`), and `dist(a, b) <= t` exactly if the points a
-- and b on the sheet are the same (`near-is-same`); of the Rust's doubles in mm as well (`rust_short-is-zero`,
-- `rust_near-is-same`).
use mathlib.Core.Path.{◌≡◌, refl, sym, ap, ◌∙◌, subst}
use mathlib.Core.Bool.{true, false, true≢false}
use Prim.Native.Nat.{ℕ, zero, suc, ◌*◌, ◌^◌, ◌≤◌, ◌<◌}
use native.Mathlib.Omega.{arith}
use lib.IntN.{ℤ, pos, negsuc, nat_abs}
use lib.Dec.{T, lit≤, not_T}
use lib.Ieee.{Float, fin, binary64, down, up, fits, le, lt, eq, div, is_nan, of_int, round, inf, nan}
use lib.Ieee.Exact.{HasValue}
use lib.Ieee.Fits.{down_pos}
use Rattle.laws.specs.Double.{◌≤f◌, lit, nat, naught}
use Rattle.laws.specs.Units as Units
use Rattle.laws.proofs.Booleans.{bool_ext}
use Rattle.laws.proofs.Between.{within_real}
use Rattle.laws.proofs.Order.{le-lt_trans_f, not_lt→le}
use Rattle.laws.proofs.Scaled.{scaled_value}
use Rattle.laws.proofs.Units.{mm²-is, mm²-fits}
use Rattle.vector.specs.declared.GridPoint.{GridPoint}
use Rattle.vector.specs.Grid as Grid
use Rattle.vector.specs.Plane as Plane
use Rattle.vector.specs.Size.{OnSheet, SheetStep}
use Rattle.vector.proofs.Same.{same→, →same, step-zero}
use Rattle.vector.proofs.Sheet.{step}
use Rattle.root.specs.Root.{root_of}
use Rattle.root.specs.Norm.{norm, dist, grid_norm, grid_dist}
use Rattle.root.proofs.AtLeast.{root-least}
use Rattle.root.proofs.Length.{grid_norm-within}
use Rattle.root.proofs.RustLengths.{square_sum, dot-is, dot-small, dot-zero, norm_in_mm, dist_in_mm}

-- 2 ^ -13 mm
abbrev pub unit : Float
unit = fin false 1 (negsuc 12)

-- ---- the root of a square unit or more is not below one unit
not-below : (x : Float) (a : ℕ) → T (fits binary64 x) → HasValue x false (suc a) (2 ^ 26) → T (lt (root_of x) unit) → ⊥
unfolding fits
not-below (fin true m e) a f h t = true≢false h.0
not-below (fin false zero e) a f h t = none (up e) (down e) (down_pos e) h.1
  where
    none : (u d : ℕ) → 0 < d → 0 * u * 2 ^ 26 ≡ suc a * d → ⊥
    none u d D g = omega arith
not-below (fin false (suc m) e) a f h t = root-least m e 0 (negsuc 12) f tt (least (suc m * up e) (down e) h.1) t
  where
    least : (n d : ℕ) → n * 2 ^ 26 ≡ suc a * d → 1 * d ≤ n * 2 ^ 26
    least n d g = omega arith
not-below nan a f h t = elim h [ ]
not-below (inf _) a f h t = elim h [ ]

-- the root of the whole number n over 2 ^ 26, by n
at_zero : root_of (Units.mm² (pos 0)) ≡ naught
unfolding root_of Units.mm² of_int round div
at_zero = refl

from_one : (n : ℕ) → suc n ≤ 2 ^ 53 → T (lt (root_of (Units.mm² (pos (suc n)))) unit) → ⊥
from_one n l = not-below (Units.mm² (pos (suc n))) n (mm²-fits (pos (suc n)))
    (subst (λ (x : Float). HasValue x false (suc n) (2 ^ 26)) (sym (mm²-is (pos (suc n)) l)) (scaled_value binary64 (pos (suc n)) 26 l (lit≤ tt)))

dot-origin : Grid.dot Grid.origin Grid.origin ≡ pos 0
unfolding Grid.dot
dot-origin = refl

-- ---- the claim
module _ (t : Float) (low : T (le naught t)) (high : T (lt t unit)) where
  pub short-is-zero : (v : GridPoint) → SheetStep v → (grid_norm v ≤f t) ≡ Grid.same v Grid.origin
  unfolding grid_norm
  short-is-zero v s = go (square_sum v) (dot-is v) (dot-small v s)
    where
      go : (n : ℕ) → Grid.dot v v ≡ pos n → n ≤ 2 ^ 53 → le (root_of (Units.mm² (Grid.dot v v))) t ≡ Grid.same v Grid.origin
      go zero e l =
          bool_ext (le (root_of (Units.mm² (Grid.dot v v))) t) (Grid.same v Grid.origin) (λ k. →same v Grid.origin (dot-zero v e))
          (λ k. subst (λ (x : Float). T (le x t)) (sym (ap (λ (z : ℤ). root_of (Units.mm² z)) e ∙ at_zero)) low)
      go (suc n) e l =
          bool_ext (le (root_of (Units.mm² (Grid.dot v v))) t) (Grid.same v Grid.origin)
          (λ k. absurd (from_one n l
          (subst (λ (z : ℤ). T (lt (root_of (Units.mm² z)) unit)) e (le-lt_trans_f (root_of (Units.mm² (Grid.dot v v))) t unit k high))))
          (λ k. absurd (omega (arith, ap nat_abs (sym e ∙ ap (λ (u : GridPoint). Grid.dot u u) (same→ v Grid.origin k) ∙ dot-origin))))

  pub near-is-same : (a b : GridPoint) → OnSheet a → OnSheet b → (grid_dist a b ≤f t) ≡ Grid.same a b
  unfolding grid_dist
  near-is-same a b h k = short-is-zero (Grid.sub a b) (step a b h k) ∙ step-zero a b

  pub rust_short-is-zero : (v : GridPoint) → SheetStep v → (norm (Plane.in_mm v) ≤f t) ≡ Grid.same v Grid.origin
  rust_short-is-zero v s = ap (λ (d : Float). le d t) (sym (norm_in_mm v s)) ∙ short-is-zero v s

  pub rust_near-is-same : (a b : GridPoint) → OnSheet a → OnSheet b → (dist (Plane.in_mm a) (Plane.in_mm b) ≤f t) ≡ Grid.same a b
  rust_near-is-same a b h k = ap (λ (d : Float). le d t) (sym (dist_in_mm a b h k)) ∙ near-is-same a b h k

-- a step that is not zero is one unit long or longer
pub unit-or-more : (v : GridPoint) → SheetStep v → Grid.same v Grid.origin ≡ false → T (le unit (grid_norm v))
unfolding grid_norm is_nan
unit-or-more v s n = go (square_sum v) (dot-is v) (dot-small v s)
  where
    go : (m : ℕ) → Grid.dot v v ≡ pos m → m ≤ 2 ^ 53 → T (le unit (root_of (Units.mm² (Grid.dot v v))))
    go zero e l = absurd (subst T n (→same v Grid.origin (dot-zero v e)))
    go (suc m) e l =
        let r = root_of (Units.mm² (Grid.dot v v)) in
        not_lt→le r unit (within_real (2 ^ 14) r (grid_norm-within v s)) tt
        (not_T (lt r unit) (λ t. from_one m l (subst (λ (z : ℤ). T (lt (root_of (Units.mm² z)) unit)) e t)))

-- ---- the three limits
pub from_0 : (T (le naught (nat 0))) × T (lt (nat 0) unit)
unfolding of_int round le lt eq
from_0 = (tt, tt)

pub from_12 : (T (le naught (lit 1 12))) × T (lt (lit 1 12) unit)
unfolding lit round le lt eq
from_12 = (tt, tt)

pub from_9 : (T (le naught (lit 1 9))) × T (lt (lit 1 9) unit)
unfolding lit round le lt eq
from_9 = (tt, tt)

-- as data: a zero step has the length +0, and no other step has it
pub zero-length : (v : GridPoint) → SheetStep v → (T (Grid.same v Grid.origin) → grid_norm v ≡ naught) × (grid_norm v ≡ naught → T (Grid.same v Grid.origin))
unfolding grid_norm
zero-length v s = (
  λ t. ap (λ (u : GridPoint). root_of (Units.mm² (Grid.dot u u))) (same→ v Grid.origin t) ∙ ap (λ (z : ℤ). root_of (Units.mm² z)) dot-origin ∙ at_zero,
  λ e. subst T (short-is-zero (nat 0) from_0.0 from_0.1 v s) (subst (λ (x : Float). T (le x (nat 0))) (sym e) from_0.0),
)
