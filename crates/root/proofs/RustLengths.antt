-- Claim: lengths over the grid are the Rust's. For a step, whose coordinates are up to 2 ^ 24 units, `grid_norm` is bit for bit
-- the Rust's `norm` of the same step in mm, which squares, adds and takes the root in doubles (`norm_in_mm`); for two points on
-- the sheet `grid_dist` is bit for bit the Rust's `dist` of the same points in mm (`dist_in_mm`).
use mathlib.Core.Path.{◌≡◌, refl, sym, ap, ◌∙◌}
use Prim.Native.Nat.{ℕ, zero, suc, ◌+◌, ◌*◌, ◌^◌, ◌≤◌}
use native.Mathlib.Nat.{mul-le-mul}
use native.Mathlib.Omega.{arith}
use lib.IntN.{ℤ, pos, negsuc, nat_abs, ◌+ℤ◌, ◌*ℤ◌}
use lib.Ieee.{add, div, mul, of_int, round, sum}
use Rattle.laws.specs.Units as Units
use Rattle.laws.proofs.Integers.{size-zero}
use Rattle.vector.specs.declared.GridPoint.{GridPoint}
use Rattle.vector.specs.Grid as Grid
use Rattle.vector.specs.Plane as Plane
use Rattle.vector.specs.Size.{OnSheet, SheetStep}
use Rattle.vector.proofs.RustDoubles as exact
use Rattle.vector.proofs.Sheet.{step}
use Rattle.root.specs.Root.{root_of}
use Rattle.root.specs.Norm.{norm, dist, grid_norm, grid_dist}

-- ---- a sum of two squares is 0 only where both numbers are
square : (z : ℤ) → z *ℤ z ≡ pos (nat_abs z * nat_abs z)
square (pos n) = refl
square (negsuc n) = refl

nought : (n : ℕ) → n * n ≡ 0 → n ≡ 0
nought zero h = refl
nought (suc n) h = absurd (omega arith)

abbrev pub square_sum : GridPoint → ℕ
square_sum v = nat_abs v.x * nat_abs v.x + nat_abs v.y * nat_abs v.y

pub dot-is : (v : GridPoint) → Grid.dot v v ≡ pos (square_sum v)
unfolding Grid.dot
dot-is v = λ i. square v.x i +ℤ square v.y i

pub dot-small : (v : GridPoint) → SheetStep v → square_sum v ≤ 2 ^ 53
dot-small v s = omega (arith, mul-le-mul s.x s.x, mul-le-mul s.y s.y)

pub dot-zero : (v : GridPoint) → Grid.dot v v ≡ pos 0 → v ≡ Grid.origin
dot-zero v h =
    let e : square_sum v ≡ 0 = ap nat_abs (sym (dot-is v) ∙ h) in
    let x = size-zero v.x (nought (nat_abs v.x) (omega arith)) in
    let y = size-zero v.y (nought (nat_abs v.y) (omega arith)) in
    λ i. record { x = x i; y = y i }

-- ---- the sum under the root, as data: of a zero step too
at-origin : Plane.dot (Plane.in_mm Grid.origin) (Plane.in_mm Grid.origin) ≡ Units.mm² (Grid.dot Grid.origin Grid.origin)
unfolding Plane.dot Plane.in_mm Units.mm Units.mm² Grid.dot of_int round div mul add sum
at-origin = refl

pub square_in_mm : (v : GridPoint) → SheetStep v → Plane.dot (Plane.in_mm v) (Plane.in_mm v) ≡ Units.mm² (Grid.dot v v)
square_in_mm v s = go (square_sum v) (dot-is v)
  where
    go : (n : ℕ) → Grid.dot v v ≡ pos n → Plane.dot (Plane.in_mm v) (Plane.in_mm v) ≡ Units.mm² (Grid.dot v v)
    go zero e =
        let o = dot-zero v e in
        ap (λ (u : GridPoint). Plane.dot (Plane.in_mm u) (Plane.in_mm u)) o ∙ at-origin ∙ ap (λ (u : GridPoint). Units.mm² (Grid.dot u u)) (sym o)
    go (suc n) e = (exact.dot v v s s).same (λ z. omega (arith, ap nat_abs (sym e ∙ z)))

-- ---- the claim
pub norm_in_mm : (v : GridPoint) → SheetStep v → grid_norm v ≡ norm (Plane.in_mm v)
unfolding grid_norm norm
norm_in_mm v s = ap root_of (sym (square_in_mm v s))

pub dist_in_mm : (a b : GridPoint) → OnSheet a → OnSheet b → grid_dist a b ≡ dist (Plane.in_mm a) (Plane.in_mm b)
unfolding grid_dist dist
dist_in_mm a b h k = norm_in_mm (Grid.sub a b) (step a b h k) ∙ ap norm (sym (exact.difference a b h k))
