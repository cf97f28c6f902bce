-- To be near is mutual, and equal points are near: the tolerance of a sheet of any size is not below zero.
use Prim.Native.Nat.{ℕ, zero, suc, ◌+◌, ◌*◌, ◌^◌}
use native.Mathlib.Nat.{zero-mul}
use native.Mathlib.Omega.{arith}
use mathlib.Core.Path.{◌≡◌, refl, sym, ap, ◌∙◌, subst}
use mathlib.Core.Bool.{Bool, true, false, ◌&&◌, ◌||◌, cond}
use lib.IntN.{ℤ, pos, negsuc, ◌+ℤ◌, ◌*ℤ◌, +ℤ_invr}
use lib.Dec.{T, ltb, eqb}
use lib.Ieee.{Float, Format, prec, emax, low, up, down, nan, fin, inf, binary64, le, lt, eq, mul, div, round, units, odd, of_int}
use borrow.Author.Tests.{lt-ltb}
use Rattle.laws.specs.Double.{nat, lit}
use Rattle.vector.specs.declared.GridPoint.{GridPoint}
use Rattle.vector.specs.Grid.{sub, dot, same}
use Rattle.laws.specs.Units.{mm²}
use Rattle.vector.proofs.Same.{same→}
use Rattle.root.specs.Root.{root_of}
use Rattle.root.specs.Norm.{grid_norm, grid_dist}
use Rattle.root.proofs.Length.{grid_dist_comm}
use Rattle.nearness.specs.Nearness.{tolerance, near}

-- ---- mutual
pub near_comm : (tol : Float) (a b : GridPoint) → near tol b a ≡ near tol a b
unfolding near
near_comm tol a b = ap (λ (d : Float). le d tol) (grid_dist_comm a b)

-- ---- equal points
-- a point is at distance +0 from itself
grid_dist_self : (a : GridPoint) → grid_dist a a ≡ fin false 0 (pos 0)
unfolding grid_dist grid_norm sub dot mm² root_of of_int round units odd div
grid_dist_self a = λ i. root_of (mm² (+ℤ_invr a.x i *ℤ +ℤ_invr a.x i +ℤ +ℤ_invr a.y i *ℤ +ℤ_invr a.y i))

-- a positive number's multiple by a whole number is rounded to one that is not below +0
data Plus : Float → Type 0 where
  finite : (m : ℕ) (e : ℤ) → Plus (fin false m e)
  infinite : Plus (inf false)

plus-odd : (d q k l : ℕ) → Plus (odd d false q k l)
unfolding odd
plus-odd d zero k l = finite 0 (pos 0)
plus-odd d (suc q) k l = finite _ _

plus-units : (f : Format) (q k : ℕ) → Plus (units f false q k)
unfolding units
plus-units f q k = go (ltb (q * 2 ^ k) (2 ^ (low f + suc (emax f))))
  where
    go : (b : Bool) → Plus (cond b (odd (suc (prec f)) false q k (low f)) (inf false))
    go true = plus-odd (suc (prec f)) q k (low f)
    go false = infinite

plus_round : (f : Format) (n d : ℕ) → Plus (round f false n d)
unfolding round
plus_round f n d = plus-units f _ _

plus-mul : (f : Format) (m : ℕ) (e : ℤ) (y : Float) → eqb m 0 ≡ false → Plus y → Plus (mul f (fin false m e) y)
unfolding mul
plus-mul f m e y h (finite n d) = plus_round f _ _
plus-mul f m e y h infinite = subst (λ (b : Bool). Plus (cond b nan (inf false))) (sym h) infinite

zero-least : (x : Float) → Plus x → le (fin false 0 (pos 0)) x ≡ true
unfolding le lt eq
zero-least x (finite m e) = rw (zero-mul (down e)) (go (m * up e * 1))
  where
    go : (n : ℕ) → ltb 0 n || (eqb 0 n && true) ≡ true
    go zero = refl
    go (suc n) = ap (λ (b : Bool). b || (eqb 0 (suc n) && true)) (lt-ltb 0 (suc n) (omega arith))
zero-least x infinite = refl

pub tolerance-plus : (size : ℕ) → le (fin false 0 (pos 0)) (tolerance size) ≡ true
unfolding tolerance lit round units odd of_int
tolerance-plus size = zero-least (tolerance size) (plus-mul binary64 944473296573929 (negsuc 72) (nat size) refl (plus_round binary64 size 1))

pub near_self : (size : ℕ) (a : GridPoint) → near (tolerance size) a a ≡ true
unfolding near
near_self size a = ap (λ (d : Float). le d (tolerance size)) (grid_dist_self a) ∙ tolerance-plus size

pub near_same : (size : ℕ) (a b : GridPoint) → same a b ≡ true → near (tolerance size) a b ≡ true
near_same size a b e = ap (λ (p : GridPoint). near (tolerance size) a p) (sym (same→ a b (subst T (sym e) tt))) ∙ near_self size a
