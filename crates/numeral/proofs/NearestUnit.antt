-- Claim: the units of a number n / d are the nearest count of 1/8192 mm, halves away from zero, and no other count is.
use Prim.Native.Nat.{ℕ, ◌+◌, ◌*◌, ◌≤◌, ◌<◌}
use mathlib.Core.Path.{◌≡◌}
use native.Mathlib.Omega.{arith}
use native.Mathlib.Nat.{div-add-mod', mod-lt, mul_left_comm, le_antisymm, lt_of_mul-lt-mul_right, add-mul}
use Rattle.numeral.specs.Numeral.{units}
use Rattle.numeral.specs.Nearest.{NearestAway}

pub nearest : (n d : ℕ) → 0 < d → NearestAway n d (units n d)
unfolding units
nearest n d h =
    let e = div-add-mod' (n * 16384 + d) (2 * d) in
    let k = mod-lt (n * 16384 + d) {m = 2 * d} (omega arith) in
    let p : units n d * (2 * d) ≡ 2 * (units n d * d) = mul_left_comm (units n d) 2 d in
    record { from = omega arith; below = omega arith }

-- no other count is
pub no_other : (n d U : ℕ) → 0 < d → NearestAway n d U → U ≡ units n d
no_other n d U h r =
    let s = nearest n d h in
    le_antisymm (not-above U (units n d) r s) (not-above (units n d) U s r)
  where
    not-above : (a b : ℕ) → NearestAway n d a → NearestAway n d b → a ≤ b
    not-above a b x y =
        let k : a * d < b * d + d = omega (arith, x.from, y.below) in
        let e : (b + 1) * d ≡ b * d + d = add-mul-one b in
        let z : a < b + 1 = lt_of_mul-lt-mul_right d (rw e k) in
        omega arith
      where
        add-mul-one : (b : ℕ) → (b + 1) * d ≡ b * d + d
        add-mul-one b = simp add-mul (omega arith)
