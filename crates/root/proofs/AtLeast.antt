-- Claim: the root of x is not below any double above zero whose square is at most x (`root-least`). So a root is told from a small bound by x
-- alone: where x is at least 2 ^ -24 and t is below 2 ^ -12, the root of x is not at most t (`root-above`).
use mathlib.Core.Path.{◌≡◌, sym, subst}
use mathlib.Core.Bool.{true, false}
use Prim.Native.Nat.{ℕ, zero, suc, ◌+◌, ◌*◌, ◌≤◌, ◌<◌}
use native.Mathlib.Nat.{le_trans, le_of_eq, lt_of_lt_of_le, lt_irrefl, mul_assoc, mul_comm, mul_left_comm, mul-le-mul, mul-le-mul_right}
use native.Mathlib.Omega.{arith}
use lib.IntN.{ℤ, negsuc}
use lib.Dec.{T, lt→ltb}
use lib.Ieee.{Float, nan, inf, fin, binary64, fits, lt, le}
use lib.Ieee.Positive.{num, den, le→cross, above_of_le}
use Rattle.laws.proofs.Booleans.{bool_ext}
use Rattle.laws.proofs.Order.{lt→le, le-lt_trans_f}
use Rattle.root.specs.Root.{root_of}
use Rattle.root.proofs.NearestRoot.{nearest-root}

-- X / x is no less than the square of Y / y, and R / r no more than Y / y: the middle of the two last is not above the root of the first
squares : (X x Y y R r : ℕ) → Y * Y * x ≤ X * (y * y) → R * y ≤ Y * r → X * (2 * (y * r) * (2 * (y * r))) < (Y * r + R * y) * (Y * r + R * y) * x → ⊥
squares X x Y y R r h k l =
    let m : Y * r + R * y ≤ 2 * (Y * r) = omega (arith, k) in
    let a : 2 * (Y * r) * (2 * (Y * r)) * x ≡ Y * Y * x * (2 * r * (2 * r)) = simp (mul_assoc, mul_comm, mul_left_comm) in
    let b : X * (y * y) * (2 * r * (2 * r)) ≡ X * (2 * (y * r) * (2 * (y * r))) = simp (mul_assoc, mul_left_comm) in
    lt_irrefl (X * (2 * (y * r) * (2 * (y * r))))
    (lt_of_lt_of_le l (le_trans (mul-le-mul_right x (mul-le-mul m m)) (le_trans (le_of_eq a) (le_trans (mul-le-mul_right (2 * r * (2 * r)) h) (le_of_eq b)))))

pub root-least : (m : ℕ) (e : ℤ) (n : ℕ) (d : ℤ) → T (fits binary64 (fin false (suc m) e)) → T (fits binary64 (fin false (suc n) d))
    → num (fin false (suc n) d) * num (fin false (suc n) d) * den (fin false (suc m) e) ≤ num (fin false (suc m) e) *
    (den (fin false (suc n) d) * den (fin false (suc n) d))
    → T (lt (root_of (fin false (suc m) e)) (fin false (suc n) d)) → ⊥
root-least m e n d f g h t =
    let x = fin false (suc m) e in
    let y = fin false (suc n) d in
    let r = root_of x in
    let N = nearest-root m e f in
    squares (num x) (den x) (num y) (den y) (num r) (den r) h (le→cross r y N.above_zero (lt→ltb 0 (suc n) (omega arith)) (lt→le r y t))
    (N.from_above (suc n) d g t)

-- 2 ^ -12 and its square
abbrev pub bound : Float
bound = fin false 1 (negsuc 11)

abbrev pub square : Float
square = fin false 1 (negsuc 23)

not-below : (x : Float) → T (fits binary64 x) → T (le square x) → T (lt (root_of x) bound) → ⊥
unfolding le lt fits
not-below nan f h t = absurd h
not-below (inf true) f h t = absurd h
not-below (inf false) f h t = unfold root_of in absurd t
not-below (fin true m e) f h t = absurd (above_of_le square (fin true m e) tt h)
not-below (fin false zero e) f h t = absurd (above_of_le square (fin false zero e) tt h)
not-below (fin false (suc m) e) f h t = root-least m e 0 (negsuc 11) f tt (le→cross square (fin false (suc m) e) tt (lt→ltb 0 (suc m) (omega arith)) h) t

pub root-above : (x t : Float) → T (fits binary64 x) → le square x ≡ true → lt t bound ≡ true → le (root_of x) t ≡ false
root-above x t f h k =
    bool_ext (le (root_of x) t) false (λ l. not-below x f (subst T (sym h) tt) (le-lt_trans_f (root_of x) t bound l (subst T (sym k) tt))) (λ z. absurd z)
