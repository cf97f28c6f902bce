-- From units of the smallest value to the fractions of specs/Nearest.antt: the middle of two values, its square beside x, and the order.
use mathlib.Core.Path.{◌≡◌, sym, ap, ◌∙◌}
use mathlib.Core.Bool.{true, false, true≢false}
use Prim.Native.Nat.{ℕ, ◌+◌, ◌*◌, ◌^◌, ◌<◌}
use native.Mathlib.Nat.{le_of_eq, lt_of_lt_of_le, lt_of_le_of_lt, mul_comm, mul_assoc, mul_right_comm, mul-mul-mul_comm, add-mul, mul-lt-mul_of_pos_right}
use native.Mathlib.Nat.{lt_of_mul-lt-mul_right, mul-pos}
use lib.Dec.{T, ltb→lt}
use lib.Pow.{pow_pos}
use lib.Ieee.{Float, nan, inf, fin, up, down, lt}
use lib.Ieee.Exact.{HasValue}
use lib.Ieee.Positive.{num, den, den_pos, value→cross}
use Rattle.root.specs.Nearest.{middle, twice, MiddleBelow, MiddleAbove}

-- two values over one denominator, in units
module _ (y r : Float) (w q : ℕ) (Y : HasValue y false w (2 ^ 1074)) (R : HasValue r false q (2 ^ 1074)) where
  first-is : num y * den r * 2 ^ 1074 ≡ w * (den y * den r)
  first-is = mul_right_comm (num y) (den r) (2 ^ 1074) ∙ ap (λ (z : ℕ). z * den r) (value→cross y w (2 ^ 1074) Y) ∙ mul_assoc w (den y) (den r)

  second_is : num r * den y * 2 ^ 1074 ≡ q * (den y * den r)
  second_is =
      mul_right_comm (num r) (den y) (2 ^ 1074) ∙ ap (λ (z : ℕ). z * den y) (value→cross r q (2 ^ 1074) R) ∙ mul_assoc q (den r) (den y)
      ∙ ap (λ (z : ℕ). q * z) (mul_comm (den r) (den y))

  middle-is : middle y r * 2 ^ 1074 ≡ (w + q) * (den y * den r)
  middle-is =
      add-mul (num y * den r) (num r * den y) (2 ^ 1074) ∙ ap (λ (z : ℕ). z + num r * den y * 2 ^ 1074) first-is
      ∙ ap (λ (z : ℕ). w * (den y * den r) + z) second_is ∙ sym (add-mul w q (den y * den r))

  -- the order of the values is that of their units
  pub lt-units : T (lt y r) → w < q
  lt-units t =
      lt_of_mul-lt-mul_right (den y * den r)
      (lt_of_le_of_lt (le_of_eq (sym first-is)) (lt_of_lt_of_le (mul-lt-mul_of_pos_right (says y r Y R t) (pow_pos 1074)) (le_of_eq second_is)))
    where
      says : (y r : Float) → HasValue y false w (2 ^ 1074) → HasValue r false q (2 ^ 1074) → T (lt y r) → num y * den r < num r * den y
      says nan r Y R t = absurd Y
      says (inf s) r Y R t = absurd Y
      says (fin true m e) r Y R t = absurd (true≢false Y.0)
      says (fin false m e) nan Y R t = absurd R
      says (fin false m e) (inf s) Y R t = absurd R
      says (fin false m e) (fin true n d) Y R t = absurd (true≢false R.0)
      says (fin false m e) (fin false n d) Y R t = unfold lt in ltb→lt (m * up e * down d) (n * up d * down e) t

  -- the square of the middle beside an x of a units
  module _ (x : Float) (a : ℕ) (X : HasValue x false a (2 ^ 1074)) where
    left_is : middle y r * middle y r * den x * (2 ^ 1074 * 2 ^ 1074) ≡ (w + q) * (w + q) * (den y * den r * (den y * den r) * den x)
    left_is =
        mul_right_comm (middle y r * middle y r) (den x) (2 ^ 1074 * 2 ^ 1074)
        ∙ ap (λ (z : ℕ). z * den x)
        (mul-mul-mul_comm (middle y r) (middle y r) (2 ^ 1074) (2 ^ 1074) ∙ ap (λ (z : ℕ). z * z) middle-is
        ∙ mul-mul-mul_comm (w + q) (den y * den r) (w + q) (den y * den r))
        ∙ mul_assoc ((w + q) * (w + q)) (den y * den r * (den y * den r)) (den x)

    right_is : num x * (twice y r * twice y r) * (2 ^ 1074 * 2 ^ 1074) ≡ a * 2 ^ 1076 * (den y * den r * (den y * den r) * den x)
    right_is =
        let D = den y * den r * (den y * den r) in
        ap (λ (z : ℕ). num x * z * (2 ^ 1074 * 2 ^ 1074)) (mul-mul-mul_comm 2 (den y * den r) 2 (den y * den r))
        ∙ mul-mul-mul_comm (num x) (4 * D) (2 ^ 1074) (2 ^ 1074)
        ∙ ap (λ (z : ℕ). z * (4 * D * 2 ^ 1074)) (value→cross x a (2 ^ 1074) X)
        ∙ ap (λ (z : ℕ). a * den x * z) (mul_right_comm 4 D (2 ^ 1074))
        ∙ mul-mul-mul_comm a (den x) (2 ^ 1076) D
        ∙ ap (λ (z : ℕ). a * 2 ^ 1076 * z) (mul_comm (den x) D)

    dens : 0 < den y * den r * (den y * den r) * den x
    dens = mul-pos (mul-pos (mul-pos (den_pos y) (den_pos r)) (mul-pos (den_pos y) (den_pos r))) (den_pos x)

    pub to_below : (w + q) * (w + q) < a * 2 ^ 1076 → MiddleBelow x y r
    to_below h =
        lt_of_mul-lt-mul_right (2 ^ 1074 * 2 ^ 1074)
        (lt_of_le_of_lt (le_of_eq left_is) (lt_of_lt_of_le (mul-lt-mul_of_pos_right h dens) (le_of_eq (sym right_is))))

    pub to-above : a * 2 ^ 1076 < (w + q) * (w + q) → MiddleAbove x y r
    to-above h =
        lt_of_mul-lt-mul_right (2 ^ 1074 * 2 ^ 1074)
        (lt_of_le_of_lt (le_of_eq right_is) (lt_of_lt_of_le (mul-lt-mul_of_pos_right h dens) (le_of_eq (sym left_is))))
