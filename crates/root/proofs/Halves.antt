-- The lower half of a root's digits by one division. Nothing here is about floats.
use mathlib.Core.Path.{◌≡◌, sym, ap, ◌∙◌, subst}
use Prim.Native.Nat.{ℕ, zero, suc, ◌+◌, ◌-◌, ◌*◌, ◌/◌, ◌%◌, ◌^◌, ◌≤◌, ◌<◌}
use native.Mathlib.Nat.{lt_of_not-le, lt_of_le_of_lt, le_of_suc-le-suc, add-mul, mul-add, mul_comm, mul_assoc, mul_right_comm, mul-mul-mul_comm, mul-le-mul}
use native.Mathlib.Nat.{mul-le-mul_right, div-add-mod', mod-lt}
use native.Mathlib.Omega.{arith}
use lib.Dec.{lit<}
use Rattle.root.specs.Root.{IsRoot}
use Rattle.root.proofs.Square.{square-back, suc-square}
use Rattle.root.proofs.Heron.{positive}

-- where the square of t is x - w more than n, the whole root is t - 1
lower : (n t x w : ℕ) → t * t + w ≡ n + x → w < x → x ≤ t * 2 - 1 → 0 < t → IsRoot n (t - 1)
lower n zero x w e h k p = absurd (omega arith)
lower n (suc t) x w e h k p = subst (IsRoot n) (same t) (record { below = omega (arith, suc-square t); above = omega arith })
  where
    same : (t : ℕ) → t ≡ suc t - 1
    same t = omega arith

-- ---- the upper half a, and what it leaves of n
upper_from : (n a : ℕ) → 2 ^ 52 ≤ n → IsRoot n a → 2 ^ 26 ≤ a
upper_from n a h i = le_of_suc-le-suc (square-back (2 ^ 26) (suc a) (lt_of_le_of_lt h i.above))

upper_to : (n a : ℕ) → n < 2 ^ 54 → IsRoot n a → a < 2 ^ 27
upper_to n a h i = square-back a (2 ^ 27) (lt_of_le_of_lt i.below h)

rest : (n a : ℕ) → IsRoot n a → n - a * a ≤ a * 2
rest n a i = omega (arith, i.above, i.below, suc-square a)

-- ---- the lower half b: what is left, with 27 zeros after it, divided by 2 a
module _ (n a b v : ℕ) (lo : 2 ^ 52 ≤ n) (hi : n < 2 ^ 54) (i : IsRoot n a) (split : b * (a * 2) + v ≡ (n - a * a) * 2 ^ 27) (under : v < a * 2) where
  -- n * 2 ^ 54 is the square of a * 2 ^ 27 + b, and v * 2 ^ 27 - b * b more
  square : (a * 2 ^ 27 + b) * (a * 2 ^ 27 + b) + v * 2 ^ 27 ≡ n * 2 ^ 54 + b * b
  square =
      let e : (a * 2 ^ 27 + b) * (a * 2 ^ 27 + b) ≡ a * 2 ^ 27 * (a * 2 ^ 27) + a * 2 ^ 27 * b + (b * (a * 2 ^ 27) + b * b) =
      simp (add-mul, mul-add) (omega arith) in
      let f : a * 2 ^ 27 * (a * 2 ^ 27) ≡ a * a * 2 ^ 54 = mul-mul-mul_comm a (2 ^ 27) a (2 ^ 27) in
      let g : a * 2 ^ 27 * b ≡ b * a * 2 ^ 27 = mul_right_comm a (2 ^ 27) b ∙ ap (λ (x : ℕ). x * 2 ^ 27) (mul_comm a b) in
      let h : b * (a * 2 ^ 27) ≡ b * a * 2 ^ 27 = sym (mul_assoc b a (2 ^ 27)) in
      let k : b * (a * 2) ≡ b * a * 2 = sym (mul_assoc b a 2) in
      omega (arith, split, i.below)

  digits_le : b ≤ 2 ^ 27
  digits_le =
      le_of_suc-le-suc (lt_of_not-le (λ (g : suc (2 ^ 27) ≤ b). too_many (mul-le-mul_right (a * 2) g)))
    where
      too_many : suc (2 ^ 27) * (a * 2) ≤ b * (a * 2) → ⊥
      too_many h = omega (arith, split, rest n a i, upper_from n a lo i)

  pub over : v * 2 ^ 27 < b * b → IsRoot (n * 2 ^ 54) (a * 2 ^ 27 + b - 1)
  over h =
      let p : 0 < b = positive (v * 2 ^ 27) b h in
      lower (n * 2 ^ 54) (a * 2 ^ 27 + b) (b * b) (v * 2 ^ 27) square h (omega (arith, mul-le-mul digits_le digits_le, upper_from n a lo i)) (omega arith)

-- ---- the quotient and the remainder that the code computes, and their ranges
abbrev pub quot : ℕ → ℕ → ℕ
quot n a = (n - a * a) * 2 ^ 27 / (a * 2)

abbrev pub left : ℕ → ℕ → ℕ
left n a = (n - a * a) * 2 ^ 27 % (a * 2)

pub record Known (n a : ℕ) : Type 0 where
  pub from : 2 ^ 26 ≤ a
  pub to : a < 2 ^ 27
  pub more : n - a * a ≤ a * 2
  pub few : quot n a ≤ 2 ^ 27
  pub under : left n a < a * 2
  pub split : quot n a * (a * 2) + left n a ≡ (n - a * a) * 2 ^ 27

pub known : (n a : ℕ) → 2 ^ 52 ≤ n → n < 2 ^ 54 → IsRoot n a → Known n a
known n a lo hi i =
    let from = upper_from n a lo i in
    let p : 0 < a * 2 = omega arith in
    let split = div-add-mod' ((n - a * a) * 2 ^ 27) (a * 2) in
    let under = mod-lt ((n - a * a) * 2 ^ 27) p in
    record {
      from = from;
      to = upper_to n a hi i;
      more = rest n a i;
      few = digits_le n a (quot n a) (left n a) lo hi i split under;
      under = under;
      split = split;
    }

pub square-few : (b : ℕ) → b ≤ 2 ^ 27 → b * b < 2 ^ 64
square-few b h = lt_of_le_of_lt (mul-le-mul h h) (lit< tt)
