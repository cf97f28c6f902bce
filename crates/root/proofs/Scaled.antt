-- The code's numbers: a value of m * 2 ^ k units, m shifted up to 53 or 54 digits, the root of that, and the pattern which the code makes of it.
use mathlib.Core.Path.{◌≡◌, sym, ap, ◌∙◌, subst}
use mathlib.Core.Bool.{true, false, true≢false}
use Prim.Native.Nat.{ℕ, zero, suc, ◌+◌, ◌-◌, ◌*◌, ◌/◌, ◌%◌, ◌^◌, ◌≤◌, ◌<◌}
use native.Mathlib.Nat.{le_trans, le_of_eq, le_of_suc-le-suc, lt_of_lt_of_le, lt_of_le_of_lt, lt_irrefl, zero-mul, mul_assoc, mul_right_comm, mul-div_cancel}
use native.Mathlib.Nat.{mul-le-mul_right, mul-lt-mul_of_pos_right, mul-pos, mod-lt}
use native.Mathlib.Omega.{arith}
use lib.Dec.{T, lit<, lit≤}
use lib.Pow.{pow-add, pow_pos}
use lib.Count.{count_leading_zeros, leading_top}
use lib.Ieee.{Float, nan, inf, fin, binary64, up, down, fits, of_bits}
use lib.Ieee.Fits.{down_pos}
use lib.Ieee.Exact.{HasValue}
use Rattle.root.specs.Root.{IsRoot, round_root, root_of}
use Rattle.root.proofs.Square.{square-back, pow_back}
use Rattle.root.proofs.Rounded.{round_value, round-fits}
use Rattle.root.proofs.Pattern.{read_back}

-- ---- `root_of` at a value of a units
root-at : (v : Float) (a : ℕ) → HasValue v false a (2 ^ 1074) → 0 < a → root_of v ≡ round_root (a * 2 ^ 1074)
unfolding root_of
root-at nan a v p = absurd v
root-at (inf t) a v p = absurd v
root-at (fin true m e) a v p = absurd (true≢false v.0)
root-at (fin false zero e) a v p =
    absurd (lt_irrefl 0 (subst (λ (x : ℕ). 0 < x) (sym v.1 ∙ ap (λ (x : ℕ). x * 2 ^ 1074) (zero-mul (up e))) (mul-pos p (down_pos e))))
root-at (fin false (suc m) e) a v p =
    ap round_root
    (ap (λ (x : ℕ). x / down e)
    (sym (mul_assoc (suc m * up e) (2 ^ 1074) (2 ^ 1074)) ∙ ap (λ (x : ℕ). x * 2 ^ 1074) v.1 ∙ mul_right_comm a (down e) (2 ^ 1074))
    ∙ mul-div_cancel (a * 2 ^ 1074) (down_pos e))

-- ---- the shift: m has 64 - z digits, and place k z is the place of its first one
abbrev pub place : ℕ → ℕ → ℕ
place k z = k + 63 - z

abbrev pub shift : ℕ → ℕ → ℕ
shift k z = z - 11 + place k z % 2

abbrev pub expo : ℕ → ℕ → ℕ
expo k z = place k z / 2 + 485

pub record Lead (m z : ℕ) : Type 0 where
  pub low : 11 ≤ z
  pub high : z ≤ 63
  pub from : 2 ^ 52 ≤ m * 2 ^ (z - 11)
  pub to : m * 2 ^ (z - 11) < 2 ^ 53

pub lead : (m : ℕ) → 0 < m → m < 2 ^ 53 → Lead m (count_leading_zeros 64 m)
lead m p h =
    let t = leading_top 64 m p (lt_of_lt_of_le h (lit≤ tt)) in
    let z = count_leading_zeros 64 m in
    let j = t.0 in
    let jl : j < 53 = pow_back j 53 (lt_of_le_of_lt t.2 h) in
    let s : j + (z - 11) ≡ 52 = omega (arith, t.1) in
    record {
      low = omega (arith, t.1);
      high = omega (arith, t.1);
      from = le_trans (le_of_eq (ap (λ (x : ℕ). 2 ^ x) (sym s) ∙ pow-add 2 j (z - 11))) (mul-le-mul_right (2 ^ (z - 11)) t.2);
      to =
          lt_of_lt_of_le (mul-lt-mul_of_pos_right t.3 (pow_pos (z - 11)))
          (le_of_eq (sym (pow-add 2 (suc j) (z - 11)) ∙ ap (λ (x : ℕ). 2 ^ x) (more j (z - 11) s)));
    }
  where
    more : (j y : ℕ) → j + y ≡ 52 → suc j + y ≡ 53
    more j y e = omega arith

-- the number that `root_digits` is handed
pub record Radicand (n : ℕ) : Type 0 where
  pub from : 2 ^ 52 ≤ n
  pub to : n ≤ 2 ^ 54 - 2

pub radicand : (m k z : ℕ) → Lead m z → Radicand (m * 2 ^ shift k z)
radicand m k z l = go (place k z % 2) (mod-lt (place k z) (lit< tt))
  where
    go : (r : ℕ) → r < 2 → Radicand (m * 2 ^ (z - 11 + r))
    go r h = rw (pow-add 2 (z - 11) r, ← mul_assoc m (2 ^ (z - 11)) (2 ^ r)) (at r h)
      where
        at : (r : ℕ) → r < 2 → Radicand (m * 2 ^ (z - 11) * 2 ^ r)
        at zero h = record { from = omega (arith, l.from); to = omega (arith, l.to) }
        at (suc zero) h = record { from = omega (arith, l.from); to = omega (arith, l.to) }
        at (suc (suc r)) h = absurd (omega arith)

-- its root has 54 digits, and is not all ones
root-from : (n s : ℕ) → Radicand n → IsRoot (n * 2 ^ 54) s → 2 ^ 53 ≤ s
root-from n s r i = le_of_suc-le-suc (square-back (2 ^ 53) (suc s) (lt_of_le_of_lt (mul-le-mul_right (2 ^ 54) r.from) i.above))

pub root-to : (n s : ℕ) → Radicand n → IsRoot (n * 2 ^ 54) s → s < 2 ^ 54 - 1
root-to n s r i = square-back s (2 ^ 54 - 1) (lt_of_le_of_lt (le_trans i.below (mul-le-mul_right (2 ^ 54) r.to)) (lit< tt))

-- ---- A value v of m * 2 ^ k units, z zeros before m, and s the root of the radicand that the code makes of them
module _ (v : Float) (m k z s : ℕ) (h : HasValue v false (m * 2 ^ k) (2 ^ 1074)) (p : 0 < m) (kl : k ≤ 2045) (l : Lead m z)
    (i : IsRoot (m * 2 ^ shift k z * 2 ^ 54) s) where
  pub lo : 2 ^ 53 ≤ s
  lo = root-from (m * 2 ^ shift k z) s (radicand m k z l) i

  pub hi : s < 2 ^ 54 - 1
  hi = root-to (m * 2 ^ shift k z) s (radicand m k z l) i

  -- the value with a zeros after it is the radicand with b zeros after it, times 4 ^ expo
  pub same_radicand : (a b : ℕ) → a ≡ b + 1022 → m * 2 ^ k * 2 ^ a ≡ m * 2 ^ shift k z * 2 ^ b * (2 ^ expo k z * 2 ^ expo k z)
  same_radicand a b t =
      let e = expo k z in
      mul_assoc m (2 ^ k) (2 ^ a)
      ∙ ap (λ (x : ℕ). m * x)
      (sym (pow-add 2 k a) ∙ ap (λ (x : ℕ). 2 ^ x) (exponents k z a b l.low l.high t) ∙ pow-add 2 (shift k z) (b + (e + e))
      ∙ ap (λ (x : ℕ). 2 ^ shift k z * x) (pow-add 2 b (e + e) ∙ ap (λ (x : ℕ). 2 ^ b * x) (pow-add 2 e e)))
      ∙ sym (mul_assoc m (2 ^ shift k z) (2 ^ b * (2 ^ e * 2 ^ e)))
      ∙ sym (mul_assoc (m * 2 ^ shift k z) (2 ^ b) (2 ^ e * 2 ^ e))
    where
      exponents : (k z a b : ℕ) → 11 ≤ z → z ≤ 63 → a ≡ b + 1022 → k + a ≡ shift k z + (b + (expo k z + expo k z))
      exponents k z a b u v t = omega arith

  is_round : root_of v ≡ round_root (m * 2 ^ shift k z * 2 ^ 52 * (2 ^ expo k z * 2 ^ expo k z))
  is_round = root-at v (m * 2 ^ k) h (mul-pos p (pow_pos k)) ∙ ap round_root (same_radicand 1074 52 (omega arith))

  four : IsRoot (m * 2 ^ shift k z * 2 ^ 52 * 4) s
  four = rw (mul_assoc (m * 2 ^ shift k z) (2 ^ 52) 4) i

  pub root-value : HasValue (root_of v) false ((s + 1) / 2 * 2 ^ expo k z) (2 ^ 1074)
  root-value = rw is_round (round_value (m * 2 ^ shift k z * 2 ^ 52) s (expo k z) four lo (omega (arith, hi)) (omega arith))

  pub root-fits : T (fits binary64 (root_of v))
  root-fits = rw is_round (round-fits (m * 2 ^ shift k z * 2 ^ 52) s (expo k z) four lo (omega (arith, hi)) (omega arith))

  pub rooted : of_bits binary64 (expo k z * 2 ^ 52 + (s + 1) / 2) ≡ root_of v
  rooted = read_back (root_of v) ((s + 1) / 2) (expo k z) root-fits root-value (omega (arith, lo)) (omega (arith, hi))
