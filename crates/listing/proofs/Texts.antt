-- Texts of the sheet: how many digits a number has, spaces, and how long a line and the sheet are.
use Prim.Native.Nat.{ℕ, zero, suc, ◌+◌, ◌-◌, ◌*◌, ◌/◌, ◌%◌, ◌^◌, ◌≤◌, ◌<◌}
use mathlib.Core.Path.{◌≡◌, refl, sym, ap, ◌∙◌}
use mathlib.Core.List.{List, [], ◌∷◌, ◌++◌}
use native.Mathlib.Nat.{pow-succ'}
use native.Mathlib.Numerals.{add-one}
use native.Mathlib.Omega.{arith}
use lib.ListN.{length, get_or, replicate, length-append, length-replicate, replicate-append-replicate}
use lib.Ieee.{Float, nan}
use Rattle.std.specs.Prelude.{Option, None, Some, IfNone, IfSome}
use Rattle.std.specs.Option.{unwrap_or}
use Rattle.text.specs.Text.{decimal}
use Rattle.text.proofs.Decimal.{one-digit, more-digits, at_most}
use Rattle.decimals.specs.Shown.{shown}
use Rattle.decimals.proofs.Texts.{shown-most}
use Rattle.listing.specs.Sheet.{right_aligned, line, lines}

-- ---- digits
pub one-long : (n : ℕ) → n < 10 → length (decimal n) ≡ 1
one-long n h = sym (ap length (one-digit n (48 + n) h refl))

pub tenth_long : (n : ℕ) → 10 ≤ n → n < 2 ^ 64 → length (decimal n) ≡ length (decimal (n / 10)) + 1
tenth_long n h k = sym (ap length (more-digits n (48 + n % 10) h k refl)) ∙ length-append (decimal (n / 10)) ((48 + n % 10) ∷ [])

some : (k : ℕ) → 0 < 10 ^ k
some zero = omega arith
some (suc k) = let e = pow-succ' 10 k in omega (arith, some k)

-- between two powers of ten
pub long-between : (k n : ℕ) → 10 ^ k ≤ n → n < 10 * 10 ^ k → n < 2 ^ 64 → k + 1 ≡ length (decimal n)
long-between zero n h l f = sym (one-long n (omega arith))
long-between (suc k) n h l f =
    let e = pow-succ' 10 k in
    omega (arith, tenth_long n (omega (arith, some k)) f, long-between k (n / 10) (omega arith) (omega arith) (omega arith))

-- of what the library answers for the power of ten below it: none is below 0
pub long-or : (r : Option ℕ) (n : ℕ) → n < 2 ^ 64 → IfNone r (n ≡ 0) → IfSome r (λ k. 10 ^ k ≤ n) → IfSome r (λ k. n < 10 * 10 ^ k)
    → unwrap_or r 0 + 1 ≡ length (decimal n)
long-or None n f e h l = sym (one-long n (omega arith))
long-or (Some k) n f e h l = long-between k n h l f

-- ---- spaces
abbrev pub spaces : ℕ → List ℕ
spaces n = replicate n 32

pub more-spaces : (i : ℕ) → spaces (suc i) ≡ spaces i ++ (32 ∷ [])
more-spaces i = ap spaces (sym (add-one i)) ∙ sym (replicate-append-replicate {A = ℕ} i 1 32)

pub number_most : (i : ℕ) → i < 1000000 → length (decimal i) ≤ 8
number_most i h = omega (arith, at_most 5 i h)

-- ---- columns
pub right_aligned-long : (w : ℕ) (t : List ℕ) → length t ≤ w → length (right_aligned w t) ≡ w
unfolding right_aligned
right_aligned-long w t h = length-append (spaces (w - length t)) t ∙ omega (arith, length-replicate {A = ℕ} (w - length t) 32)

pub line-long : (l : List Float) (i : ℕ) → i < 1000000 → length (line l i) ≡ 65
unfolding line
line-long l i h =
    let a = right_aligned-long 8 (decimal i) (number_most i h) in
    let x = right_aligned-long 28 (shown (get_or l (i * 2) nan)) (shown-most (get_or l (i * 2) nan)) in
    let y = right_aligned-long 28 (shown (get_or l (i * 2 + 1) nan)) (shown-most (get_or l (i * 2 + 1) nan)) in
    simp length-append (omega arith)

pub lines_long : (l : List Float) (n : ℕ) → n ≤ 1000000 → length (lines l n) ≡ n * 65
unfolding lines
lines_long l zero h = refl
lines_long l (suc n) h = length-append (lines l n) (line l n) ∙ omega (arith, lines_long l n (omega arith), line-long l n (omega arith))
