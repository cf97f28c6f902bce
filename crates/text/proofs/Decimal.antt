-- A number's digits: the last digit follows those of a tenth of the number, and how many there are.
use Prim.Native.Nat.{ℕ, zero, suc, ◌+◌, ◌/◌, ◌%◌, ◌^◌, ◌≤◌, ◌<◌}
use mathlib.Core.Path.{◌≡◌, sym, ap}
use mathlib.Core.List.{List, [], ◌∷◌, ◌++◌}
use native.Mathlib.Nat.{pow-succ', mod-eq_of_lt}
use native.Mathlib.Omega.{arith}
use native.Mathlib.Decide.{dec_le}
use lib.ListN.{length, length-append}
use borrow.Author.Tests.{lt-ltb, le-ltb}
use Rattle.text.specs.Text.{digits, decimal}

tenth : (k n : ℕ) → n < 10 ^ suc k → n / 10 < 10 ^ k
tenth k n h = let e = pow-succ' 10 k in omega arith

-- more room for digits than are needed changes nothing
enough-step : (d n : ℕ) → (10 ≤ n → digits d (n / 10) ≡ digits (suc d) (n / 10)) → Dec (10 ≤ n) → digits (suc d) n ≡ digits (suc (suc d)) n
unfolding digits
enough-step d n f (no k) = rw (lt-ltb n 10 (omega arith))
enough-step d n f (yes k) = rw (le-ltb n 10 k) (ap (λ (l : List ℕ). l ++ ((48 + n % 10) ∷ [])) (f k))

enough : (d n : ℕ) → n < 10 ^ suc d → digits (suc d) n ≡ digits (suc (suc d)) n
enough zero n h = enough-step zero n (λ k. absurd (omega arith)) (dec_le 10 n)
enough (suc d) n h = enough-step (suc d) n (λ _. enough d (n / 10) (tenth (suc d) n h)) (dec_le 10 n)

last_of : (d n b : ℕ) → n < 10 → b ≡ 48 + n → (b ∷ []) ≡ digits (suc d) n
unfolding digits
last_of d n b h e = rw (lt-ltb n 10 h, mod-eq_of_lt h, e)

next_of : (d n b : ℕ) → 10 ≤ n → n < 10 ^ suc (suc d) → b ≡ 48 + n % 10 → digits (suc (suc d)) (n / 10) ++ (b ∷ []) ≡ digits (suc (suc d)) n
unfolding digits
next_of d n b h k e = rw (le-ltb n 10 h, e) (ap (λ (l : List ℕ). l ++ ((48 + n % 10) ∷ [])) (sym (enough d (n / 10) (tenth (suc d) n k))))

pub one-digit : (n b : ℕ) → n < 10 → b ≡ 48 + n → (b ∷ []) ≡ decimal n
unfolding decimal
one-digit n b h e = last_of 19 n b h e

pub more-digits : (n b : ℕ) → 10 ≤ n → n < 2 ^ 64 → b ≡ 48 + n % 10 → decimal (n / 10) ++ (b ∷ []) ≡ decimal n
unfolding decimal
more-digits n b h k e = next_of 18 n b h (omega arith) e

-- ---- how many
length-step : (d n m : ℕ) → (10 ≤ n → length (digits d (n / 10)) ≤ m) → Dec (10 ≤ n) → length (digits (suc d) n) ≤ suc m
unfolding digits
length-step d n m f (no k) = rw (lt-ltb n 10 (omega arith)) (omega arith)
length-step d n m f (yes k) = rw (le-ltb n 10 k, length-append) (omega (arith, f k))

length_digits : (d n : ℕ) → length (digits d n) ≤ d
unfolding digits
length_digits zero n = omega arith
length_digits (suc d) n = length-step d n d (λ _. length_digits d (n / 10)) (dec_le 10 n)

few-digits : (d k n : ℕ) → n < 10 ^ suc k → length (digits d n) ≤ suc k
unfolding digits
few-digits zero k n h = omega arith
few-digits (suc d) zero n h = length-step d n zero (λ l. absurd (omega arith)) (dec_le 10 n)
few-digits (suc d) (suc k) n h = length-step d n (suc k) (λ _. few-digits d k (n / 10) (tenth (suc k) n h)) (dec_le 10 n)

pub at-most_20 : (n : ℕ) → length (decimal n) ≤ 20
unfolding decimal
at-most_20 n = length_digits 20 n

-- a number of 32 bits
pub at-most_10 : (n : ℕ) → n < 2 ^ 32 → length (decimal n) ≤ 10
unfolding decimal
at-most_10 n h = few-digits 20 9 n (omega arith)

-- and in general
pub at_most : (k n : ℕ) → n < 10 ^ suc k → length (decimal n) ≤ suc k
unfolding decimal
at_most k n h = few-digits 20 k n h
