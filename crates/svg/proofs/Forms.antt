-- What each byte of a form stands for, case by case, and how long a form is: 25 more for each slot than the slot itself, whatever the numbers.
use Prim.Native.Nat.{ℕ, suc, ◌+◌, ◌-◌, ◌*◌, ◌/◌, ◌%◌, ◌≤◌, ◌<◌}
use mathlib.Core.Path.{◌≡◌, sym, ap, ◌∙◌}
use mathlib.Core.Bool.{Bool, true, false, ◌||◌, cond}
use mathlib.Core.List.{List, [], ◌∷◌, ◌++◌}
use native.Mathlib.Omega.{arith}
use native.Mathlib.Decide.{dec_le}
use lib.ListN.{length, get_or}
use lib.Dec.{ltb, eqb}
use borrow.Author.Tests.{eq-eqb, ne_eqb, lt-ltb, le-ltb}
use Rattle.text.specs.Text.{decimal, slots}
use Rattle.text.proofs.Decimal.{at-most_20}
use Rattle.text.proofs.Forms.{length_by}
use Rattle.decimals.specs.Shown.{decimals}
use Rattle.decimals.proofs.Texts.{decimals-most}
use Rattle.svg.specs.Place.{origin}
use Rattle.svg.specs.Form.{exact, plain, stands_for, takes, formed}

-- ---- by cases
pub exact_below : (n : ℕ) → n < origin → exact n ≡ decimals true (origin - n)
unfolding exact
exact_below n h = rw (lt-ltb n origin h)

pub exact_above : (n : ℕ) → origin ≤ n → exact n ≡ decimals false (n - origin)
unfolding exact
exact_above n h = rw (le-ltb n origin h)

pub plain-part : (n : ℕ) → (n % 10000 ≡ 0 → ⊥) → plain n ≡ exact n
unfolding plain
plain-part n h = rw (ne_eqb (n % 10000) 0 h)

pub plain-below : (n : ℕ) → n % 10000 ≡ 0 → n < origin → plain n ≡ (45 ∷ []) ++ decimal ((origin - n) / 10000)
unfolding plain
plain-below n k h = rw (eq-eqb (n % 10000) 0 k, lt-ltb n origin h)

pub plain-above : (n : ℕ) → n % 10000 ≡ 0 → origin ≤ n → plain n ≡ decimal ((n - origin) / 10000)
unfolding plain
plain-above n k h = rw (eq-eqb (n % 10000) 0 k, le-ltb n origin h)

-- with the distance from the origin
module _ (n m : ℕ) (e : m ≡ (n - origin) + (origin - n)) where
  pub exact-is : decimals (ltb n origin) m ≡ exact n
  exact-is = go (dec_le (suc n) origin)
    where
      go : Dec (suc n ≤ origin) → decimals (ltb n origin) m ≡ exact n
      go (yes k) = rw (exact_below n k, lt-ltb n origin k) (ap (decimals true) (omega (arith, e, k)))
      go (no k) = rw (exact_above n (omega (arith, k)), le-ltb n origin (omega (arith, k))) (ap (decimals false) (omega (arith, e, k)))

  pub plain-low : n % 10000 ≡ 0 → n < origin → (45 ∷ []) ++ decimal (m / 10000) ≡ plain n
  plain-low k h = ap (λ (x : ℕ). (45 ∷ []) ++ decimal (x / 10000)) (omega (arith, e, h)) ∙ sym (plain-below n k h)

  pub plain-high : n % 10000 ≡ 0 → origin ≤ n → decimal (m / 10000) ≡ plain n
  plain-high k h = ap (λ (x : ℕ). decimal (x / 10000)) (omega (arith, e, h)) ∙ sym (plain-above n k h)

module _ (b n : ℕ) where
  pub stands_for-number : b ≡ 35 → stands_for b n ≡ decimal n
  unfolding stands_for
  stands_for-number h = rw (eq-eqb b 35 h)

  module _ (h : b ≡ 35 → ⊥) where
    pub stands_for-exact : b ≡ 64 → stands_for b n ≡ exact n
    unfolding stands_for
    stands_for-exact k = rw (ne_eqb b 35 h, eq-eqb b 64 k)

    module _ (k : b ≡ 64 → ⊥) where
      pub stands_for-plain : b ≡ 126 → stands_for b n ≡ plain n
      unfolding stands_for
      stands_for-plain d = rw (ne_eqb b 35 h, ne_eqb b 64 k, eq-eqb b 126 d)

      pub stands_for-byte : (b ≡ 126 → ⊥) → stands_for b n ≡ b ∷ []
      unfolding stands_for
      stands_for-byte d = rw (ne_eqb b 35 h, ne_eqb b 64 k, ne_eqb b 126 d)

-- ---- how long
exact-most : (n : ℕ) → length (exact n) ≤ 26
unfolding exact
exact-most n = go (ltb n origin)
  where
    go : (t : Bool) → length (cond t (decimals true (origin - n)) (decimals false (n - origin))) ≤ 26
    go true = decimals-most true (origin - n)
    go false = decimals-most false (n - origin)

plain-most : (n : ℕ) → length (plain n) ≤ 26
unfolding plain
plain-most n = go (eqb (n % 10000) 0) (ltb n origin)
  where
    go : (t u : Bool) → length (cond t (cond u (45 ∷ decimal ((origin - n) / 10000)) (decimal ((n - origin) / 10000))) (exact n)) ≤ 26
    go true true = omega (arith, at-most_20 ((origin - n) / 10000))
    go true false = omega (arith, at-most_20 ((n - origin) / 10000))
    go false true = exact-most n
    go false false = exact-most n

stands_for-most : (b n : ℕ) → length (stands_for b n) ≤ 1 + 25 * takes b
unfolding stands_for takes
stands_for-most b n = go (eqb b 35) (eqb b 64) (eqb b 126)
  where
    go : (p q r : Bool) → length (cond p (decimal n) (cond q (exact n) (cond r (plain n) (b ∷ [])))) ≤ 1 + 25 * cond (p || q || r) 1 0
    go true q r = go₁ q r
      where
        go₁ : (q r : Bool) → length (decimal n) ≤ 1 + 25 * cond (true || q || r) 1 0
        go₁ q r = omega (arith, at-most_20 n)
    go false true r = omega (arith, exact-most n)
    go false false true = omega (arith, plain-most n)
    go false false false = omega arith

pub length-formed : (f ns : List ℕ) → length (formed f ns) ≤ length f + 25 * slots takes f (length f)
length-formed f ns = length_by stands_for takes f ns 25 (λ b k. stands_for-most b (get_or ns k 0))
