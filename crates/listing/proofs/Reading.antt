-- Texts of the sheet read back: the digits give the number that was written, and there is a minus where one was written.
use Prim.Native.Nat.{ℕ, zero, suc, ◌+◌, ◌-◌, ◌*◌, ◌/◌, ◌%◌, ◌^◌, ◌≤◌, ◌<◌}
use mathlib.Core.Path.{◌≡◌, refl, ap, ◌∙◌, subst}
use mathlib.Core.Bool.{Bool, true, false, ◌||◌, cond}
use mathlib.Core.List.{List, [], ◌∷◌, ◌++◌}
use native.Mathlib.Nat.{pow-succ'}
use native.Mathlib.Omega.{arith}
use native.Mathlib.Decide.{dec_le}
use lib.Dec.{eqb}
use lib.ListN.{length, length-replicate}
use lib.Seq.{take_at, drop_at}
use borrow.Author.Tests.{le-leb, ne_eqb}
use Rattle.text.specs.Text.{decimal}
use Rattle.text.proofs.Decimal.{one-digit, more-digits}
use Rattle.decimals.specs.Shown.{decimals}
use Rattle.decimals.proofs.Texts.{sign, point, digit, decimals-is}
use Rattle.listing.specs.Read.{is_digit_of, read_from, has, RightAligned}
use Rattle.listing.specs.Sheet.{right_aligned}
use Rattle.listing.proofs.Texts.{spaces}
use Rattle.std.proofs.Math.Bool.{or-false}

-- ---- one text after another
pub read-append : (n : ℕ) (s t : List ℕ) → read_from n (s ++ t) ≡ read_from (read_from n s) t
unfolding read_from
read-append n [] t = refl
read-append n (b ∷ s) t = read-append (cond (is_digit_of b) (n * 10 + (b - 48)) n) s t

pub has-append : (b : ℕ) (s t : List ℕ) → has b (s ++ t) ≡ (has b s || has b t)
unfolding has
has-append b [] t = refl
has-append b (c ∷ s) t = ap (λ (x : Bool). eqb b c || x) (has-append b s t) ∙ assoc (eqb b c) (has b s) (has b t)
  where
    assoc : (x y z : Bool) → (x || (y || z)) ≡ ((x || y) || z)
    assoc true y z = refl
    assoc false y z = refl

-- ---- digits
pub is_digit : (d : ℕ) → d < 10 → is_digit_of (48 + d) ≡ true
is_digit d h = rw (le-leb 48 (48 + d) (omega arith), le-leb (48 + d) 57 (omega arith))

read-digit : (n d : ℕ) → d < 10 → read_from n (digit d) ≡ n * 10 + d
unfolding read_from
read-digit n d h = rw (is_digit d h) (omega arith)

no_digit : (b d : ℕ) → b < 48 → has b (digit d) ≡ false
unfolding has
no_digit b d h = rw (ne_eqb b (48 + d) (λ e. omega arith))

-- a number in decimal: it reads back, and has no byte below a digit's
abbrev Reads : ℕ → List ℕ → Type 0
Reads n t = (read_from 0 t ≡ n) × ((b : ℕ) → b < 48 → has b t ≡ false)

one : (n : ℕ) → n < 10 → Reads n (decimal n)
one n h = subst (Reads n) (one-digit n (48 + n) h refl) (read-digit 0 n h ∙ omega arith, λ b l. no_digit b n l)

more : (n : ℕ) → 10 ≤ n → n < 2 ^ 64 → Reads (n / 10) (decimal (n / 10)) → Reads n (decimal n)
more n h l r =
    subst (Reads n) (more-digits n (48 + n % 10) h l refl) (
      read-append 0 (decimal (n / 10)) (digit (n % 10)) ∙ ap (λ (k : ℕ). read_from k (digit (n % 10))) r.0 ∙ read-digit (n / 10) (n % 10) (omega arith)
          ∙ omega arith,
      λ b k. has-append b (decimal (n / 10)) (digit (n % 10)) ∙ (λ i. r.1 b k i || no_digit b (n % 10) k i),
    )

pub read-decimal : (k n : ℕ) → n < 10 ^ suc k → n < 2 ^ 64 → Reads n (decimal n)
read-decimal zero n h l = one n (omega arith)
read-decimal (suc k) n h l = go (dec_le 10 n) (read-decimal k (n / 10) (let e = pow-succ' 10 (suc k) in omega arith) (omega arith))
  where
    go : Dec (10 ≤ n) → Reads (n / 10) (decimal (n / 10)) → Reads n (decimal n)
    go (no p) r = one n (omega arith)
    go (yes p) r = more n p l r

-- ---- spaces and the minus
pub read-spaces : (n k : ℕ) → read_from n (spaces k) ≡ n
unfolding read_from
read-spaces n zero = refl
read-spaces n (suc k) = read-spaces n k

pub no_minus-spaces : (k : ℕ) → has 45 (spaces k) ≡ false
unfolding has
no_minus-spaces zero = refl
no_minus-spaces (suc k) = no_minus-spaces k

read-sign : (n : ℕ) (m : Bool) → read_from n (sign m) ≡ n
unfolding read_from
read-sign n true = refl
read-sign n false = refl

has-sign : (m : Bool) → has 45 (sign m) ≡ m
unfolding has
has-sign true = refl
has-sign false = refl

read-point : (n : ℕ) → read_from n point ≡ n
unfolding read_from
read-point n = refl

no_point_lem : (b : ℕ) → b < 46 → has b point ≡ false
unfolding has
no_point_lem b h = rw (ne_eqb b 46 (λ e. omega arith))

space : (m : Bool) → has 32 (sign m) ≡ false
unfolding has
space true = refl
space false = refl

-- ---- a text in its columns
pub read_right_aligned : (w : ℕ) (t : List ℕ) → read_from 0 (right_aligned w t) ≡ read_from 0 t
unfolding right_aligned
read_right_aligned w t = read-append 0 (spaces (w - length t)) t ∙ ap (λ (k : ℕ). read_from k t) (read-spaces 0 (w - length t))

pub has_right_aligned : (w : ℕ) (t : List ℕ) → has 45 (right_aligned w t) ≡ has 45 t
unfolding right_aligned
has_right_aligned w t = has-append 45 (spaces (w - length t)) t ∙ ap (λ (b : Bool). b || has 45 t) (no_minus-spaces (w - length t))

pub aligned : (w : ℕ) (t : List ℕ) → has 32 t ≡ false → RightAligned (right_aligned w t)
unfolding right_aligned
aligned w t h = record {
  blanks = w - length t;
  before = take_at (spaces (w - length t)) t (w - length t) (length-replicate {A = ℕ} (w - length t) 32);
  behind = ap (has 32) (drop_at (spaces (w - length t)) t (w - length t) (length-replicate {A = ℕ} (w - length t) 32)) ∙ h;
}

-- ---- a decimal of n ten-thousandths
module _ (m : Bool) (n : ℕ) (small : n ≤ 10240000) where
  whole : Reads (n / 10000) (decimal (n / 10000))
  whole = read-decimal 4 (n / 10000) (omega arith) (omega arith)

  next : (a b d : ℕ) → d < 10 → a * 10 + d ≡ b → read_from a (digit d) ≡ b
  next a b d h e = read-digit a d h ∙ e

  pub read-decimals : read_from 0 (decimals m n) ≡ n
  read-decimals =
      ap (read_from 0) (decimals-is m n)
      ∙ read-append 0 (sign m ++ decimal (n / 10000) ++ point ++ digit (n / 1000 % 10) ++ digit (n / 100 % 10) ++ digit (n / 10 % 10)) (digit (n % 10))
      ∙ rw (
        read-append,
        read-append,
        read-append,
        read-append,
        read-append,
        read-sign,
        whole.0,
        read-point,
        next (n / 10000) (n / 1000) (n / 1000 % 10) (omega arith) (omega arith),
        next (n / 1000) (n / 100) (n / 100 % 10) (omega arith) (omega arith),
        next (n / 100) (n / 10) (n / 10 % 10) (omega arith) (omega arith),
      )
      (next (n / 10) n (n % 10) (omega arith) (omega arith))

  -- the bytes of its parts
  has_parts : (b : ℕ) → b < 46 → has b (decimals m n) ≡ (has b (sign m) || false)
  has_parts b h =
      let w = whole.1 b (omega arith) in
      let p = no_point_lem b h in
      let d : (k : ℕ) → has b (digit k) ≡ false = λ k. no_digit b k (omega arith) in
      ap (has b) (decimals-is m n) ∙ simp (has-append, w, p, d) (go (has b (sign m)))
    where
      go : (b : Bool) → (b || false || false || false || false || false || false) ≡ (b || false)
      go true = refl
      go false = refl

  pub has-decimals : has 45 (decimals m n) ≡ m
  has-decimals = has_parts 45 (omega arith) ∙ ap (λ (b : Bool). b || false) (has-sign m) ∙ or-false m

  pub no_space : has 32 (decimals m n) ≡ false
  no_space = has_parts 32 (omega arith) ∙ ap (λ (b : Bool). b || false) (space m)
