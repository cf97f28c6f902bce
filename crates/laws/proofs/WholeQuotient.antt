-- Quotients of areas are those of the whole numbers. Where x holds the area z and y the area w, each in mm² as the Rust
-- computes it, and w is not 0, x / y is the same number as z / w, both rounded once; and the same data unless z is 0, where
-- the Rust's zero may have the other sign (`quotient`). A zero over anything finite but zero is a zero (`zero-over`), and
-- `clamp` leaves a zero between its limits as it is (`clamp-zero`).
use mathlib.Core.Path.{◌≡◌, refl, sym, ap, ◌∙◌, subst}
use Prim.Native.Nat.{ℕ, zero, suc, ◌+◌, ◌*◌, ◌^◌, ◌≤◌, ◌<◌}
use native.Mathlib.Nat.{zero-lt-suc, zero-mul, mul-one, mul_assoc, mul_comm, mul-pos}
use native.Mathlib.Omega.{arith}
use mathlib.Core.Bool.{Bool, true, false}
use lib.IntN.{ℤ, pos, negsuc, nat_abs}
use lib.Signed.{lt_z}
use lib.Dec.{T}
use lib.Pow.{pow_pos}
use lib.Ieee.{Float, nan, inf, fin, Format, binary64, prec, emax, low, up, down, unlike, round, div, eq, lt, of_int}
use lib.Ieee.Exact.{HasValue, round_exact}
use lib.Ieee.Fits.{down_pos}
use lib.Ieee.Scale.{finite, round_same}
use lib.Ieee.Positive.{first_pos, num}
use Rattle.laws.specs.Double.{◌/f◌, clamp, int, naught}
use Rattle.laws.specs.Units.{mm²}
use Rattle.laws.proofs.Exact.{div-at}
use Rattle.laws.proofs.Fractions.{eq→Eq, ls, pl}
use Rattle.laws.proofs.Grid.{IsZ, is_z_eq, lt_is_z}
use Rattle.laws.proofs.Integers.{negp, posp, size_of}
use Rattle.laws.proofs.Negate.{round_signed}
use Rattle.laws.proofs.Order.{le_antisym_f, le_refl_f}
use Rattle.laws.proofs.Quotient.{signed-real}
use Rattle.laws.proofs.RustDoubles.{Holds}
use Rattle.laws.proofs.Scaled.{minus_sign, of_int_value}
use Rattle.laws.proofs.Units.{mm²_is_z}

-- ---- zeros
pub zero_is_z : (x : Float) (s : Bool) (c : ℕ) → HasValue x s 0 c → IsZ x (pos 0) c
zero_is_z x true c h = (true, 0, h, refl)
zero_is_z x false c h = (false, 0, h, refl)

round_zero : (f : Format) (s : Bool) (c : ℕ) → 0 < c → IsZ (round f s 0 c) (pos 0) c
round_zero f s c C =
    zero_is_z (round f s 0 c) s c (round_exact f s 0 c 0 0 C (pow_pos (prec f)) (pow_pos (low f + suc (emax f))) (zero-mul (2 ^ low f) ∙ sym (zero-mul c)))

-- a zero over another denominator
zero-over-any : (x : Float) (c d : ℕ) → 0 < c → IsZ x (pos 0) c → IsZ x (pos 0) d
zero-over-any nan c d C h = absurd h.2
zero-over-any (inf t) c d C h = absurd h.2
zero-over-any (fin t m e) c d C h = zero_is_z (fin t m e) t d (refl, none (m * up e) h.1 h.2.1 (size_of h.0 h.1 (pos 0) h.3))
  where
    none : (n a : ℕ) → n * c ≡ a * down e → a ≡ 0 → n * d ≡ 0 * down e
    none zero a g z = omega arith
    none (suc n) a g z = absurd (omega (arith, ap (λ (k : ℕ). k * down e) z, mul-pos (zero-lt-suc n) C))

pub zero-over : (f : Format) (x y : Float) (c : ℕ) → 0 < c → IsZ x (pos 0) c → T (finite y) → 0 < num y → IsZ (div f x y) (pos 0) 1
zero-over f x (fin t n d) c C h k N =
    let a : h.1 ≡ 0 = size_of h.0 h.1 (pos 0) h.3 in
    let v : HasValue x h.0 0 c = subst (λ (z : ℕ). HasValue x h.0 z c) a h.2 in
    let e = div-at f x (fin t n d) h.0 0 c t (n * up d) (down d) C (down_pos d) N v (refl, refl) in
    subst (λ (q : Float). IsZ q (pos 0) 1) (sym (e ∙ ap (λ (z : ℕ). round f (unlike h.0 t) z (n * up d * c)) (zero-mul (down d))))
    (zero-over-any (round f (unlike h.0 t) 0 (n * up d * c)) (n * up d * c) 1 (mul-pos N C) (round_zero f (unlike h.0 t) (n * up d * c) (mul-pos N C)))
zero-over f x nan c C h k N = elim k [ ]
zero-over f x (inf _) c C h k N = elim k [ ]

pub clamp-zero : (lo hi x : Float) (a b : ℤ) → IsZ lo a 1 → IsZ hi b 1 → IsZ x (pos 0) 1 → lt_z (pos 0) a ≡ false → lt_z b (pos 0) ≡ false → clamp lo hi x ≡ x
unfolding clamp
clamp-zero lo hi x a b h k l p q =
    let u : lt x lo ≡ false = lt_is_z x lo (pos 0) a 1 (zero-lt-suc 0) l h ∙ p in
    let v : lt hi x ≡ false = lt_is_z hi x b (pos 0) 1 (zero-lt-suc 0) k l ∙ q in
    rw (u, v)

not-zero : (z : ℤ) → 0 < nat_abs z → z ≡ pos 0 → ⊥
not-zero z h e = omega (arith, ap nat_abs e)

-- what holds an area is that whole number over 2 ^ 26
area-zero : mm² (pos 0) ≡ naught
unfolding mm² of_int round div
area-zero = refl

pub holds_is_z : (x : Float) (z : ℤ) → nat_abs z ≤ 2 ^ 53 → Holds x z → IsZ x z (2 ^ 26)
unfolding eq
holds_is_z nan (pos zero) l h = absurd h.number
holds_is_z (inf s) (pos zero) l h = absurd (subst (λ (y : Float). T (eq (inf s) y)) area-zero h.number)
holds_is_z (fin s m e) (pos zero) l h =
    zero_is_z (fin s m e) s (2 ^ 26) (
      refl,
      ap (λ (n : ℕ). n * 2 ^ 26)
          (nought s (m * up e) (down e) (eq→Eq (fin s m e) naught tt tt (subst (λ (y : Float). T (eq (fin s m e) y)) area-zero h.number))) ∙ omega arith,
    )
  where
    nought : (s : Bool) (n d : ℕ) → pl s n * 1 + 0 * d ≡ 0 * d + ls s n * 1 → n ≡ 0
    nought true n d h = omega arith
    nought false n d h = omega arith
holds_is_z x (pos (suc n)) l h =
    subst (λ (y : Float). IsZ y (pos (suc n)) (2 ^ 26)) (sym (h.same (not-zero (pos (suc n)) (zero-lt-suc n)))) (mm²_is_z (pos (suc n)) l)
holds_is_z x (negsuc n) l h = subst (λ (y : Float). IsZ y (negsuc n) (2 ^ 26)) (sym (h.same (not-zero (negsuc n) (zero-lt-suc n)))) (mm²_is_z (negsuc n) l)

-- ---- quotients over one denominator
sign_of : (s : Bool) (a : ℕ) (z : ℤ) → (z ≡ pos 0 → ⊥) → pl s a + negp z ≡ posp z + ls s a → s ≡ minus_sign z
sign_of s a (pos zero) n h = absurd (n refl)
sign_of true a (pos (suc k)) n h = absurd (omega arith)
sign_of false a (pos (suc k)) n h = refl
sign_of true a (negsuc k) n h = refl
sign_of false a (negsuc k) n h = absurd (omega arith)

size_above : (z : ℤ) → (z ≡ pos 0 → ⊥) → 0 < nat_abs z
size_above (pos zero) n = absurd (n refl)
size_above (pos (suc k)) n = omega arith
size_above (negsuc k) n = omega arith

pub num_above : (y : Float) (w : ℤ) (c : ℕ) → (w ≡ pos 0 → ⊥) → IsZ y w c → T (finite y) × (0 < num y)
num_above nan w c n h = absurd h.2
num_above (inf t) w c n h = absurd h.2
num_above (fin t m e) w c n h = (
  tt,
  first_pos (m * up e) c (subst (λ (v : ℕ). 0 < v) (sym h.2.1)
      (mul-pos (subst (λ (v : ℕ). 0 < v) (sym (size_of h.0 h.1 w h.3)) (size_above w n)) (down_pos e))),
)

module _ (f : Format) (x y : Float) (z w : ℤ) (j : ℕ) (n : w ≡ pos 0 → ⊥) (h : IsZ x z (2 ^ j)) (k : IsZ y w (2 ^ j)) where
  over-is : div f x y ≡ round f (unlike h.0 (minus_sign w)) (nat_abs z) (nat_abs w)
  over-is =
      let a = size_of h.0 h.1 z h.3 in
      let b = size_of k.0 k.1 w k.3 in
      let B : 0 < k.1 = subst (λ (m : ℕ). 0 < m) (sym b) (size_above w n) in
      div-at f x y h.0 h.1 (2 ^ j) k.0 k.1 (2 ^ j) (pow_pos j) (pow_pos j) B h.2 k.2
      ∙ round_same f (unlike h.0 k.0) (h.1 * 2 ^ j) (k.1 * 2 ^ j) h.1 k.1 (mul-pos B (pow_pos j)) B (swap h.1 (2 ^ j) k.1)
      ∙ (λ i. round f (unlike h.0 (sign_of k.0 k.1 w n k.3 i)) (a i) (b i))
    where
      swap : (a c b : ℕ) → a * c * b ≡ a * (b * c)
      swap a c b = simp (mul_assoc, mul_comm)

module _ (f : Format) (z w : ℤ) (p : nat_abs z ≤ 2 ^ prec f) (q : nat_abs w ≤ 2 ^ prec f) (n : w ≡ pos 0 → ⊥) where
  whole_is : div f (of_int f z) (of_int f w) ≡ round f (unlike (minus_sign z) (minus_sign w)) (nat_abs z) (nat_abs w)
  whole_is =
      div-at f (of_int f z) (of_int f w) (minus_sign z) (nat_abs z) 1 (minus_sign w) (nat_abs w) 1 (zero-lt-suc 0) (zero-lt-suc 0) (size_above w n)
      (of_int_value f z p) (of_int_value f w q)
      ∙ (λ i. round f (unlike (minus_sign z) (minus_sign w)) (mul-one (nat_abs z) i) (mul-one (nat_abs w) i))

  module _ (x y : Float) (j : ℕ) (h : IsZ x z (2 ^ j)) (k : IsZ y w (2 ^ j)) where
    pub same-quotient : (z ≡ pos 0 → ⊥) → div f x y ≡ div f (of_int f z) (of_int f w)
    same-quotient m =
        over-is f x y z w j n h k ∙ (λ i. round f (unlike (sign_of h.0 h.1 z m h.3 i) (minus_sign w)) (nat_abs z) (nat_abs w)) ∙ sym whole_is

    pub equal-quotient : T (eq (div f x y) (div f (of_int f z) (of_int f w)))
    equal-quotient =
        subst (λ (v : Float). T (eq v (div f (of_int f z) (of_int f w)))) (sym (over-is f x y z w j n h k))
        (subst (λ (v : Float). T (eq (round f (unlike h.0 (minus_sign w)) (nat_abs z) (nat_abs w)) v)) (sym whole_is) (go z h.0 h.1 h.3))
      where
        self : (s : Bool) (a c : ℕ) → T (eq (round f s a c) (round f s a c))
        self s a c =
            let r = le_refl_f (round f s a c) (signed-real s (round f s a c) (round_signed f s a c)) in le_antisym_f (round f s a c) (round f s a c) r r

        like : (z : ℤ) (s : Bool) → s ≡ minus_sign z
            → T (eq (round f (unlike s (minus_sign w)) (nat_abs z) (nat_abs w)) (round f (unlike (minus_sign z) (minus_sign w)) (nat_abs z) (nat_abs w)))
        like z s e =
            subst (λ (t : Bool). T (eq (round f (unlike t (minus_sign w)) (nat_abs z) (nat_abs w))
            (round f (unlike (minus_sign z) (minus_sign w)) (nat_abs z) (nat_abs w))))
            (sym e) (self (unlike (minus_sign z) (minus_sign w)) (nat_abs z) (nat_abs w))

        go : (z : ℤ) (s : Bool) (a : ℕ) → pl s a + negp z ≡ posp z + ls s a
            → T (eq (round f (unlike s (minus_sign w)) (nat_abs z) (nat_abs w)) (round f (unlike (minus_sign z) (minus_sign w)) (nat_abs z) (nat_abs w)))
        go (pos zero) s a e =
            is_z_eq (round f (unlike s (minus_sign w)) 0 (nat_abs w)) (round f (unlike false (minus_sign w)) 0 (nat_abs w)) (pos 0) (nat_abs w) (size_above w n)
            (round_zero f (unlike s (minus_sign w)) (nat_abs w) (size_above w n)) (round_zero f (unlike false (minus_sign w)) (nat_abs w) (size_above w n))
        go (pos (suc m)) s a e = like (pos (suc m)) s (sign_of s a (pos (suc m)) (not-zero (pos (suc m)) (zero-lt-suc m)) e)
        go (negsuc m) s a e = like (negsuc m) s (sign_of s a (negsuc m) (not-zero (negsuc m) (zero-lt-suc m)) e)

-- ---- of two areas
pub record Over (q : Float) (z w : ℤ) : Type 0 where
  pub number : T (eq q (int z /f int w))
  pub same : (z ≡ pos 0 → ⊥) → q ≡ int z /f int w

pub quotient : (x y : Float) (z w : ℤ) → nat_abs z ≤ 2 ^ 53 → nat_abs w ≤ 2 ^ 53 → (w ≡ pos 0 → ⊥) → Holds x z → Holds y w → Over (x /f y) z w
quotient x y z w p q n h k =
    let u = holds_is_z x z p h in
    let v = holds_is_z y w q k in
    record { number = equal-quotient binary64 z w p q n x y 26 u v; same = same-quotient binary64 z w p q n x y 26 u v }
