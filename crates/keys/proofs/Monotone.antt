-- A key grows with its coordinate, and a whole number is rounded to itself.
use Rattle.std.proofs.Common.{◌≡◌, ℕ, zero, suc, ◌+◌, ◌*◌, ◌^◌, ◌<◌, ◌≤◌, true, false, T, ℤ, pos, negsuc, ◌+ℤ◌, ◌-ℤ◌}
use Rattle.std.proofs.Common.{neg_ℤ, nat_abs, sym, refl, ap, subst, zero-le, mul-le-mul_right, mul-pos, le-div_iff_mul-le}
use Rattle.std.proofs.Common.{div-mul-le_self, le_of_mul-le-mul_right, arith, le→leb, ltb→lt, lt→ltb, leb→le}
use native.Mathlib.Nat.{div-eq_of_lt-le}
use lib.Signed.{lt_z, le_z}
use lib.Ieee.{Float, nan, inf, fin, binary64, up, down, mul, le, eq, of_int}
use lib.Ieee.Fits.{down_pos}
use lib.Ieee.Scale.{finite}
use lib.Ieee.Positive.{den, den_pos}
use Rattle.laws.specs.Within.{Within}
use Rattle.laws.proofs.Fractions.{plus, less, Le, le→Le}
use Rattle.laws.proofs.Order.{eq→le, eq_sym}
use Rattle.laws.proofs.Round.{rounds_mono}
use Rattle.laws.proofs.Results.{Val, mul_rounds}
use Rattle.laws.proofs.Integers.{posp, negp, sum-parts}
use Rattle.laws.proofs.Grid.{IsZ, is_z_val, scaled_is_z}
use Rattle.laws.proofs.Scaled.{of_int_scaled}
use Rattle.keys.specs.Keys.{rounded, key}
use Rattle.keys.proofs.Rounding.{e8, half_up_of, key-is, scaled_1025}

-- ---- a product with 1.0e8
scaled_up : (p n d q m c z e : ℕ) → p * c + m * d ≤ q * d + n * c
    → (p * z + n * 0) * (c * e) + (q * 0 + m * z) * (d * e) ≤ (q * z + m * 0) * (d * e) + (p * 0 + n * z) * (c * e)
scaled_up p n d q m c z e h = omega (arith, mul-le-mul_right (z * e) h)

mul_mono : (x y : Float) → T (finite x) → T (finite y) → T (le x y) → T (le (mul binary64 x e8) (mul binary64 y e8))
mul_mono x y p q h =
    rounds_mono binary64 (mul binary64 x e8) (mul binary64 y e8) _ _ (den x * den e8) _ _ (den y * den e8) (mul-pos (den_pos x) (den_pos e8))
    (mul-pos (den_pos y) (den_pos e8))
    (mul_rounds binary64 x e8 p tt) (mul_rounds binary64 y e8 q tt)
    (scaled_up (plus x) (less x) (den x) (plus y) (less y) (den y) (plus e8) (den e8) (le→Le x y p q h))

-- ---- rounding half away from zero
half_up_mono : (a c b d : ℕ) → 0 < c → 0 < d → a * d ≤ b * c → half_up_of a c ≤ half_up_of b d
half_up_mono a c b d C D h = (le-div_iff_mul-le {k = 2 * d} (omega arith)).1 (go (half_up_of a c) (div-mul-le_self (2 * a + c) (2 * c)))
  where
    go : (k : ℕ) → k * (2 * c) ≤ 2 * a + c → k * (2 * d) ≤ 2 * b + d
    go k l =
        let u : k * (2 * c) * d ≤ (2 * a + c) * d = mul-le-mul_right d l in
        le_of_mul-le-mul_right {k = c} (omega arith) C

nothing : (a d : ℕ) → 0 < d → a * d ≤ 0 → a ≡ 0
nothing zero d D h = refl
nothing (suc a) d D h = omega arith

half_up-zero : (a d : ℕ) → 0 < d → a ≡ 0 → half_up_of a d ≡ 0
half_up-zero a d D e = go (half_up_of a d) (div-mul-le_self (2 * a + d) (2 * d))
  where
    go : (k : ℕ) → k * (2 * d) ≤ 2 * a + d → k ≡ 0
    go zero h = refl
    go (suc k) h = omega arith

minus_plus : (a b : ℕ) → T (le_z (neg_ℤ (pos a)) (pos b))
minus_plus zero b = le→leb 0 b zero-le
minus_plus (suc a) b = tt

minus_minus : (a b : ℕ) → b ≤ a → T (le_z (neg_ℤ (pos a)) (neg_ℤ (pos b)))
minus_minus zero zero h = tt
minus_minus zero (suc b) h = omega arith
minus_minus (suc a) zero h = tt
minus_minus (suc a) (suc b) h = le→leb b a (omega arith)

plus-minus : (a b : ℕ) → a ≡ 0 → b ≡ 0 → T (le_z (pos a) (neg_ℤ (pos b)))
plus-minus a b e f = subst (λ (z : ℕ). T (le_z (pos z) (neg_ℤ (pos b)))) (sym e) (subst (λ (z : ℕ). T (le_z (pos 0) (neg_ℤ (pos z)))) (sym f) tt)

pub rounded_mono : (x y : Float) → T (finite x) → T (finite y) → Le x y → T (le_z (rounded x) (rounded y))
unfolding rounded
rounded_mono (fin false m e) (fin false n d) p q h = le→leb _ _ (half_up_mono (m * up e) (down e) (n * up d) (down d) (down_pos e) (down_pos d) (omega arith))
rounded_mono (fin true m e) (fin false n d) p q h = minus_plus (half_up_of (m * up e) (down e)) (half_up_of (n * up d) (down d))
rounded_mono (fin false m e) (fin true n d) p q h =
    plus-minus (half_up_of (m * up e) (down e)) (half_up_of (n * up d) (down d))
    (half_up-zero (m * up e) (down e) (down_pos e) (nothing (m * up e) (down d) (down_pos d) (omega arith)))
    (half_up-zero (n * up d) (down d) (down_pos d) (nothing (n * up d) (down e) (down_pos e) (omega arith)))
rounded_mono (fin true m e) (fin true n d) p q h =
    minus_minus (half_up_of (m * up e) (down e)) (half_up_of (n * up d) (down d))
    (half_up_mono (n * up d) (down d) (m * up e) (down e) (down_pos d) (down_pos e) (omega arith))
rounded_mono nan y p q h = elim p [ ]
rounded_mono (inf _) y p q h = elim p [ ]
rounded_mono (fin false m e) nan p q h = elim q [ ]
rounded_mono (fin false m e) (inf _) p q h = elim q [ ]
rounded_mono (fin true m e) nan p q h = elim q [ ]
rounded_mono (fin true m e) (inf _) p q h = elim q [ ]

-- ---- keys
pub key_mono : (x y : Float) → Within 1025 x → Within 1025 y → T (le x y) → T (le_z (key x) (key y))
key_mono x y u v h =
    let a = (scaled_1025 x u).0 in
    let b = (scaled_1025 y v).0 in
    subst (λ (z : ℤ). T (le_z z (key y))) (key-is x)
    (subst (λ (z : ℤ). T (le_z (rounded (mul binary64 x e8)) z)) (key-is y)
    (rounded_mono (mul binary64 x e8) (mul binary64 y e8) a b (le→Le _ _ a b (mul_mono x y u.0 v.0 h))))

pub both : (a b : ℤ) → T (le_z a b) → T (lt_z b a) → ⊥
both (pos a) (pos b) h k = omega (arith, leb→le a b h, ltb→lt b a k)
both (pos a) (negsuc b) h k = absurd h
both (negsuc a) (pos b) h k = absurd k
both (negsuc a) (negsuc b) h k = omega (arith, leb→le b a h, ltb→lt a b k)

-- equal coordinates have one key
one : (a b : ℤ) → T (le_z a b) → T (le_z b a) → a ≡ b
one (pos a) (pos b) h k = ap pos (omega (arith, leb→le a b h, leb→le b a k))
one (pos a) (negsuc b) h k = absurd h
one (negsuc a) (pos b) h k = absurd k
one (negsuc a) (negsuc b) h k = ap negsuc (omega (arith, leb→le b a h, leb→le a b k))

pub key-eq : (x y : Float) → Within 1025 x → Within 1025 y → T (eq x y) → key x ≡ key y
key-eq x y u v e = one (key x) (key y) (key_mono x y u v (eq→le x y e)) (key_mono y x v u (eq→le y x (eq_sym x y e)))

-- ---- a whole number is rounded to itself
exact : (a d n : ℕ) → 0 < d → a ≡ n * d → half_up_of a d ≡ n
exact a d n D e = div-eq_of_lt-le (2 * d) (omega arith) (omega arith)

pub whole : (z : ℤ) (y : Float) → Val y (posp z) (negp z) 1 → rounded y ≡ z
unfolding rounded
whole z nan v = absurd v.0
whole z (inf s) v = absurd v.0
whole (pos n) (fin false m e) v = ap pos (exact (m * up e) (down e) n (down_pos e) (omega (arith, v.1)))
whole (negsuc n) (fin false m e) v = absurd (omega (arith, v.1, down_pos e))
whole (pos n) (fin true m e) v = plain n (m * up e) (down e) (down_pos e) (omega (arith, v.1))
  where
    plain : (n a d : ℕ) → 0 < d → n * d + a ≡ 0 → neg_ℤ (pos (half_up_of a d)) ≡ pos n
    plain zero a d D e = ap (λ (k : ℕ). neg_ℤ (pos k)) (half_up-zero a d D (omega arith))
    plain (suc n) a d D e = absurd (omega arith)
whole (negsuc n) (fin true m e) v = ap (λ (k : ℕ). neg_ℤ (pos k)) (exact (m * up e) (down e) (suc n) (down_pos e) (omega (arith, v.1)))

pub int_val : (z : ℤ) → nat_abs z ≤ 2 ^ 53 → Val (of_int binary64 z) (posp z) (negp z) 1
int_val z h = is_z_val (of_int binary64 z) z 1 (subst (λ (x : Float). IsZ x z 1) (sym (of_int_scaled binary64 z)) (scaled_is_z binary64 z 0 h zero-le))

pub next : (a b : ℤ) → T (le_z (a +ℤ pos 1) b) → T (lt_z a b)
next a b t = go a b (a +ℤ pos 1) (sum-parts a (pos 1)) t
  where
    go : (a b s : ℤ) → posp s + negp a + 0 ≡ posp a + 1 + negp s → T (le_z s b) → T (lt_z a b)
    go (pos a) (pos b) (pos s) e t = lt→ltb a b (omega (arith, leb→le s b t))
    go (pos a) (pos b) (negsuc s) e t = absurd (omega arith)
    go (pos a) (negsuc b) (pos s) e t = absurd t
    go (pos a) (negsuc b) (negsuc s) e t = absurd (omega arith)
    go (negsuc a) (pos b) s e t = tt
    go (negsuc a) (negsuc b) (pos s) e t = absurd t
    go (negsuc a) (negsuc b) (negsuc s) e t = lt→ltb b a (omega (arith, leb→le b s t))

pub prev : (a b : ℤ) → T (le_z b (a -ℤ pos 1)) → T (lt_z b a)
prev a b t = go a b (a -ℤ pos 1) (sum-parts a (negsuc 0)) t
  where
    go : (a b s : ℤ) → posp s + negp a + 1 ≡ posp a + 0 + negp s → T (le_z b s) → T (lt_z b a)
    go (pos a) (pos b) (pos s) e t = lt→ltb b a (omega (arith, leb→le b s t))
    go (pos a) (pos b) (negsuc s) e t = absurd t
    go (pos a) (negsuc b) s e t = tt
    go (negsuc a) (pos b) (pos s) e t = absurd (omega arith)
    go (negsuc a) (pos b) (negsuc s) e t = absurd t
    go (negsuc a) (negsuc b) (pos s) e t = absurd (omega arith)
    go (negsuc a) (negsuc b) (negsuc s) e t = lt→ltb a b (omega (arith, leb→le s b t))
