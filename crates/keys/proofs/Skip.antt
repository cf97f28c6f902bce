-- The scan's quick test: a scaled coordinate is within 1 of its key, so of two that share a key the difference is at most 2.
-- Where the square of the rounded difference is 8 or more, the key is another.
use Rattle.std.proofs.Common.{◌≡◌, ℕ, ◌+◌, ◌*◌, ◌/◌, ◌%◌, ◌<◌, ◌≤◌, true, false, T, ℤ, pos, neg_ℤ, sym, ap}
use Rattle.std.proofs.Common.{◌∙◌, subst, mul-le-mul_right, mod-lt, mul-pos, div-add-mod', arith, lit≤}
use lib.Ieee.{Float, fin, binary64, up, down, mul, sub, le, of_int, round, fits, inf, nan}
use lib.Ieee.Fits.{down_pos}
use lib.Ieee.Scale.{finite}
use lib.Ieee.Positive.{num, den, den_pos}
use Rattle.laws.specs.Within.{Within}
use Rattle.laws.proofs.Booleans.{is_true}
use Rattle.laws.proofs.Fractions.{plus, less, le→Le}
use Rattle.laws.proofs.Round.{rounds_le, rounds_ge}
use Rattle.laws.proofs.Results.{sub_rounds}
use Rattle.laws.proofs.Bounds.{mul-within}
use Rattle.laws.proofs.Between.{between-within, plus-le}
use Rattle.laws.proofs.Integers.{posp, negp, neg-parts}
use Rattle.keys.specs.Keys.{rounded, key}
use Rattle.laws.specs.Integer.{eq_z}
use Rattle.keys.specs.declared.SoughtKey.{SoughtKey}
use Rattle.keys.specs.Keys.{key_of, Sought, near}
use Rattle.keys.proofs.KeyTests.{eq_z_no}
use Rattle.keys.proofs.Rounding.{e8, half_up_of, key-is, scaled_1025, wider}

-- ---- a value is within 1 of what it is rounded to
half-near : (n d : ℕ) → 0 < d → (n ≤ half_up_of n d * d + d) × (half_up_of n d * d ≤ n + d)
half-near n d D =
    let a = div-add-mod' (2 * n + d) (2 * d) in
    let b : (2 * n + d) % (2 * d) < 2 * d = mod-lt (2 * n + d) (omega arith) in
    go ((2 * n + d) / (2 * d)) ((2 * n + d) % (2 * d)) a b
  where
    go : (h r : ℕ) → h * (2 * d) + r ≡ 2 * n + d → r < 2 * d → (n ≤ h * d + d) × (h * d ≤ n + d)
    go h r a b = (omega arith, omega arith)

-- y ≤ k + 1 and k ≤ y + 1
abbrev Near : Float → ℤ → Type 0
Near y k = (plus y + negp k * den y ≤ posp k * den y + less y + den y) × (posp k * den y + less y ≤ plus y + negp k * den y + den y)

rounded-near : (y : Float) → T (finite y) → Near y (rounded y)
unfolding rounded
rounded-near (fin false m e) f = let h = half-near (m * up e) (down e) (down_pos e) in (omega (arith, h.0), omega (arith, h.1))
rounded-near (fin true m e) f =
    let h = half-near (m * up e) (down e) (down_pos e) in
    let p = neg-parts (half_up_of (m * up e) (down e)) in
    let z = neg_ℤ (pos (half_up_of (m * up e) (down e))) in
    (low (posp z) (negp z) _ (m * up e) (down e) p.0 p.1 h.1, high (posp z) (negp z) _ (m * up e) (down e) p.0 p.1 h.0)
  where
    low : (p q a n d : ℕ) → p ≡ 0 → q ≡ a → a * d ≤ n + d → 0 + q * d ≤ p * d + n + d
    low p q a n d x y h = rw (x, y) (omega arith)

    high : (p q a n d : ℕ) → p ≡ 0 → q ≡ a → n ≤ a * d + d → p * d + n ≤ 0 + q * d + d
    high p q a n d x y h = rw (x, y) (omega arith)
rounded-near nan f = elim f [ ]
rounded-near (inf _) f = elim f [ ]

-- ---- so of two that are rounded alike the rounded difference is within 2
above : (P N D Q M K p n : ℕ) → P + n * D ≤ p * D + N + D → p * K + M ≤ Q + n * K + K → P * K + M * D ≤ 2 * (D * K) + (N * K + Q * D)
above P N D Q M K p n h k = omega (arith, mul-le-mul_right K h, mul-le-mul_right D k)

below : (P N D Q M K p n : ℕ) → p * D + N ≤ P + n * D + D → Q + n * K ≤ p * K + M + K → N * K + Q * D ≤ 2 * (D * K) + (P * K + M * D)
below P N D Q M K p n h k = omega (arith, mul-le-mul_right K h, mul-le-mul_right D k)

close : (y x : Float) → T (finite y) → T (finite x) → rounded y ≡ rounded x → Within 2 (sub binary64 y x)
unfolding fits
close y x f g e =
    let d = sub binary64 y x in
    let k = rounded x in
    let r = sub_rounds binary64 y x f g in
    let q = subst (Near y) e (rounded-near y f) in
    let o = rounded-near x g in
    between-within 2 (fin true 1 (pos 1)) d (fin false 1 (pos 1)) (tt, lit≤ tt) (tt, lit≤ tt)
    (rounds_ge binary64 d (fin true 1 (pos 1)) _ _ (den y * den x) (mul-pos (den_pos y) (den_pos x)) r tt tt
    (omega (arith, below (plus y) (less y) (den y) (plus x) (less x) (den x) (posp k) (negp k) q.1 o.0)))
    (rounds_le binary64 d (fin false 1 (pos 1)) _ _ (den y * den x) (mul-pos (den_pos y) (den_pos x)) r tt tt
    (omega (arith, above (plus y) (less y) (den y) (plus x) (less x) (den x) (posp k) (negp k) q.0 o.1)))

-- and its square is below 8
small-square : (d : Float) → Within 2 d → T (le (fin false 1 (pos 3)) (mul binary64 d d)) → ⊥
small-square d w t =
    let z = mul-within binary64 2 2 d d (lit≤ tt) w w in
    let x = mul binary64 d d in
    go (plus x) (less x) (num x) (den x) (den_pos x) (plus-le x) z.1 (le→Le (fin false 1 (pos 3)) x tt z.0 t)
  where
    go : (p n a c : ℕ) → 0 < c → p ≤ a → a ≤ 2 * 2 * c → 1 * 8 * c + n * 1 ≤ p * 1 + 0 * c → ⊥
    go p n a c C i j k = omega arith

-- what the code squares: the difference of a scaled coordinate x and what the sought one is when scaled
abbrev pub off : Float → Float → Float
off x v = sub binary64 (mul binary64 x e8) v

pub skip : (o x : Float) → Within 1024 o → Within 1024 x
    → le (fin false 1 (pos 3)) (mul binary64 (off x (mul binary64 o e8)) (off x (mul binary64 o e8))) ≡ true → key o ≡ key x → ⊥
skip o x u w t e =
    small-square (off x (mul binary64 o e8))
    (close (mul binary64 x e8) (mul binary64 o e8) (scaled_1025 x (wider x w)).0 (scaled_1025 o (wider o u)).0 (key-is x ∙ sym e ∙ sym (key-is o)))
    (subst T (sym t) tt)

-- what is looked for
pub scaled-of : (w : SoughtKey) → Sought w → w.scaled ≡ mul binary64 w.own e8
unfolding of_int round
scaled-of w so = ap (λ (u : SoughtKey). u.scaled) so.same

-- so a coordinate that is not near a key has another
pub other : (w : SoughtKey) (x : Float) → Within 1024 x → Sought w → near w.scaled x ≡ false → eq_z (key_of w) (key x) ≡ false
unfolding near of_int
other w x h so e = eq_z_no _ _ (skip w.own x so.ranged h (is_true _ (ap (λ (v : Float). near v x) (sym (scaled-of w so)) ∙ e)))
