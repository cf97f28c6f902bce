-- A test against a small limit is a test for zero. `magnitude` is what the Rust's `abs` gives. Where x is z / c, up to the sign
-- of a zero, and the limit t is not below 0 and below 1 / c, |x| <= t holds exactly if z is 0 (`small-is-zero`).
use mathlib.Core.Path.{◌≡◌, refl, sym, ap, subst}
use Prim.Native.Nat.{ℕ, zero, suc, ◌+◌, ◌*◌, ◌≤◌, ◌<◌}
use native.Mathlib.Omega.{arith}
use mathlib.Core.Bool.{Bool, false}
use lib.IntN.{ℤ, pos, nat_abs}
use lib.Dec.{T}
use lib.Ieee.{Float, nan, inf, fin, le}
use lib.Ieee.Exact.{HasValue}
use lib.Ieee.Positive.{den, den_pos}
use lib.Ieee.Scale.{finite}
use Rattle.laws.specs.Double.{◌≤f◌}
use Rattle.laws.specs.Integer.{eq_z}
use Rattle.laws.proofs.Booleans.{bool_ext}
use Rattle.laws.proofs.Fractions.{less, plus}
use Rattle.laws.proofs.Grid.{IsZ}
use Rattle.laws.proofs.Integers.{size_of, size-zero}
use Rattle.laws.proofs.Results.{Val, le_val, own_val, val_le, value→val}
use Rattle.laws.proofs.SignedTests.{eq_z→}

abbrev pub magnitude : Float → Float
magnitude nan = nan
magnitude (inf s) = inf false
magnitude (fin s m e) = fin false m e

magnitude-value : (x : Float) (s : Bool) (a c : ℕ) → HasValue x s a c → HasValue (magnitude x) false a c
magnitude-value (fin t m e) s a c h = (refl, h.1)
magnitude-value nan s a c h = elim h [ ]
magnitude-value (inf _) s a c h = elim h [ ]

module _ (x : Float) (z : ℤ) (c : ℕ) (C : 0 < c) (h : IsZ x z c) (t : Float) (f : T (finite t)) (low : less t ≡ 0) (high : plus t * c < den t) where
  value : Val (magnitude x) (nat_abs z) 0 c
  value =
      subst (λ (a : ℕ). Val (magnitude x) a 0 c) (size_of h.0 h.1 z h.3)
      (value→val (magnitude x) false h.1 c (magnitude-value x h.0 h.1 c h.2))

  fewer : nat_abs z * den t + less t * c ≤ plus t * c + 0 * den t → nat_abs z ≡ 0
  fewer l = go (nat_abs z) (plus t) (less t) (den t) low high l
    where
      go : (a p n d : ℕ) → n ≡ 0 → p * c < d → a * d + n * c ≤ p * c + 0 * d → a ≡ 0
      go zero p n d e k l = refl
      go (suc a) p n d e k l = absurd (omega (arith, ap (λ (v : ℕ). v * c) e))

  pub small-is-zero : (magnitude x ≤f t) ≡ eq_z z (pos 0)
  small-is-zero =
      bool_ext (le (magnitude x) t) (eq_z z (pos 0))
      (λ k. subst (λ (w : ℤ). T (eq_z w (pos 0)))
      (sym (size-zero z (fewer (le_val (magnitude x) t (nat_abs z) 0 c (plus t) (less t) (den t) C (den_pos t) value (own_val t f) k)))) tt)
      (λ k. val_le (magnitude x) t (nat_abs z) 0 c (plus t) (less t) (den t) C (den_pos t) value (own_val t f)
      (least (nat_abs z) (plus t) (less t) (den t) (ap nat_abs (eq_z→ z (pos 0) k)) low))
    where
      least : (a p n d : ℕ) → a ≡ 0 → n ≡ 0 → a * d + n * c ≤ p * c + 0 * d
      least a p n d e g = omega (arith, ap (λ (v : ℕ). v * d) e, ap (λ (v : ℕ). v * c) g)
