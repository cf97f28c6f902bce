-- Claim: neither axis has a tenth tick (`no_tenth_below`, `no_tenth_beside`), so that the numbers of nine are those of every tick. For eight steps are more
-- than the size (`eight_steps`).
use Prim.Native.Nat.{ℕ, zero, suc, ◌+◌, ◌-◌, ◌*◌, ◌^◌, ◌≤◌, ◌<◌, max}
use mathlib.Core.Path.{◌≡◌, refl}
use mathlib.Core.Logic.{◌⊎◌, inl, inr, ⊎_elim}
use native.Mathlib.Nat.{pow-succ', div-add-mod', mod-lt, div-mul-le_self}
use native.Mathlib.Omega.{arith}
use native.Mathlib.Decide.{dec_le}
use Rattle.frame.specs.Seen.{Reach, Small}
use Rattle.frame.specs.Bounds.{grown, decade_to, step_for, framed}
use Rattle.frame.specs.Head.{multiple_from, multiple_to, eastward}
use Rattle.frame.proofs.Cases.{grown-stays, grown-more, step-one, step-two, step_five}

-- forty of the decade are more than the size, or it is the power of ten that its turns make
grows : (size d i : ℕ) → (size < d * 40) ⊎ (d ≡ 10 ^ i) → Dec (d * 40 ≤ size) → (size < grown d size * 40) ⊎ (grown d size ≡ 10 ^ suc i)
grows size d i h (no k) = let e = grown-stays d size (omega arith) in inl (omega arith)
grows size d i h (yes k) =
    ⊎_elim (λ (l : size < d * 40). absurd (omega arith)) (λ (e : d ≡ 10 ^ i). let q = grown-more d size k in let p = pow-succ' 10 i in inr (omega arith)) h

decade : (size i : ℕ) → (size < decade_to size i * 40) ⊎ (decade_to size i ≡ 10 ^ i)
unfolding decade_to
decade size zero = inr refl
decade size (suc i) = grows size (decade_to size i) i (decade size i) (dec_le (decade_to size i * 40) size)

forty : (size : ℕ) → size ≤ 40000000 → size < decade_to size 7 * 40
forty size h = ⊎_elim (λ (l : size < decade_to size 7 * 40). l) (λ (e : decade_to size 7 ≡ 10 ^ 7). omega (arith, e)) (decade size 7)

pub eight_steps : (size : ℕ) → size ≤ 40000000 → size < step_for size * 8
eight_steps size h = by (decade_to size 7) refl (dec_le (decade_to size 7 * 8) size) (dec_le (decade_to size 7 * 16) size)
  where
    by : (d : ℕ) → d ≡ decade_to size 7 → Dec (decade_to size 7 * 8 ≤ size) → Dec (decade_to size 7 * 16 ≤ size) → size < step_for size * 8
    by d e (no k) q = let s = step-one size d e (omega (arith, e, k)) in omega arith
    by d e (yes k) (no q) = let s = step-two size d e (omega (arith, e, k)) (omega (arith, e, q)) in omega arith
    by d e (yes k) (yes q) = let s = step_five size d e (omega (arith, e, k)) (omega (arith, e, q)) in omega (arith, forty size h)

from-least : (x step : ℕ) → 0 < step → x ≤ multiple_from x step
unfolding multiple_from
from-least x step h = omega (arith, div-add-mod' (x + step - 1) step, mod-lt (x + step - 1) h)

module _ (e : Reach) (h : Small e) where
  abbrev size : ℕ
  size = max (e.right - e.left) (e.top - e.bottom)

  steps : size < step_for size * 8
  steps = eight_steps size (omega (arith, h.right, h.top))

  pub no_tenth_below : (framed e).right < eastward (framed e) 9
  unfolding framed eastward
  no_tenth_below = omega (arith, steps, from-least e.left (step_for size) (omega (arith, steps)))

  pub no_tenth_beside : multiple_to (framed e).low (framed e).step < (framed e).high + 9 * (framed e).step
  unfolding framed multiple_to
  no_tenth_beside = omega (arith, steps, h.bottom, h.top, div-mul-le_self (40000000 - e.bottom) (step_for size))
