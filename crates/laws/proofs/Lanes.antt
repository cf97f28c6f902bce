-- What a comparison of vectors tells: a bit for each lane, read as a number.
use Prim.Native.Nat.{ℕ, ◌+◌, ◌*◌, ◌%◌, ◌-◌, ◌^◌}
use native.Mathlib.Omega.{arith}
use mathlib.Core.Path.{◌≡◌, refl, ap, ◌∙◌}
use mathlib.Core.Bool.{Bool, true, false, not, cond, ◌||◌}
use mathlib.Core.List.{List, [], ◌∷◌, map}
use lib.Dec.{eqb}
use lib.ListN.{length, replicate, length-map}
use lib.Lanes.{zip2, mask_l, top}
use lib.Ieee.{Float, le}
use mir.Syntax.{w64}
use Rattle.std.specs.List.{list_any}
use Rattle.std.proofs.Math.Facts.{eqb_yes, yes_eqb}
use Rattle.std.proofs.lemmas.Simd.{tops_compared, mask_l-mod, zip2-map, splat_is_map}
use Rattle.laws.proofs.Booleans.{bool_ext}

-- not all of the bits are set: an element fails the test
fails : (b : Bool) (m k : ℕ) → not (eqb (cond b 1 0 + 2 * m) (1 + 2 * k)) ≡ (not b || not (eqb m k))
fails true m k =
    ap not (bool_ext (eqb (1 + 2 * m) (1 + 2 * k)) (eqb m k) (λ t. yes_eqb (omega (arith, eqb_yes t))) (λ t. yes_eqb (omega (arith, eqb_yes t))))
fails false m k = ap not (bool_ext (eqb (0 + 2 * m) (1 + 2 * k)) false (λ t. absurd (odd (eqb_yes t))) (λ t. absurd t))
  where
    odd : 0 + 2 * m ≡ 1 + 2 * k → ⊥
    odd e = omega (arith, e)

pub full : {A : Type 0} (p : A → Bool) (xs : List A) → not (eqb (mask_l (map p xs)) (mask_l (map (λ _. true) xs))) ≡ list_any (λ x. not (p x)) xs
full p [] = refl
full p (x ∷ xs) = fails (p x) (mask_l (map p xs)) (mask_l (map (λ _. true) xs)) ∙ ap (λ (b : Bool). not (p x) || b) (full p xs)

-- one of 16 numbers that were computed lane by lane is below y, or no number
pub one-below : {A : Type 0} (f : A → Float) (y : Float) (vs : List A) (xs : List Float) → length vs ≡ 16 → xs ≡ map f vs
    → not (eqb (mask_l (map (top 63) (zip2 (λ a b. cond (le a b) (2 ^ 64 - 1) 0) (replicate 16 y) xs)) % 2 ^ 64) 65535) ≡ list_any (λ v. not (le y (f v))) vs
one-below f y vs xs h e =
    (λ j. not (eqb (mask_l (tops_compared w64 le (replicate 16 y) xs j) % 2 ^ 64) 65535))
    ∙ (λ j. not (eqb (mask_l (zip2 le (splat_is_map vs 16 y h j) (e j)) % 2 ^ 64) 65535))
    ∙ (λ j. not (eqb (mask_l (zip2-map le (λ _. y) f vs j) % 2 ^ 64) 65535))
    ∙ (λ j. not (eqb (mask_l-mod (map (λ v. le y (f v)) vs) 64 (omega (arith, h, length-map vs (λ v. le y (f v)))) j) (mask_l (splat_is_map vs 16 true h j))))
    ∙ full (λ v. le y (f v)) vs
