-- `any_of_16_out`: a lane of both masks is set where the number is between the two bounds.
use Prim.Native.Nat.{ℕ, ◌-◌, ◌%◌, ◌^◌}
use native.Mathlib.Omega.{arith}
use mathlib.Core.Path.{◌≡◌, refl, sym, ap, ◌∙◌}
use mathlib.Core.Bool.{Bool, true, false, not, cond, ◌&&◌}
use mathlib.Core.List.{List, [], ◌∷◌, map}
use lib.Bits.{bit_and}
use lib.Dec.{eqb}
use lib.ListN.{length, replicate, length-map}
use lib.Lanes.{zip2, mask_l, top}
use lib.Ieee.{Float, of_bits, neg, le}
use Rattle.std.specs.List.{list_any}
use Rattle.std.proofs.lemmas.Simd.{mask_l-mod, zip2_splat, zip2_splat_left, zip2-map, splat_is_map}
use Rattle.laws.proofs.Lanes.{full}
use Rattle.nodes.specs.Flat.{on_sheet}
use Rattle.nodes.proofs.Ranged.{on_sheet-is, listed}
use Rattle.nodes.proofs.on_sheet.any_of_16_out.Goals as goal

-- all bits of a lane where a test holds, and none where not
lane : Bool → ℕ
lane b = cond b (2 ^ 64 - 1) 0

both : (b c : Bool) → top 63 (bit_and (lane b) (lane c)) ≡ (b && c)
unfolding lane
both true true = refl
both true false = refl
both false true = refl
both false false = refl

tops : (p q : Float → Bool) (xs : List Float) → map (top 63) (map (λ x. bit_and (lane (p x)) (lane (q x))) xs) ≡ map (λ x. p x && q x) xs
tops p q [] = refl
tops p q (x ∷ xs) = λ j. both (p x) (q x) j ∷ tops p q xs j

between : (lo hi : Float) (xs : List Float) → length xs ≡ 16
    → map (top 63) (zip2 bit_and (zip2 (λ a b. lane (le a b)) (replicate 16 lo) xs) (zip2 (λ a b. lane (le a b)) xs (replicate 16 hi)))
    ≡ map (λ x. le lo x && le x hi) xs
between lo hi xs h =
    (λ j. map (top 63) (zip2 bit_and (zip2_splat_left (λ a b. lane (le a b)) lo 16 xs h j) (zip2_splat (λ a b. lane (le a b)) xs 16 hi h j)))
    ∙ ap (map (top 63)) (zip2-map bit_and (λ x. lane (le lo x)) (λ x. lane (le x hi)) xs)
    ∙ tops (λ x. le lo x) (λ x. le x hi) xs

beyond : (lo hi : Float) (xs : List Float) → length xs ≡ 16
    → not (eqb (mask_l (map (top 63) (zip2 bit_and (zip2 (λ a b. lane (le a b)) (replicate 16 lo) xs) (zip2 (λ a b. lane (le a b)) xs (replicate 16 hi))))
    % 2 ^ 64) 65535)
    ≡ list_any (λ x. not (le lo x && le x hi)) xs
beyond lo hi xs h =
    (λ j. not (eqb (mask_l (between lo hi xs h j) % 2 ^ 64) 65535))
    ∙ (λ j. not (eqb (mask_l-mod (map (λ x. le lo x && le x hi) xs) 64 (omega (arith, h, length-map xs (λ x. le lo x && le x hi))) j)
    (mask_l (splat_is_map xs 16 true h j))))
    ∙ full (λ x. le lo x && le x hi) xs

pub returns : goal.returns
unfolding of_bits neg lane
returns c =
    let xs = c.args.x in
    beyond _ _ xs c.requires ∙ (λ j. list_any (λ x. not (on_sheet-is x j)) xs) ∙ sym (listed (λ x. not (on_sheet x)) xs false)
