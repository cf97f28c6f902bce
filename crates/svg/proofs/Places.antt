-- Places: how far from the origin they are, and each case of the code; and the claim that ties them to the sheet, `sheet-decimals`: the
-- place of a coordinate in range is shown as the cell sheet shows the coordinate.
use Prim.Native.Nat.{ℕ, ◌+◌, ◌-◌, ◌*◌, ◌≤◌, ◌<◌, min}
use mathlib.Core.Path.{◌≡◌, refl, sym, ap, ◌∙◌, subst}
use mathlib.Core.Bool.{Bool, true, false, true≢false, ◌&&◌}
use mathlib.Core.List.{List}
use native.Mathlib.Omega.{arith}
use lib.Dec.{T, ltb}
use lib.ListN.{length, get_or, get_or-eq_default}
use lib.Ieee.{Float, nan, le}
use borrow.Author.Tests.{ltb-true}
use Rattle.nodes.proofs.Ranged.{on_sheet-is, on_sheet-within}
use Rattle.laws.specs.Within.{Within}
use Rattle.nodes.specs.Flat.{on_sheet}
use Rattle.decimals.specs.Rounded.{ten_thousandths, negative, minus}
use Rattle.decimals.specs.Shown.{decimals, shown}
use Rattle.svg.specs.Place.{origin, place_of, rounded}
use Rattle.svg.specs.Form.{exact}
use Rattle.svg.proofs.Forms.{exact_below, exact_above}
use Rattle.decimals.proofs.Value.{shown-le}
use Rattle.decimals.proofs.Rounding.{half_le}

-- ---- a listed coordinate
pub within : (x : Float) → on_sheet x ≡ true → Within 1024 x
within x e = on_sheet-within x (subst T (sym e) tt)

pub out-place : (x : Float) → on_sheet x ≡ false → origin ≡ place_of x
unfolding place_of
out-place x e = rw e

pub low-place : (x : Float) → on_sheet x ≡ true → minus x ≡ true → origin - ten_thousandths x ≡ place_of x
unfolding place_of
low-place x e m = rw (e, m)

pub high-place : (x : Float) → on_sheet x ≡ true → minus x ≡ false → origin + ten_thousandths x ≡ place_of x
unfolding place_of
high-place x e m = rw (e, m)

nan_out : on_sheet nan ≡ false
unfolding le
nan_out = sym (on_sheet-is nan)

no_place : origin ≡ place_of nan
unfolding place_of
no_place = rw nan_out

pub past_node : (l : List Float) (k : ℕ) → length l ≤ k → origin ≡ place_of (get_or l k nan)
past_node l k h = no_place ∙ ap place_of (sym (get_or-eq_default l nan h))

-- ---- so many units
pub few_rounded : (m : ℕ) → rounded m ≤ 10240000
unfolding rounded
few_rounded m = half_le (min m 8388608 * 625) 512 10240000 (omega arith) (omega arith)

-- ---- as on the sheet
and_right : (a b : Bool) → (a && b) ≡ true → b ≡ true
and_right true b e = e
and_right false b e = absurd (true≢false (sym e))

-- a coordinate that is shown with a minus is not shown as 0.0000
some : (x : Float) → minus x ≡ true → 0 < ten_thousandths x
unfolding minus
some x d = ltb-true 0 (ten_thousandths x) (and_right (negative x) (ltb 0 (ten_thousandths x)) d)

pub sheet-decimals : (x : Float) → on_sheet x ≡ true → exact (place_of x) ≡ shown x
unfolding shown
sheet-decimals x e = go (minus x) refl
  where
    few : ten_thousandths x ≤ 10240000
    few = shown-le x (within x e)

    go : (m : Bool) → minus x ≡ m → exact (place_of x) ≡ decimals (minus x) (ten_thousandths x)
    go false d =
        let same : origin + ten_thousandths x - origin ≡ ten_thousandths x = omega arith in
        let c = sym d in
        ap exact (sym (high-place x e d)) ∙ exact_above (origin + ten_thousandths x) (omega arith) ∙ (λ j. decimals (c j) (same j))
    go true d =
        let same : origin - (origin - ten_thousandths x) ≡ ten_thousandths x = omega (arith, few) in
        let c = sym d in
        ap exact (sym (low-place x e d)) ∙ exact_below (origin - ten_thousandths x) (omega (arith, some x d)) ∙ (λ j. decimals (c j) (same j))
