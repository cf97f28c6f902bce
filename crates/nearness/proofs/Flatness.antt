-- The two tests of a flat point in the code's order: the exact one is made first.
use mathlib.Core.Path.{◌≡◌, refl, sym, ◌∙◌, subst}
use mathlib.Core.Bool.{Bool, true, false, not, ◌&&◌}
use lib.IntN.{ℤ, pos, negsuc}
use lib.Signed.{le_z, lt_z}
use lib.Dec.{T}
use borrow.Author.Tests.{lt-ltb, le-ltb, leb-true, leb-false}
use Rattle.laws.proofs.Booleans.{and-false}

ahead : (z : ℤ) (b : Bool) → le_z z (pos 0) ≡ b → lt_z (pos 0) z ≡ not b
ahead (pos n) true h = le-ltb 0 n (leb-true n 0 h)
ahead (pos n) false h = lt-ltb 0 n (leb-false n 0 h)
ahead (negsuc n) true h = refl
ahead (negsuc n) false h = absurd (subst T h tt)

-- the exact test is made first, on the number z that was computed
pub flat_no : (b : Bool) (z w : ℤ) → z ≡ w → le_z z (pos 0) ≡ true → false ≡ b && lt_z (pos 0) w
flat_no b z w e h = rw (← e, ahead z true h) (sym (and-false b))

pub flat_test : (b d : Bool) (z w : ℤ) → b ≡ d → z ≡ w → le_z z (pos 0) ≡ false → b ≡ d && lt_z (pos 0) w
flat_test b d z w f e h = rw (← e, ahead z false h) (f ∙ go d)
  where
    go : (d : Bool) → d ≡ d && true
    go true = refl
    go false = refl
