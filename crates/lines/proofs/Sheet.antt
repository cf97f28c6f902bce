-- So many units with a sign are as many.
use Rattle.std.proofs.Common.{ℕ, zero, suc, ◌≡◌, Bool, true, false, refl}
use Rattle.std.specs.Prelude.{unsigned_abs}
use Rattle.numeral.specs.Numeral.{signed}

pub abs_signed : (m : Bool) (n : ℕ) → unsigned_abs (signed m n) ≡ n
unfolding signed
abs_signed m zero = refl
abs_signed true (suc n) = refl
abs_signed false (suc n) = refl
