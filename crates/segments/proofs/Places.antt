-- A test of where a point is on the line of two others, if it is on it.
use mathlib.Core.Bool.{Bool, true, false, ◌&&◌, cond}
use mathlib.Core.Path.{◌≡◌}
use lib.IntN.{ℤ}
use Rattle.std.specs.Prelude.{Option, Some, None}
use Rattle.std.specs.Option.{MatchOption}
use Rattle.std.proofs.lemmas.Option.{MatchOption-at_some, MatchOption-at_none}

-- Q is what the closure says of the place
pub tested : (t : ℤ → Bool) (o : Option ℤ) (b : Bool) (d : ℤ) (r : Bool) {Q : ℤ → Type 0} → o ≡ cond b (Some d) None → MatchOption o (r ≡ false) Q
    → ((x : ℤ) → Q x → r ≡ t x) → r ≡ (b && t d)
tested t o true d r e h k = k d (MatchOption-at_some _ _ d e h)
tested t o false d r e h k = MatchOption-at_none _ _ e h
