-- Claim: the number shown of a coordinate is the nearest to 10 ^ 4 times its size, ties to even (`shown-nearest`), and no other
-- number is (`no_other`).
use Prim.Native.Nat.{ℕ, ◌*◌}
use mathlib.Core.Path.{◌≡◌}
use lib.Dec.{T}
use lib.Ieee.{Float, fin, up, down, inf, nan}
use lib.Ieee.Fits.{down_pos}
use lib.Ieee.Scale.{finite}
use Rattle.decimals.specs.Rounded.{ten_thousandths}
use Rattle.decimals.specs.Nearest.{NearestShown}
use Rattle.decimals.proofs.Rounding.{half-nearest, nearest_unique}

pub shown-nearest : (x : Float) → T (finite x) → NearestShown x (ten_thousandths x)
unfolding ten_thousandths
shown-nearest (fin s m e) f = half-nearest (m * up e * 10000) (down e) (down_pos e)
shown-nearest nan f = elim f [ ]
shown-nearest (inf _) f = elim f [ ]

pub no_other : (x : Float) (N : ℕ) → NearestShown x N → N ≡ ten_thousandths x
unfolding ten_thousandths
no_other (fin s m e) N a =
    nearest_unique (m * up e * 10000) (down e) N (ten_thousandths (fin s m e)) (down_pos e) a (half-nearest (m * up e * 10000) (down e) (down_pos e))
no_other nan N a = elim a [ ]
no_other (inf _) N a = elim a [ ]
