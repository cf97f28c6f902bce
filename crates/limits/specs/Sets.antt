-- 02, Card 7: "The bad-corner limit, the least and greatest diagonal cosine, the number of cuts and the snap share
-- become one set of values held together": which sets are refused, 15.
use Rattle.std.specs.Prelude.{ℕ, Bool, ◌&&◌, ◌||◌, not, ltb, Float}
use Rattle.laws.specs.Double.{nat, ◌-f◌, ◌<f◌, ◌≤f◌}
use Rattle.limits.specs.declared.Limits.{Limits}
use Rattle.limits.specs.Limits.{delivered}

-- "between .. ends allowed throughout". A NaN is not between, since it compares with nothing; -0.0 is 0
unfoldable pub between : Float → Float → Float → Bool
between low high x = (low ≤f x) && (x ≤f high)

-- "a cosine is not between -1 and 1, the least exceeds the greatest"
unfoldable pub cosines_out : Float → Float → Bool
cosines_out least greatest = not (between (nat 0 -f nat 1) (nat 1) least) || not (between (nat 0 -f nat 1) (nat 1) greatest) || (greatest <f least)

-- 15, "if cuts are above 32, the corner limit is not between 1 and 2, a cosine is not between -1 and 1, the least
-- exceeds the greatest, or the share is not between 0 and 1"
unfoldable pub limits_out : Limits → Bool
limits_out L = ltb 32 L.cuts || not (between (nat 1) (nat 2) L.corner) || cosines_out L.least L.greatest || not (between (nat 0) (nat 1) L.share)

-- a set with another number of cuts
abbrev pub with_cuts : ℕ → Limits → Limits
with_cuts k L = record { cuts = k; corner = L.corner; least = L.least; greatest = L.greatest; share = L.share }

-- 02, Card 8: "the set on delivery, the practice entry with 12 cuts"
abbrev pub practice_set : Limits
practice_set = with_cuts 12 delivered
