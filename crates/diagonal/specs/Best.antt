-- The best diagonal so far, as the search holds it.
use Rattle.std.specs.Prelude.{Bool, true, Option, Some, None, Float}
use Rattle.laws.specs.Double.{◌<f◌}
use Rattle.diagonal.specs.declared.Best.{Best}

-- a larger cosine wins over it
abbrev pub wins : Float → Option Best → Bool
wins s None = true
wins s (Some b) = s <f b.score
