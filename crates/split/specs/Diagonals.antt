-- The best diagonal from the corner 0, as the rule has it; and that there is none. Definitions only.
use Rattle.std.specs.Prelude.{ℕ, ◌+◌, ◌≤◌, ◌<◌, not, List, length, T}
use Rattle.laws.specs.Double.{◌<f◌, ◌≤f◌}
use Rattle.vector.specs.declared.GridPoint.{GridPoint}
use Rattle.limits.specs.declared.Limits.{Limits}
use Rattle.diagonal.specs.Diagonal.{meets_rule, score}

-- of the diagonals from the corner 0 of r to 2 .. its corners less 2, the one to k is the best: it meets the rule, no other that does has a smaller larger
-- cosine, and none before it an equal one
pub record Best (L : Limits) (r : List GridPoint) (k : ℕ) : Type 0 where
  pub low : 2 ≤ k
  pub high : k + 2 ≤ length r
  pub meets : T (meets_rule L r k)
  pub least : (j : ℕ) → 2 ≤ j → j + 2 ≤ length r → T (meets_rule L r j) → T (not (score r j <f score r k))
  pub first : (j : ℕ) → 2 ≤ j → j < k → T (meets_rule L r j) → T (not (score r j ≤f score r k))

-- none of them meets the rule
pub record NoneMeets (L : Limits) (r : List GridPoint) : Type 0 where
  pub fails : (j : ℕ) → 2 ≤ j → j + 2 ≤ length r → T (not (meets_rule L r j))
