-- What "the nearest 1/8192 mm, halves away from zero" means, without division: over the exact numbers n / d mm and U / 8192 mm, multiplied out. A number and
-- its coordinate have one sign, so that away from zero is up in size. proofs/NearestUnit proves it.
use Rattle.std.specs.Prelude.{ℕ, ◌+◌, ◌*◌, ◌≤◌, ◌<◌}

-- U - 1/2 ≤ 8192 · n / d < U + 1/2
pub record NearestAway (n d U : ℕ) : Type 0 where
  pub from : 2 * (U * d) ≤ 2 * (n * 8192) + d
  pub below : 2 * (n * 8192) < 2 * (U * d) + d
