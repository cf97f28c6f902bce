-- What is claimed of a chain's snap points. Definitions only.
use Rattle.std.specs.Prelude.{ℕ, ◌≤◌, ◌<◌, List, length, get_or}
use Rattle.vector.specs.declared.GridPoint.{GridPoint}
use Rattle.vector.specs.Size.{OnSheet, InRange}
use Rattle.arclength.specs.Arclength.{point_at}
use Rattle.chain.specs.Chain.{Stretch, no_stretch}

-- 01, Units: a chain of 0 to 60 points, all on the sheet
pub record ChainOnSheet (c : List GridPoint) : Type 0 where
  pub few : length c ≤ 60
  pub each : (i : ℕ) → OnSheet (point_at c i)

-- the snap point of each stretch is finite and within 1,024 mm either way
abbrev pub SnapsInRange : List Stretch → Type 0
SnapsInRange ss = (k : ℕ) → k < length ss → InRange (get_or ss k no_stretch).snap
