-- What the arrays of simplify_chain say.
use Rattle.std.specs.Prelude.{ℕ, suc, ◌≤◌, ◌<◌, ◌≡◌, List, get_or}
use Rattle.laws.specs.Double.{naught}
use Rattle.laws.specs.Table.{tab}
use Rattle.vector.specs.declared.GridPoint.{GridPoint}
use Rattle.vector.specs.declared.Point.{Point}
use Rattle.vector.specs.Grid.{origin}
use Rattle.vector.specs.Size.{AllOnSheet}
use Rattle.arclength.specs.Arclength.{point_at}
use Rattle.chain.specs.declared.Simplified.{Simplified}
use Rattle.chain.specs.Chain.{Stretch, no_stretch, simplify_chain}

-- stretch j runs from kept point j to the next, and has snap point j
abbrev pub stretch_in : List GridPoint → List Point → ℕ → Stretch
stretch_in points snaps j = record { from = get_or points j origin; to = get_or points (suc j) origin; snap = get_or snaps j no_stretch.snap }

unfoldable pub stretches_in : Simplified → List Stretch
stretches_in s = tab (stretch_in s.points s.snaps) s.count

-- a place that is not used holds zeros
abbrev pub nowhere : Point
nowhere = record { x = naught; y = naught }

-- s is the chain c simplified
pub record Simplifies (c : List GridPoint) (s : Simplified) : Type 0 where
  pub stretches : stretches_in s ≡ simplify_chain c
  pub start : get_or s.points 0 origin ≡ point_at c 0
  pub unused_points : (k : ℕ) → s.count < k → get_or s.points k origin ≡ origin
  pub unused_snaps : (k : ℕ) → s.count ≤ k → get_or s.snaps k nowhere ≡ nowhere
  pub few : s.count ≤ 59
  pub on_sheet : AllOnSheet s.points
