-- Claim: a diagonal's ends differ exactly where the Rust says so. For two corners v and q on the sheet the Rust's test
-- `dist(v, q) <= 1.0e-12` in mm, which passes a diagonal over, holds exactly if v and q are the same point (`same_ends`).
use mathlib.Core.Path.{◌≡◌}
use Rattle.laws.specs.Double.{◌≤f◌, lit}
use Rattle.vector.specs.declared.GridPoint.{GridPoint}
use Rattle.vector.specs.Grid.{same}
use Rattle.vector.specs.Plane.{in_mm}
use Rattle.vector.specs.Size.{OnSheet}
use Rattle.root.specs.Norm.{dist}
use Rattle.root.proofs.ZeroLengths.{from_12, rust_near-is-same}

pub same_ends : (v q : GridPoint) → OnSheet v → OnSheet q → (dist (in_mm v) (in_mm q) ≤f lit 1 12) ≡ same v q
same_ends v q h k = rust_near-is-same (lit 1 12) from_12.0 from_12.1 v q h k
