-- 01, Root: "norm and dist use it". In mm, over points of two doubles, and over the grid, where the sum under the root is exact.
use Rattle.std.specs.Prelude.{Float}
use Rattle.laws.specs.Units as Units
use Rattle.vector.specs.declared.GridPoint.{GridPoint}
use Rattle.vector.specs.declared.Point.{Point}
use Rattle.vector.specs.Grid as Grid
use Rattle.vector.specs.Plane as Plane
use Rattle.root.specs.Root.{root_of}

-- the length of v, and the distance of two points: every step rounded once
unfoldable pub norm : Point → Float
norm v = root_of (Plane.dot v v)

unfoldable pub dist : Point → Point → Float
dist a b = norm (Plane.sub a b)

-- the same of grid points, whose differences and squares are whole numbers
unfoldable pub grid_norm : GridPoint → Float
grid_norm v = root_of (Units.mm² (Grid.dot v v))

unfoldable pub grid_dist : GridPoint → GridPoint → Float
grid_dist a b = grid_norm (Grid.sub a b)
