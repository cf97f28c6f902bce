-- 01, Chain: "Cosine of two vectors: dot / (norm × norm) held to [-1, 1]; 1 if a norm is 0." A norm on the grid is 0 where the step is.
use Rattle.std.specs.Prelude.{◌||◌, cond, Float}
use Rattle.laws.specs.Double.{nat, clamp, ◌-f◌, ◌*f◌, ◌/f◌}
use Rattle.vector.specs.declared.GridPoint.{GridPoint}
use Rattle.vector.specs.Grid.{origin, dot, same}
use Rattle.laws.specs.Units.{mm²}
use Rattle.root.specs.Norm.{grid_norm}

unfoldable pub cosine : GridPoint → GridPoint → Float
cosine a b =
    cond (same a origin || same b origin) (nat 1) (clamp (nat 0 -f nat 1) (nat 1) (mm² (dot a b) /f (grid_norm a *f grid_norm b)))
