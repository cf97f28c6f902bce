-- 01, Split: the two cosines of a diagonal.
use Rattle.std.specs.Prelude.{Bool, ◌&&◌, not, cond, Float, Option, Some, None}
use Rattle.laws.specs.Double.{◌<f◌, ◌≤f◌}
use Rattle.vector.specs.declared.GridPoint.{GridPoint}
use Rattle.vector.specs.Grid.{sub, same}
use Rattle.cosine.specs.Cosine.{cosine}
use Rattle.limits.specs.declared.Limits.{Limits}

-- "both <= 0.9781476007338057 (12 degrees) and >= -0.9396926207859084 (160)"
unfoldable pub in_range : Limits → Float → Bool
in_range L c = (c ≤f L.greatest) && (L.least ≤f c)

-- the larger of the two
unfoldable pub larger : Float → Float → Float
larger x y = cond (x <f y) y x

-- of the diagonal from o to q, where a and b are the steps from o to the next corner and to the one before: the larger cosine, if its ends
-- differ and both cosines are in range
unfoldable pub judged : Limits → GridPoint → GridPoint → GridPoint → GridPoint → Option Float
judged L o q a b =
    let x = cosine a (sub q o) in
    let y = cosine b (sub q o) in
    cond (not (same o q) && in_range L x && in_range L y) (Some (larger x y)) None
