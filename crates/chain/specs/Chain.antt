-- 01, Chain: simplify_chain.
use Rattle.std.specs.Prelude.{ℕ, zero, suc, ◌-◌, Bool, ◌||◌, cond, List, [], ◌∷◌, ◌++◌, length, leb}
use Rattle.std.specs.Float.{nan}
use Rattle.laws.specs.Double.{lit, ◌+f◌, ◌*f◌, ◌<f◌}
use Rattle.vector.specs.declared.GridPoint.{GridPoint}
use Rattle.vector.specs.declared.Point.{Point}
use Rattle.vector.specs.Grid.{origin, sub, same}
use Rattle.cosine.specs.Cosine.{cosine}
use Rattle.arclength.specs.Arclength.{point_at, arc, point_at_arclength}

-- "A chain point stays if it is an end, touches a zero-length step, or has cosine < 0.9063077870366499": the point i + 1
unfoldable pub stays : List GridPoint → ℕ → Bool
stays c i =
    let u = sub (point_at c (suc i)) (point_at c i) in
    let v = sub (point_at c (suc (suc i))) (point_at c (suc i)) in
    leb (length c) (suc (suc i)) || same u origin || same v origin || (cosine u v <f lit 9063077870366499 16)

-- the last point that stays, of those up to i
unfoldable pub last_kept : List GridPoint → ℕ → ℕ
last_kept c zero = 0
last_kept c (suc i) = cond (stays c i) (suc i) (last_kept c i)

-- a kept stretch: two neighbours of the simplified chain, and the snap point between them
pub record Stretch : Type 0 where
  pub from : GridPoint
  pub to : GridPoint
  pub snap : Point

abbrev pub no_stretch : Stretch
no_stretch = record { from = origin; to = origin; snap = record { x = nan; y = nan } }

-- "Each kept stretch has one snap point, at half its length": from the point i to the point j
unfoldable pub stretch : List GridPoint → ℕ → ℕ → Stretch
stretch c i j = record { from = point_at c i; to = point_at c j; snap = point_at_arclength c (lit 5 1 *f (arc c i +f arc c j)) }

-- the stretches that end at one of the points 1 .. i
unfoldable pub stretches_to : List GridPoint → ℕ → List Stretch
stretches_to c zero = []
stretches_to c (suc i) =
    let r = stretches_to c i in
    cond (stays c i) (r ++ (stretch c (last_kept c i) (suc i) ∷ [])) r

-- simplify_chain. "An empty or one-point chain has none."
unfoldable pub simplify_chain : List GridPoint → List Stretch
simplify_chain c = stretches_to c (length c - 1)
