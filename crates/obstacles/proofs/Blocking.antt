-- An edge that a diagonal crosses, a corner that it runs over, and a diagonal that nothing obstructs, by the places of the list of
-- points.
use Prim.Native.Nat.{ℕ, zero, suc, ◌+◌, ◌%◌, ◌<◌}
use native.Mathlib.Omega.{arith}
use mathlib.Core.Bool.{◌&&◌, not}
use mathlib.Core.Path.{◌≡◌, refl, sym, ap, subst, ◌∙◌}
use mathlib.Core.List.{List, [], ◌∷◌}
use lib.ListN.{length, get_or}
use Rattle.std.specs.List.{list_any}
use Rattle.laws.specs.Double.{lit}
use Rattle.laws.specs.Bounded.{any}
use Rattle.laws.proofs.Search.{any_ext, any_listed}
use Rattle.vector.specs.declared.GridPoint.{GridPoint}
use Rattle.vector.specs.declared.Point.{Point}
use Rattle.vector.specs.Grid.{origin, at}
use Rattle.vector.specs.Size.{OnSheet, AllOnSheet}
use Rattle.vector.specs.Plane.{in_mm, lerp}
use Rattle.vector.proofs.Rings.{at_place, at_following}
use Rattle.segments.specs.declared.Segment.{Segment}
use Rattle.segments.specs.Segments.{segments_cross}
use Rattle.segments.specs.Meeting.{strictly_between}
use Rattle.simple.specs.Simple.{point_in_polygon}
use Rattle.obstacles.specs.Obstacles.{clear_of, crosses_edge, runs_over, unobstructed}

default : (l : List GridPoint) (k : ℕ) (d e : GridPoint) → k < length l → get_or l k d ≡ get_or l k e
default [] k d e h = absurd (omega (arith, h))
default (x ∷ l) zero d e h = refl
default (x ∷ l) (suc k) d e h = default l k d e (omega (arith, h))

pub on_sheet : (l : List GridPoint) → AllOnSheet l → (k : ℕ) → k < length l → (x : GridPoint) → x ≡ get_or l k x → OnSheet x
on_sheet l all k h x e = subst OnSheet (sym (e ∙ default l k x origin h)) (all k)

module _ (l : List GridPoint) (k : ℕ) (lk : k < length l) where
  first : at l 0 ≡ get_or l 0 origin
  first = at_place l 0 (omega arith)

  last : at l k ≡ get_or l k origin
  last = at_place l k lk

  -- edge e, whose end is the place j
  module _ (e j : ℕ) (le : e < length l) (ej : j ≡ (e + 1) % length l) where
    pub by_points : clear_of (length l) k e && segments_cross (get_or l 0 origin) (get_or l k origin) (get_or l e origin) (get_or l j origin)
        ≡ crosses_edge l k e
    unfolding crosses_edge
    by_points =
        let c = at_place l e le in
        let d = at_following l e j ej in
        λ i. clear_of (length l) k e && segments_cross (sym first i) (sym last i) (sym c i) (sym d i)

    -- it and the diagonal as segments
    pub opened : (s t : Segment) → (s.a ≡ get_or l 0 origin) × (s.b ≡ get_or l k origin) → (t.a ≡ get_or l e origin) × (t.b ≡ get_or l j origin)
        → clear_of (length l) k e && segments_cross s.a s.b t.a t.b ≡ crosses_edge l k e
    opened s t es et = (λ i. clear_of (length l) k e && segments_cross (es.0 i) (es.1 i) (et.0 i) (et.1 i)) ∙ by_points

  -- the corners
  pub over : list_any (strictly_between (get_or l 0 origin) (get_or l k origin)) l ≡ any (runs_over l k) (length l)
  unfolding runs_over
  over = any_listed (strictly_between (get_or l 0 origin) (get_or l k origin)) origin l ∙ any_ext _ _ (length l) same
    where
      same : (i : ℕ) → i < length l → strictly_between (get_or l 0 origin) (get_or l k origin) (get_or l i origin) ≡ strictly_between (at l 0) (at l k) (at l i)
      same i h = let c = at_place l i h in λ j. strictly_between (sym first j) (sym last j) (sym c j)

  -- the midpoint m
  pub all_three : (m : Point) → m ≡ lerp (in_mm (get_or l 0 origin)) (in_mm (get_or l k origin)) (lit 5 1)
      → (point_in_polygon l m && not (any (crosses_edge l k) (length l)) && not (any (runs_over l k) (length l))) ≡ unobstructed l k
  unfolding unobstructed
  all_three m em =
      ap (λ (q : Point). point_in_polygon l q && not (any (crosses_edge l k) (length l)) && not (any (runs_over l k) (length l)))
      (em ∙ (λ i. lerp (in_mm (sym first i)) (in_mm (sym last i)) (lit 5 1)))
