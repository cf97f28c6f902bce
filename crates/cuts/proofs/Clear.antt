-- THEOREM `clear`. For every set of limits, of a ring of 3 corners or more that is split: no cut of the log runs over a third corner; none of
-- the corners of its part is strictly between its ends on their line.
use Prim.Native.Nat.{ℕ, ◌+◌, ◌-◌, ◌≤◌, ◌<◌}
use native.Mathlib.Nat.{add-mod_right}
use native.Mathlib.Decide.{dec_le}
use native.Mathlib.Omega.{arith}
use mathlib.Core.Path.{◌≡◌, ap, ◌∙◌, subst}
use mathlib.Core.Bool.{Bool, true, false, not, ◌&&◌}
use mathlib.Core.List.{List}
use lib.ListN.{length, get_or}
use lib.Dec.{T}
use Rattle.laws.specs.Double.{lit}
use Rattle.laws.specs.Bounded.{any}
use Rattle.laws.specs.All.{All}
use Rattle.laws.proofs.Lists.{all-weaken}
use Rattle.laws.proofs.Search.{any_none}
use Rattle.vector.specs.declared.GridPoint.{GridPoint}
use Rattle.vector.specs.Grid.{at, origin, same}
use Rattle.vector.specs.Plane.{in_mm, lerp}
use Rattle.segments.specs.Meeting.{strictly_between}
use Rattle.simple.specs.Simple.{point_in_polygon}
use Rattle.marks.specs.Part.{Part}
use Rattle.limits.specs.declared.Limits.{Limits}
use Rattle.judge.specs.Judge.{in_range}
use Rattle.obstacles.specs.Obstacles.{crosses_edge, runs_over, unobstructed}
use Rattle.diagonal.specs.Diagonal.{cosine_next, cosine_prev, meets_rule}
use Rattle.parts.specs.Cut.{rotate}
use Rattle.split.specs.Split.{Cut, split_bad_vertices}
use Rattle.cuts.specs.Counts.{Sound}
use Rattle.cuts.specs.Choices.{CutAtWorst, Clear}
use Rattle.parts.proofs.Rotation.{at_place, length-rotate, rotate_at}
use Rattle.cuts.proofs.Choices.{chosen}

-- ---- a diagonal that meets the rule
last : (s w : Bool) → T (s && w) → T w
last true w t = t
last false w t = absurd t

second : (s w x y : Bool) → T (s && w && x && y) → T w
second true true x y t = tt
second true false x y t = t
second false w x y t = absurd t

rule_clear : (L : Limits) (r : List GridPoint) (k : ℕ) → T (meets_rule L r k) → (i : ℕ) → i < length r → T (not (strictly_between (at r 0) (at r k) (at r i)))
unfolding meets_rule unobstructed runs_over
rule_clear L r k t i h =
    any_none (runs_over r k) (length r)
    (last (point_in_polygon r (lerp (in_mm (at r 0)) (in_mm (at r k)) (lit 5 1)) && not (any (crosses_edge r k) (length r)))
    (not (any (runs_over r k) (length r)))
    (second (not (same (at r 0) (at r k))) (unobstructed r k) (in_range L (cosine_next r k)) (in_range L (cosine_prev r k)) t))
    i h

-- ---- by the places of the part, which starts elsewhere
module _ (r : List GridPoint) (v : ℕ) (g : v < length r) where
  placed : (i : ℕ) → i < length r → at (rotate v r) i ≡ at r (v + i)
  placed i h = at_place (rotate v r) i (omega (arith, length-rotate v r)) ∙ rotate_at v r i g h

  round : (j : ℕ) → at r (j + length r) ≡ at r j
  unfolding at
  round j = ap (λ (i : ℕ). get_or r i origin) (add-mod_right j (length r))

  -- corner j of the part is the corner i of the part counted from v
  found : (j : ℕ) → j < length r → (i : ℕ) × (i < length r) × (at (rotate v r) i ≡ at r j)
  found j h = go (dec_le v j)
    where
      go : Dec (v ≤ j) → (i : ℕ) × (i < length r) × (at (rotate v r) i ≡ at r j)
      go (yes l) = let e : v + (j - v) ≡ j = omega arith in (j - v, omega arith, placed (j - v) (omega arith) ∙ ap (at r) e)
      go (no l) =
          let e : v + (j + length r - v) ≡ j + length r = omega arith in
          (j + length r - v, omega arith, placed (j + length r - v) (omega arith) ∙ ap (at r) e ∙ round j)

  clear_at : (L : Limits) (k : ℕ) → k < length r → T (meets_rule L (rotate v r) k) → (j : ℕ) → j < length r
      → T (not (strictly_between (at r v) (at r (v + k)) (at r j)))
  clear_at L k l t j h =
      let f = found j h in
      let n : v + 0 ≡ v = omega arith in
      let a = placed 0 (omega arith) ∙ ap (at r) n in
      let b = placed k l in
      let c = f.2 in
      subst T (λ i. not (strictly_between (a i) (b i) (c i))) (rule_clear L (rotate v r) k t f.0 (omega (arith, length-rotate v r, f.1)))

-- ---- the theorem
one-clear : (L : Limits) (c : Cut) → CutAtWorst L c → Clear c
one-clear L c h =
    let r = c.part.points in
    record { between = clear_at r c.v h.worst.place L c.k (omega (arith, h.best.high, length-rotate c.v r)) h.best.meets }

pub clear : (L : Limits) (ring : Part) → Sound ring → All Clear (split_bad_vertices L ring).log
clear L ring s = all-weaken (CutAtWorst L) Clear (one-clear L) (split_bad_vertices L ring).log (chosen L ring s)
