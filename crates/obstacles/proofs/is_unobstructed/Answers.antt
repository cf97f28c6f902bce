-- `is_unobstructed`: the midpoint is inside, no edge is crossed, and no corner run over.
use mathlib.Core.Bool.{not, true≢false}
use mathlib.Core.Path.{◌≡◌, sym, ap, ◌∙◌}
use lib.ListN.{get_or}
use lib.Ieee.{of_bits, round}
use Rattle.laws.specs.Double.{lit}
use Rattle.vector.specs.Grid.{origin}
use Rattle.vector.specs.Plane.{in_mm, lerp}
use Rattle.obstacles.proofs.Blocking as blocking
use Rattle.obstacles.proofs.is_unobstructed.Goals as goal
use Rattle.obstacles.proofs.is_unobstructed.Goals.{After-lerp, then-point_in_polygon, else-point_in_polygon}

middle : (c : After-lerp) → let s = c.args in c.lerp.result ≡ lerp (in_mm (get_or s.part.now 0 origin)) (in_mm (get_or s.part.now s.k origin)) (lit 5 1)
unfolding lit of_bits round
middle c =
    let x = c.new-a.ensures in
    let y = c.new-b.ensures in
    c.lerp.ensures ∙ (λ i. lerp (x i) (y i) (lit 5 1))

pub returns-then-not-blocked : goal.returns-then-not-blocked
returns-then-not-blocked c =
    let all = blocking.all_three c.args.part.now c.args.k c.requires.1 c.lerp.result (middle (goal.at.returns-then-not-blocked c).After-lerp) in
    elim c.if-point_in_polygon.branch [
      | then-point_in_polygon w ↦
          let x = sym c.point_in_polygon.ensures ∙ w.if-point_in_polygon.true in
          let y = ap not (sym w.blocked.ensures) ∙ sym w.value-is ∙ c.if-not-blocked.true in
          sym (sym all ∙ rw (x, y, c.runs_over.ensures))
      | else-point_in_polygon w ↦ absurd (true≢false (sym c.if-not-blocked.true ∙ w.value-is ∙ w.if-point_in_polygon.false))
    ]

pub returns-else-not-blocked : goal.returns-else-not-blocked
returns-else-not-blocked c =
    let all = blocking.all_three c.args.part.now c.args.k c.requires.1 c.lerp.result (middle (goal.at.returns-else-not-blocked c).After-lerp) in
    elim c.if-point_in_polygon.branch [
      | then-point_in_polygon w ↦
          let x = sym c.point_in_polygon.ensures ∙ w.if-point_in_polygon.true in
          let y = ap not (sym w.blocked.ensures) ∙ sym w.value-is ∙ c.if-not-blocked.false in
          c.if-not-blocked.false ∙ sym (sym all ∙ rw (x, y))
      | else-point_in_polygon w ↦
          let x = sym c.point_in_polygon.ensures ∙ w.if-point_in_polygon.false in
          c.if-not-blocked.false ∙ sym (sym all ∙ rw x)
    ]
