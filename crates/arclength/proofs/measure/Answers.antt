use Prim.Native.Nat.{◌+◌, ◌-◌, ◌<◌}
use native.Mathlib.Omega.{arith}
use mathlib.Core.Path.{◌≡◌, refl, sym, subst, ◌∙◌}
use lib.ListN.{length, length-set}
use lib.Ieee.{of_bits, of_int}
use Rattle.laws.specs.Table.{tab}
use Rattle.laws.proofs.Table.{more}
use Rattle.vector.specs.Size.{OnSheet}
use Rattle.root.specs.Norm.{grid_dist}
use Rattle.arclength.specs.Arclength as Arclength
use Rattle.arclength.specs.Arclength.{point_at, step_to}
use Rattle.arclength.proofs.Walk as walk
use Rattle.arclength.proofs.measure.Goals as goal

pub loop-i-init : goal.loop-i-init
unfolding tab Arclength.arc step_to of_bits of_int
loop-i-init c = record { steps = refl; arcs = refl; step_is = refl; arc_is = refl; step_rest = refl; arc_rest = refl; end_is = refl; last_is = refl }

pub grid_dist-d-requires : goal.grid_dist-d-requires
grid_dist-d-requires c =
    let l = c.loop-i in
    let on = c.requires.0.points in
    let h : l.i < length c.args.chain.now - 1 = omega (arith, c.loop-i-test.true) in
    (subst OnSheet (sym (walk.after-first c.args.chain.now l.i h)) (on _), subst OnSheet (sym l.invariant.last_is) (on _))

pub loop-i-preserved : goal.loop-i-preserved
loop-i-preserved c =
    let l = c.loop-i in
    let o = l.invariant in
    let ps = c.args.chain.now in
    let h : l.i < length ps - 1 = omega (arith, c.loop-i-test.true) in
    let p = walk.after-first ps l.i h in
    let d : c.grid_dist-d.result ≡ grid_dist (point_at ps (l.i + 1)) (point_at ps l.i) = c.grid_dist-d.ensures ∙ (λ j. grid_dist (p j) (o.last_is j)) in
    let e = walk.arc-next ps l.i _ d l.end o.end_is in
    record {
      steps = simp length-set o.steps;
      arcs = simp length-set o.arcs;
      step_is = more (step_to ps) l.step (l.i + 1) _ (omega (arith, c.requires.0.count)) o.step_is (walk.step-next ps l.i _ d);
      arc_is = more (Arclength.arc ps) l.arc (l.i + 1) _ (omega (arith, c.requires.0.count)) o.arc_is e;
      step_rest = walk.zeros-next l.step (l.i + 1) _ o.step_rest;
      arc_rest = walk.zeros-next l.arc (l.i + 1) _ o.arc_rest;
      end_is = e;
      last_is = p;
    }
