use Prim.Native.Nat.{◌+◌, ◌-◌, ◌<◌}
use native.Mathlib.Omega.{arith}
use mathlib.Core.Path.{◌≡◌, refl, sym, ◌∙◌}
use lib.ListN.{length}
use lib.Ieee.{nan, round, of_bits}
use Rattle.laws.specs.Double.{lit, ◌+f◌, ◌*f◌}
use Rattle.laws.proofs.Table.{read_tab}
use Rattle.arclength.specs.Arclength.{point_at_arclength}
use Rattle.arclength.specs.Arclength as Arclength
use Rattle.arclength.proofs.Walk as walk
use Rattle.chain.specs.Chain as Chain
use Rattle.chain.proofs.Turning as turning
use Rattle.chain.proofs.Collect.{Collected, none, kept-first, kept_more, kept_same, kept_whole}
use Rattle.chain.proofs.simplify_chain.Goals as goal
use Rattle.chain.proofs.simplify_chain.Goals.{After-stays, Joined-stays, then-stays, else-stays}

-- whether the point at hand stays
staying : (c : After-stays) → c.stays.result ≡ Chain.stays c.args.chain.now (c.loop-i.i - 1)
staying c =
    turning.stays_in c.args.chain.now (length c.args.chain.now) c.loop-i.i refl (omega arith) (omega arith) _ c.next-after.ensures.0 _ c.stays.ensures

-- what is collected after the turn, by whether the point stayed
joined : (c : Joined-stays) → Collected c.args.chain.now c.if-stays.points c.if-stays.snaps c.if-stays.count c.if-stays.previous (c.loop-i.i + 1)
unfolding lit round of_bits
joined c =
    let o = c.loop-i in
    let r = c.args.chain.now in
    let n = length r in
    let arc = c.measure-l.result.arc in
    elim c.if-stays.branch [
      | then-stays w ↦
          let p : o.previous < n = omega (arith, o.invariant.low) in
          let u = read_tab arc (Arclength.arc r) n o.previous nan c.measure-l.ensures.1 p in
          let v = read_tab arc (Arclength.arc r) n o.i nan c.measure-l.ensures.1 (omega arith) in
          rw (w.points-is, w.snaps-is, w.count-is, w.previous-is)
          (kept_more r o.points o.snaps o.count o.previous o.i o.invariant (omega (arith, c.requires.count)) (sym (staying c.before) ∙ w.if-stays.true)
          _ refl (c.requires.points o.i)
          _ (w.point_at_arclength.ensures ∙ (λ j. point_at_arclength r (lit 5 1 *f (u j +f v j)))))
      | else-stays w ↦ rw (w.points-is, w.snaps-is, w.count-is, w.previous-is)
          (kept_same r o.points o.snaps o.count o.previous o.i o.invariant (sym (staying c.before) ∙ w.if-stays.false))
    ]

pub returns-then-n-eq0 : goal.returns-then-n-eq0
unfolding of_bits
returns-then-n-eq0 c = none c.args.chain.now c.if-n-eq0.true

pub loop-i-init : goal.loop-i-init
unfolding of_bits
loop-i-init c = kept-first c.args.chain.now _ refl (c.requires.points 0)

pub stays-requires : goal.stays-requires
stays-requires c =
    let all = c.requires.points in
    let e = c.measure-l.ensures.0 in
    let r = c.args.chain.now in (
      all _,
      all _,
      all _,
      walk.step_in r c.measure-l.result.step (length r) e c.loop-i.i (omega arith) (omega arith),
      walk.step_after r c.measure-l.result.step (length r) e c.loop-i.i _ (omega arith) c.next-after.ensures.0,
    )

pub point_at_arclength-requires : goal.point_at_arclength-requires
point_at_arclength-requires c = (omega arith, c.measure-l.ensures.1)

pub loop-i-preserved : goal.loop-i-preserved
loop-i-preserved c = joined c

pub returns : goal.returns
returns c =
    let l = c.loop-i in
    let e : l.i ≡ length c.args.chain.now = omega arith in
    kept_whole c.args.chain.now l.points l.snaps l.count l.previous l.i l.invariant (omega (arith, c.requires.count)) e
