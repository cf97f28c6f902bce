use Prim.Native.Nat.{◌+◌, ◌^◌, ◌<◌}
use mathlib.Core.Path.{◌≡◌, ap, ◌∙◌}
use native.Mathlib.Omega.{arith}
use lib.IntN.{ℤ, nat_abs, ◌+ℤ◌}
use lib.ListN.{length, get_or}
use mir.Syntax.{w64}
use mir.Val.{to_z}
use Rattle.vector.specs.declared.GridPoint.{GridPoint}
use Rattle.vector.specs.Fan as Fan
use Rattle.vector.specs.Grid as Grid
use Rattle.laws.proofs.Signed as signed
use Rattle.vector.proofs.Fan as fan
use Rattle.vector.proofs.Rings as rings
use Rattle.vector.proofs.polygon_area.Goals as goal

pub loop-i-preserved : goal.loop-i-preserved
loop-i-preserved c =
    let l = c.loop-i in
    let t = c.triangle-edge in
    let r = c.args.ring.now in
    let d = signed.back t.result (omega (arith, t.ensures.1)) in
    let e : c.plus-total.result ≡ to_z w64 l.total-bits +ℤ t.result = c.plus-total.ensures ∙ ap (λ (z : ℤ). to_z w64 l.total-bits +ℤ z) d in
    let g : t.result ≡ Fan.triangle (get_or r 0 Grid.origin) (get_or r l.i Grid.origin) (get_or r c.next.result Grid.origin) =
    t.ensures.0
    ∙ ap (λ (p : GridPoint). Fan.triangle p (get_or r l.i Grid.origin) (get_or r c.next.result Grid.origin)) (c.in-Some.ensures.item.3.1 Grid.origin) in
    let f : to_z w64 l.total-bits +ℤ t.result ≡ Fan.fan_to r (l.i + 1) =
    rings.fan_step r l.i _ c.loop-i-test.true c.next.ensures.0 _ _ l.invariant g in
    let k : nat_abs c.plus-total.result < 2 ^ 63 =
    rw (e ∙ f) (omega (arith, fan.fan_small r c.requires.points (l.i + 1), c.loop-i-test.true, c.requires.count)) in
    signed.back c.plus-total.result k ∙ e ∙ f

pub returns : goal.returns
unfolding Fan.fan_area
returns c =
    let l = c.loop-i in
    let r = c.args.ring.now in
    let d : l.i ≡ length r = omega arith in (
      l.invariant ∙ ap (Fan.fan_to r) d ∙ fan.fan_area_lem r,
      rw l.invariant (omega (arith, fan.fan_small r c.requires.points l.i, l.auto.i-end, c.requires.count)),
    )
