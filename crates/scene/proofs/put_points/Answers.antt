-- `put_points`: a turn writes one point.
use mathlib.Core.Path.{refl, ap}
use native.Mathlib.Omega.{arith}
use Rattle.text.proofs.Pages.{room_on, wrote_as, room-turn, wrote-turn}
use Rattle.scene.specs.Scene as Scene
use Rattle.scene.specs.declared.Spot.{Spot}
use Rattle.scene.proofs.put_points.Goals as goal

pub put_place-requires : goal.put_place-requires
unfolding Scene.points_text
put_place-requires c =
    let p = c.args.points.now in
    let l = c.loop-i in
    room_on (ap (λ (s : Spot). Scene.placed s.x s.y) c.spot.ensures.0)
    (room-turn (Scene.points_text p.list.now) (Scene.point_text p.list.now) (λ i. refl) p.count c.requires (omega (arith, c.loop-i-test.true)) l.invariant)

pub loop-i-preserved : goal.loop-i-preserved
unfolding Scene.points_text
loop-i-preserved c =
    let p = c.args.points.now in
    let l = c.loop-i in
    wrote-turn (Scene.points_text p.list.now) (Scene.point_text p.list.now) (λ i. refl) p.count c.requires (omega (arith, c.loop-i-test.true)) l.invariant
    (wrote_as (ap (λ (s : Spot). Scene.placed s.x s.y) c.spot.ensures.0) c.put_place.ensures)
