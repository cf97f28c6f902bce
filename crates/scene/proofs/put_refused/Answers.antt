-- `put_refused`: three texts one after the other, the last with the label's place.
use mathlib.Core.Path.{ap}
use mathlib.Core.List.{List, [], ◌∷◌}
use Prim.Native.Nat.{ℕ}
use Rattle.text.specs.Text.{bytes}
use Rattle.text.proofs.Pages.{room_on, wrote_as, room-second, room-third, wrote-three}
use Rattle.svg.specs.Form.{formed}
use Rattle.scene.specs.declared.Spot.{Spot}
use Rattle.scene.specs.Scene as Scene
use Rattle.scene.proofs.put_refused.Goals as goal

abbrev number : ℕ → Spot → List ℕ
number code s = formed (bytes "'/>\n<text transform='matrix(.01 0 0 -.01 @ @)'>#</text></g>\n") (s.x ∷ s.y ∷ code ∷ [])

pub put_points-requires : goal.put_points-requires
unfolding Scene.refused_text bytes
put_points-requires c = room-second _ _ _ c.requires c.put_form.ensures

pub put_form-requires-2 : goal.put_form-requires-2
unfolding Scene.refused_text bytes
put_form-requires-2 c =
    room_on (ap (number c.args.code) c.label-label.ensures) (room-third _ _ _ c.requires c.put_form.ensures c.put_points.ensures)

pub returns : goal.returns
unfolding Scene.refused_text bytes
returns c =
    wrote-three _ _ _ c.requires c.put_form.ensures c.put_points.ensures (wrote_as (ap (number c.args.code) c.label-label.ensures) c.put_form-2.ensures)
