-- `put_outline`: three texts one after the other.
use Rattle.text.specs.Text.{bytes}
use Rattle.text.proofs.Pages.{room-second, room-third, wrote-three}
use Rattle.scene.specs.Scene as Scene
use Rattle.scene.proofs.put_outline.Goals as goal

pub put_points-requires : goal.put_points-requires
unfolding Scene.outline_text bytes
put_points-requires c = room-second _ _ _ c.requires c.put_form.ensures

pub put_form-requires-2 : goal.put_form-requires-2
unfolding Scene.outline_text bytes
put_form-requires-2 c = room-third _ _ _ c.requires c.put_form.ensures c.put_points.ensures

pub returns : goal.returns
unfolding Scene.outline_text bytes
returns c = wrote-three _ _ _ c.requires c.put_form.ensures c.put_points.ensures c.put_form-2.ensures
