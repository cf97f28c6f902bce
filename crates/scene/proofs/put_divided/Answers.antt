-- `put_divided`: three texts one after the other.
use Rattle.text.specs.Text.{bytes}
use Rattle.text.proofs.Pages.{wrote-three}
use Rattle.scene.specs.Scene as Scene
use Rattle.scene.proofs.put_divided.Goals as goal

pub returns : goal.returns
unfolding Scene.divided_text bytes
returns c = wrote-three _ _ _ c.requires c.put_outline.ensures c.put_quads.ensures c.put_form.ensures
