-- `put_quad`: the cell and its two halves, one after the other, and the sign after them.
use Rattle.text.proofs.Pages.{room-one, room-two, wrote-two, room-first, room-second, room-third, wrote-three}
use Rattle.scene.specs.Scene as Scene
use Rattle.scene.proofs.put_quad.Goals as goal

pub put_cell-requires : goal.put_cell-requires
unfolding Scene.quad_text
put_cell-requires c = room-first _ _ _ (room-one _ _ c.requires)

pub put_half-requires : goal.put_half-requires
unfolding Scene.quad_text
put_half-requires c = room-second _ _ _ (room-one _ _ c.requires) c.put_cell.ensures

pub put_half-requires-2 : goal.put_half-requires-2
unfolding Scene.quad_text
put_half-requires-2 c = room-third _ _ _ (room-one _ _ c.requires) c.put_cell.ensures c.put_half.ensures

pub put_snap-requires : goal.put_snap-requires
unfolding Scene.quad_text
put_snap-requires c =
    let h = room-one _ _ c.requires in
    room-two _ _ c.requires (wrote-three _ _ _ h c.put_cell.ensures c.put_half.ensures c.put_half-2.ensures)

pub returns : goal.returns
unfolding Scene.quad_text
returns c =
    let h = room-one _ _ c.requires in
    wrote-two _ _ c.requires (wrote-three _ _ _ h c.put_cell.ensures c.put_half.ensures c.put_half-2.ensures) c.put_snap.ensures
