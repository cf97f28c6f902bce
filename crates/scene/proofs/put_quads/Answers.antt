-- `put_quads`: a turn writes one cell.
use Prim.Native.Nat.{◌/◌, ◌<◌}
use mathlib.Core.Path.{refl, ap, ◌∙◌}
use native.Mathlib.Omega.{arith}
use lib.ListN.{length}
use Rattle.text.proofs.Pages.{room_on, wrote_as, room-turn, wrote-turn}
use Rattle.scene.specs.Scene as Scene
use Rattle.scene.proofs.Cells.{quad-at}
use Rattle.scene.proofs.put_quads.Goals as goal

pub put_quad-requires : goal.put_quad-requires
unfolding Scene.quads_text
put_quad-requires c =
    let a = c.args.lists.now in
    let k = c.as_chunks in
    let h : c.loop-cell.cell-index < length a.cells.now / 4 = omega (arith, c.loop-cell-test.true, k.ensures.front_len) in
    room_on (ap Scene.quad_text (c.read_quad.ensures ∙ quad-at a.cells.now k.result.0.now k.ensures.front c.loop-cell.cell-index h a.nodes.now a.rims.now))
    (room-turn (Scene.quads_text a.nodes.now a.rims.now a.cells.now) (λ i. Scene.quad_text (Scene.quad_of a.nodes.now a.rims.now a.cells.now i)) (λ i. refl)
    (length a.cells.now / 4) c.requires h c.loop-cell.invariant)

pub loop-cell-preserved : goal.loop-cell-preserved
unfolding Scene.quads_text
loop-cell-preserved c =
    let a = c.args.lists.now in
    let k = c.as_chunks in
    let h : c.loop-cell.cell-index < length a.cells.now / 4 = omega (arith, c.loop-cell-test.true, k.ensures.front_len) in
    wrote-turn (Scene.quads_text a.nodes.now a.rims.now a.cells.now) (λ i. Scene.quad_text (Scene.quad_of a.nodes.now a.rims.now a.cells.now i)) (λ i. refl)
    (length a.cells.now / 4) c.requires h c.loop-cell.invariant
    (wrote_as (ap Scene.quad_text (c.read_quad.ensures ∙ quad-at a.cells.now k.result.0.now k.ensures.front c.loop-cell.cell-index h a.nodes.now a.rims.now))
    c.put_quad.ensures)
