-- `put_quads`, the loop's invariant: the first cells are written.
use Rattle.text.specs.Page.{Wrote}
use Rattle.scene.specs.Scene as Scene
use Rattle.scene.proofs.put_quads.Given as goal

abbrev pub invariant-loop-cell : goal.invariant-loop-cell
invariant-loop-cell l = let a = l.lists in Wrote l.initial.page (Scene.quads_text a.nodes.now a.rims.now a.cells.now l.cell-index) l.page
