-- `put_points`, the loop's invariant: the first points are written.
use Rattle.text.specs.Page.{Wrote}
use Rattle.scene.specs.Scene as Scene
use Rattle.scene.proofs.put_points.Given as goal

abbrev pub invariant-loop-i : goal.invariant-loop-i
invariant-loop-i l = Wrote l.initial.page (Scene.points_text l.points.list.now l.i) l.page
