-- `crosses`: the parallel segments are told by whole numbers, the others by the two parameters.
use mathlib.Core.Path.{sym, ◌∙◌}
use mathlib.Core.Bool.{true≢false}
use Rattle.segments.proofs.Parameters as crossing
use Rattle.segments.proofs.Segment.crosses.Goals as goal
use Rattle.segments.proofs.Segment.crosses.Goals.{then-den-ne0, else-den-ne0}

pub returns-then-interior : goal.returns-then-interior
returns-then-interior c =
    let d1 = c.sub-d1.ensures.0 in
    let d2 = c.sub-d2.ensures.0 in
    let ac = c.sub-ac.ensures.0 in
    elim c.if-den-ne0.branch [
      | then-den-ne0 w ↦
          crossing.inside _ _ _ _ _ _ _ d1 d2 ac _ c.cross-den.ensures w.if-den-ne0.true _ w.cross.ensures _ w.ratio.ensures _ w.interior.ensures
          _ w.value-is c.if-interior.true _ c.cross-then-interior.ensures _ c.ratio-then-interior.ensures _ c.interior-then-interior.ensures
      | else-den-ne0 w ↦ absurd (true≢false (sym c.if-interior.true ∙ w.value-is ∙ crossing.none c.cross-den.result w.if-den-ne0.false))
    ]

pub returns-else-interior : goal.returns-else-interior
returns-else-interior c =
    let d1 = c.sub-d1.ensures.0 in
    let d2 = c.sub-d2.ensures.0 in
    let ac = c.sub-ac.ensures.0 in
    elim c.if-den-ne0.branch [
      | then-den-ne0 w ↦
          crossing.outside _ _ _ _ _ _ _ d1 d2 ac _ c.cross-den.ensures w.if-den-ne0.true _ w.cross.ensures _ w.ratio.ensures _ w.interior.ensures
          _ w.value-is c.if-interior.false
      | else-den-ne0 w ↦
          crossing.parallel _ _ _ _ _ _ _ d1 d2 ac _ c.cross-den.ensures w.if-den-ne0.false _ (w.value-is ∙ crossing.none c.cross-den.result w.if-den-ne0.false)
    ]
