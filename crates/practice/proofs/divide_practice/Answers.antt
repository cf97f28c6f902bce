-- `divide_practice` keeps its promise: 16 where it is due, and else the divider call with the practice set.
use mathlib.Core.Path.{sym, ◌∙◌}
use Rattle.call.specs.Lent.{Lent, lent}
use Rattle.practice.proofs.Calling.{practice-refused, practice-divided}
use Rattle.practice.proofs.divide_practice.Goals as goal
use Rattle.practice.proofs.divide_practice.Goals.{Start}

-- what was lent
abbrev by_args : Start → Lent
by_args s =
    let a = s.args in
    lent a.ring.now a.chain.now a.size a.nodes.now a.node_count a.rims.now a.cells.now a.cell_count

pub returns-then-over_paper : goal.returns-then-over_paper
returns-then-over_paper c = practice-refused (by_args (goal.at.returns-then-over_paper c).Start) (sym c.over_paper.ensures ∙ c.if-over_paper.true)

pub returns : goal.returns
returns c =
    let l = by_args (goal.at.returns c).Start in
    practice-divided l (sym c.over_paper.ensures ∙ c.if-over_paper.false) _ c.practice.ensures _ _ _ _
    c.divide_set.ensures
