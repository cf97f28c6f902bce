-- `divide_steps`: a refusal by an early test leaves everything as found, and else the tested steps follow.
use mathlib.Core.Path.{◌≡◌}
use borrow.Author.Rules.{rules}
use Rattle.table.specs.Answers.{number_of, refused_row}
use Rattle.divider.specs.Steps.{returned}
use Rattle.divider.proofs.Numbers.{no_zero}
use Rattle.divider.proofs.Calling.{refused-early}
use Rattle.divider.proofs.divide_steps.Goals as goal

pub returns-in_err-refusal : goal.returns-in_err-refusal
returns-in_err-refusal g c = λ cs o.
    let a = c.args in
    let why = c.in_err-refusal.field-0.0 in
    let e : returned c.from_residual.result a.node_count a.room.at ≡ refused_row (number_of why) a.node_count a.room.at = search rules in
    rw e
    (refused-early a.limits _ _ _ a.nodes.now a.node_count a.rims.now a.cells.now a.room.at cs a.room
    (number_of why) c.in_err-refusal.ensures.code (no_zero why))
