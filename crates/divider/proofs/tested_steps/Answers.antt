-- `tested_steps`: a refusal by a test of the lists leaves everything as found, and else the last steps follow.
use mathlib.Core.Path.{◌≡◌, refl, sym}
use borrow.Author.Rules.{rules}
use Rattle.table.specs.Answers.{number_of, refused_row}
use Rattle.divider.specs.Steps.{returned}
use Rattle.divider.proofs.Numbers.{no_zero}
use Rattle.divider.proofs.Calling.{refused-late}
use Rattle.divider.proofs.tested_steps.Goals as goal

pub lists_refusal-requires : goal.lists_refusal-requires
lists_refusal-requires g c =
    let p = c.requires.passing in
    rw c.own-own.ensures (p.from, p.few, c.ring_box-w.ensures, refl, refl)

pub returns-in_err-near : goal.returns-in_err-near
returns-in_err-near g c = λ cs o.
    let a = c.args in
    let why = c.in_err-near.field-0.0 in
    let e : returned c.from_residual.result a.node_count a.room.at ≡ refused_row (number_of why) a.node_count a.room.at = search rules in
    let n = rw c.own-own.ensures at (c.in_err-near.ensures.code cs o) in
    rw e
    (refused-late a.limits _ _ _ a.nodes.now a.node_count a.rims.now a.cells.now a.room.at cs a.room
    (number_of why) (sym c.requires.tested) n (no_zero why))
