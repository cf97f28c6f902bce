-- `divide_core`: refusals 5 to 7 leave everything as found, and else the pieces are laid out.
use mathlib.Core.Path.{◌≡◌, refl}
use borrow.Author.Rules.{rules}
use Rattle.marks.specs.Edges.{part_in}
use Rattle.table.specs.Answers.{number_of, refused_row}
use Rattle.divider.specs.Steps.{returned}
use Rattle.divider.proofs.Numbers.{no_zero}
use Rattle.divider.proofs.Calling.{core-refused, core-laid}
use Rattle.divider.proofs.divide_core.Goals as goal

pub returns-in_err-area : goal.returns-in_err-area
returns-in_err-area c =
    let a = c.args in
    let why = c.in_err-area.field-0.0 in
    let e : returned c.from_residual.result a.node_count a.cell_count ≡ refused_row (number_of why) a.node_count a.cell_count = search rules in
    rw e
    (core-refused a.limits a.own (part_in a.ring.now) a.nodes.now a.node_count a.rims.now a.cells.now a.cell_count (number_of why) c.in_err-area.ensures.code
    (no_zero why))

pub returns : goal.returns
returns c =
    let a = c.args in
    core-laid a.limits a.own (part_in a.ring.now) a.nodes.now a.node_count a.rims.now a.cells.now a.cell_count 0 c.in_ok-area.ensures.code refl _ _ _ _
    c.lay_out.ensures
