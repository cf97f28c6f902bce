-- `step`: what was read is a block with the number of the state, of two bytes; what was refused leaves the cell list empty.
use mathlib.Core.Path.{◌≡◌, sym, ◌∙◌}
use native.Mathlib.Omega.{arith}
use borrow.Author.Rules.{rules}
use Rattle.blocks.specs.Fields.{pair}
use Rattle.blocks.proofs.Accepted.{was_allowed}
use Rattle.blocks.proofs.Counts.{few_points, all-places}
use Rattle.job.specs.Step.{no_cells, answered, step_of}
use Rattle.step.proofs.step.Goals as goal

pub returns-then-at_end : goal.returns-then-at_end
unfolding step_of
returns-then-at_end c =
    let a = c.args in
    let e : c.fill.new.self ≡ no_cells = search rules in
    (rw (sym c.at_end.ensures ∙ c.if-at_end.true, e) (c.end.ensures a.ring.now a.nodes.now a.rims.now), λ i. omega (arith, c.type_inv.bytes i))

pub take-requires : goal.take-requires
unfolding pair
take-requires c =
    let b = c.args.bytes.now in
    let n = c.args.s.block in
    let r = c.in-Ok.reading in
    let d = sym c.read_block.ensures ∙ c.in-Ok.is in
    (c.requires.0, search rules, omega (arith, (was_allowed b n r d).number, c.type_inv.bytes 2, c.type_inv.bytes 3), few_points b n r d, all-places b n r d)

pub returns-in-Err : goal.returns-in-Err
unfolding step_of answered
returns-in-Err c =
    let a = c.args in
    let e : c.fill.new.self ≡ no_cells = search rules in
    let d = sym c.read_block.ensures ∙ c.in-Err.is in
    (rw (sym c.at_end.ensures ∙ c.if-at_end.false, d, e) (c.end-in-Err.ensures a.ring.now a.nodes.now a.rims.now), λ i. omega (arith, c.type_inv.bytes i))
