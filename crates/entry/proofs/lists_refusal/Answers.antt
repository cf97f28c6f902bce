-- `lists_refusal`: where the counts refuse, no node is looked at; else the nodes and the marks decide, and then the room.
use mathlib.Core.Path.{◌≡◌, sym, ap, ◌∙◌}
use mathlib.Core.List.{List}
use lib.ListN.{length}
use borrow.Author.Rules.{rules}
use Rattle.quads.specs.declared.Cell.{Cell}
use Rattle.entry.specs.Refusal.{lists_refusal}
use Rattle.survey.specs.declared.NodeSurvey.{NodeSurvey}
use Rattle.table.specs.Answers.{code_of}
use Rattle.entry.proofs.Tests.{fit, looked_none, nothing}
use Rattle.entry.proofs.lists_refusal.Goals as goal
use Rattle.entry.proofs.lists_refusal.Goals.{After-used_refusal}
use Rattle.call.specs.Lent.{lent_lists}

pub returns-then-counts_over-clause-looked : goal.returns-then-counts_over-clause-looked
returns-then-counts_over-clause-looked c =
    let a = c.args in
    nothing a.w a.nodes.now a.numbers.now a.xs.now _ _ (looked_none _ _ _ _ _ (sym c.counts_over.ensures ∙ c.if-counts_over.true))

-- the number of what the used nodes, the marks and the room come to
told : (c : After-used_refusal) (cells : List Cell) → length cells ≡ c.args.cell_places
    → code_of c.used_refusal.result ≡ lists_refusal c.args.limits c.args.own
    (lent_lists c.args.nodes.now c.args.node_count c.args.rims.now cells c.args.cell_count)
told c cells o =
    let a = c.args in
    c.used_refusal.ensures
    ∙ fit a.limits a.own a.nodes.now a.node_count a.rims.now cells a.cell_count a.cell_places o (sym c.counts_over.ensures ∙ c.if-counts_over.false)
    c.used_nodes-s.result.on_sheet (ap (λ (r : NodeSurvey). r.on_sheet) c.used_nodes-s.ensures.0)

pub returns-in_err-used_refusal-clause-code : goal.returns-in_err-used_refusal-clause-code
returns-in_err-used_refusal-clause-code c = λ cells o.
    let e : code_of c.from_residual.result ≡ code_of c.used_refusal.result = search rules in
    e ∙ told (goal.at.returns-in_err-used_refusal-clause-code c).After-used_refusal cells o

pub returns-clause-code : goal.returns-clause-code
returns-clause-code c = λ cells o.
    let e : 0 ≡ code_of c.used_refusal.result = search rules in
    e ∙ told (goal.at.returns-clause-code c).After-used_refusal cells o
