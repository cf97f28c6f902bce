-- `finish`: laws in proofs/Reaching and proofs/Given.
use mathlib.Core.Path.{refl, sym, ap, ◌∙◌, subst}
use Rattle.std.proofs.lemmas.Result.{IfOk-weaker}
use Rattle.drawing.specs.Parsing.{Parser, parser_of}
use Rattle.draw.specs.Reached.{Ends}
use Rattle.draw.proofs.Reaching.{fed_so, not_none, line_ended}
use Rattle.draw.proofs.Given.{ends_step, closed_bad, closes_on}
use Rattle.draw.proofs.finish.Goals as goal

pub close-requires : goal.close-requires
close-requires g c =
    let e = c.in_ok-take.ensures in
    (line_ended c.requires.0 10 c.take.new.d c.requires.1 e.steps refl _ e.count, c.in-None.is)

pub returns-in-None-clause-ends : goal.returns-in-None-clause-ends
returns-in-None-clause-ends g c =
    let t = c.in_ok-take.ensures in
    let e = fed_so 10 c.args.d.now c.take.new.d t.steps in
    IfOk-weaker c.close.result _ _ (λ r v. closes_on (parser_of c.args.d.now) c.take.new.d e c.in-None.is _ _ t.count _ _ _ t.bytes r v) c.close.ensures.ends

pub returns-in-Some-clause-ends : goal.returns-in-Some-clause-ends
returns-in-Some-clause-ends g c =
    let t = c.in_ok-take.ensures in
    let e = fed_so 10 c.args.d.now c.take.new.d t.steps in
    let bad = not_none (sym (ap (λ (p : Parser). p.state.draft.wrong) e) ∙ c.in-Some.is) in
    subst (λ q. Ends q c.args.sent.now (g.W.Write.contents c.args.output.now) (g.W.Write.contents c.take.new.output) c.end_of.result)
    (sym (closed_bad (parser_of c.args.d.now) bad))
    (ends_step c.take.new.d _ e _ _ t.count _ _ t.bytes c.end_of.result c.end_of.ensures)
