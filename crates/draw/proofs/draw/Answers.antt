-- `draw`: laws in proofs/Given.
use mathlib.Core.Path.{subst}
use Rattle.std.proofs.lemmas.Result.{IfOk-weaker}
use Rattle.draw.specs.Given.{Gave}
use Rattle.draw.proofs.Reaching.{halts, goes_on}
use Rattle.draw.proofs.Given.{begun_under, under_on, gives_end, gives_wrong}
use Rattle.draw.proofs.draw.Goals as goal

pub loop-input-init : goal.loop-input-init
loop-input-init g c = begun_under c.new-d.result c.new-d.ensures _ _

pub loop-input-preserved : goal.loop-input-preserved
loop-input-preserved g c =
    let l = c.loop-input in
    let k = goes_on l.d.state.draft.wrong c.is_none.ensures c.loop-input-test.true in
    let t = c.in_ok-take.ensures in
    let b = subst (Gave (g.R.Read.remaining l.input) (g.R.Read.remaining c.read_byte.new.input)) c.in-Some.is c.in_ok-b.ensures.gave in
    under_on l.invariant c.in-Some.b c.take.new.d k t.steps _ _ b _ t.count t.bytes

pub returns-in_default-clause-gives : goal.returns-in_default-clause-gives
returns-in_default-clause-gives g c =
    let l = c.loop-input in
    let k = goes_on l.d.state.draft.wrong c.is_none.ensures c.loop-input-test.true in
    let n = subst (Gave (g.R.Read.remaining l.input) (g.R.Read.remaining c.read_byte.new.input)) c.in_default.is c.in_ok-b.ensures.gave in
    IfOk-weaker c.finish.result _ _ (λ r v. gives_end l.invariant k _ n.0 n.1 _ r v) c.finish.ensures.ends

pub returns-clause-gives : goal.returns-clause-gives
returns-clause-gives g c =
    let l = c.loop-input in
    gives_wrong l.invariant (halts l.d.state.draft.wrong c.is_none.ensures c.loop-input-test.false) c.end_of.result c.end_of.ensures
