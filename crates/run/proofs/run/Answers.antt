-- `run`: a job that was reached can go on, and where it has ended all is written.
use mathlib.Core.Path.{sym, subst}
use Rattle.job.specs.Run.{printed}
use Rattle.run.specs.Given.{Gives}
use Rattle.run.proofs.Reaching.{can_step, falls_onward, owes_onward, finished}
use Rattle.run.proofs.Given.{begins_under, under_on, gives}
use Rattle.run.proofs.run.Goals as goal

pub loop-told-init : goal.loop-told-init
loop-told-init g c = begins_under c.new-job.result c.new-job.ensures _ _

pub next-requires : goal.next-requires
next-requires g c = can_step _ _ _ _ c.loop-told.invariant.wrote.reached

pub tell-requires : goal.tell-requires
tell-requires g c =
    let n = c.in-Some.ensures.onward in
    (owes_onward _ _ _ n _ c.loop-told.invariant.wrote, n.steps.tells)

pub loop-told-smaller : goal.loop-told-smaller
loop-told-smaller g c = falls_onward _ _ _ c.in-Some.ensures.onward c.loop-told.invariant.wrote.reached

pub loop-told-preserved : goal.loop-told-preserved
loop-told-preserved g c =
    let t = c.in_ok-tell.ensures in
    under_on _ _ _ _ _ _ _ _ _ _ _ c.loop-told.invariant c.in-Some.ensures.read t.sends t.written

pub returns : goal.returns
returns g c =
    let l = c.loop-told in
    let n = c.in_default.ensures in
    let left = g.R.Read.remaining in
    let holds = g.W.Write.contents in
    record {
      ended = finished _ _ _ _ _ l.invariant.wrote n.onward.0;
      own = subst (λ i. Gives printed (left c.args.input.now) (left i) (holds c.args.output.now) (holds l.output) l.sent) (sym n.read)
          (gives _ _ _ _ _ _ _ _ _ l.invariant n.onward.0);
    }
