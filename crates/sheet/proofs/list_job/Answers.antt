-- `list_job`: a job that was reached can go on, and the sheet of one that has ended is its input's.
use mathlib.Core.Path.{ap, ◌∙◌}
use Rattle.std.proofs.lemmas.Result.{IfOk-weaker}
use Rattle.run.specs.declared.Job.{Job}
use Rattle.run.proofs.Reaching.{can_step, falls_onward, listed}
use Rattle.sheet_lines.proofs.Lines.{finished}
use Rattle.sheet.proofs.Coming.{begins_came, came_on, came_still, gives, printed-so}
use Rattle.sheet.proofs.list_job.Goals as goal

pub loop-init : goal.loop-init
loop-init g c = begins_came c.new-job.result c.new-job.ensures _

pub next-requires : goal.next-requires
next-requires g c = can_step _ _ _ _ c.loop.invariant.reached

pub loop-smaller : goal.loop-smaller
loop-smaller g c = falls_onward _ _ _ c.in-Some.ensures.onward c.loop.invariant.reached

pub loop-preserved : goal.loop-preserved
loop-preserved g c = came_on _ _ _ _ _ _ c.loop.invariant c.in-Some.ensures.read

pub print_sheet-requires : goal.print_sheet-requires
print_sheet-requires g c =
    let n = c.in_default.ensures in
    let u = came_still _ c.next.new.self _ _ _ c.loop.invariant n.onward.1 (ap g.R.Read.remaining n.read) in
    listed _ _ _ _ u.reached (ap (λ (j : Job). j.state.ended) n.onward.1 ∙ n.onward.0)

pub returns : goal.returns
returns g c =
    let n = c.in_default.ensures in
    let u = came_still _ c.next.new.self _ _ _ c.loop.invariant n.onward.1 (ap g.R.Read.remaining n.read) in
    let e = ap (λ (j : Job). j.state.ended) n.onward.1 ∙ n.onward.0 in
    let p = c.print_sheet.ensures in
    record {
      ended = IfOk-weaker c.print_sheet.result _ _ (λ k h. finished _ _ k (listed _ _ _ _ u.reached e) h) p.counted;
      own = printed-so c.print_sheet.result _ _ _ (λ k h a. gives _ _ _ _ _ _ _ _ k u e h a) p.counted p.written;
    }
