use mathlib.Core.Path.{sym, ◌∙◌}
use borrow.Author.Tests.{not-false}
use Rattle.std.proofs.lemmas.Result.{on_ok_weaker}
use Rattle.picture.proofs.Drawing.{begins, drew_head, head_alone, left, rings-drawn, all_more}
use Rattle.picture.proofs.draw.Goals as goal

pub loop-f-init : goal.loop-f-init
loop-f-init g c =
    let h = c.requires in (
      record {
        blocks = 0;
        reached = begins c.args.job.now c.new-run.result c.new-run.ensures;
        drew = drew_head c.args.job.now c.args.f c.args.sent.now h.1 h.2 h.3;
        text = head_alone c.args.job.now _;
      },
      h.0,
      h.1,
    )

pub draw_nodes-requires : goal.draw_nodes-requires
draw_nodes-requires g c =
    let l = c.loop-f in
    let e = not-false l.run.state.ended (sym c.goes_on.ensures ∙ c.loop-f-test.false) in
    let d = rings-drawn _ _ _ _ _ _ l.invariant.0.reached e l.sent l.invariant.0.drew l.invariant.1 in
    (left _ _ _ _ _ _ l.invariant.0.reached e, d.0, d.1)

pub returns : goal.returns
returns g c =
    let l = c.loop-f in
    let e = not-false l.run.state.ended (sym c.goes_on.ensures ∙ c.loop-f-test.false) in
    let n = c.draw_nodes.ensures in
    record {
      wrote = n.wrote;
      bytes = on_ok_weaker c.draw_nodes.result (λ k. all_more _ _ _ _ _ _ l.invariant.0.reached e _ l.invariant.2 _ _ _ l.invariant.0.text k) n.bytes;
    }
