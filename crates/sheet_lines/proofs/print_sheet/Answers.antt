use mathlib.Core.Path.{sym, ◌∙◌}
use Rattle.listing.proofs.Tests.{usable}
use Rattle.sheet_lines.proofs.Lines.{whole-line, none_written, more-lines, none_held, more_held, few_bytes}
use borrow.Author.Rules.{rules}
use native.Mathlib.Omega.{arith}
use Rattle.sheet_lines.proofs.print_sheet.Goals as goal

pub loop-i-init : goal.loop-i-init
loop-i-init g c = (
  search rules,
  usable c.args.nodes.now c.args.used (sym c.nodes_out.ensures ∙ c.if-nodes_out.false),
  none_written c.args.nodes.now,
  c.requires,
  none_held c.args.nodes.now _,
)

pub send-requires : goal.send-requires
send-requires g c =
    let a = c.args in
    let l = c.loop-i in
    let u = l.invariant.1 in
    let h = c.loop-i-test.true in
    let p = c.put_line in
    let t = whole-line a.nodes.now l.i (omega (arith, u.few, h)) _ _ _ p.ensures p.auto.out in
    record {
      nodes = a.nodes.now;
      used = a.used;
      number = l.i;
      ended = l.invariant.3;
      below = h;
      few = u.few;
      wrote = l.invariant.2;
      text = t;
      fits = few_bytes a.nodes.now l.i l.sent _ (omega (arith, u.few, h)) l.invariant.2 t;
    }

pub loop-i-preserved : goal.loop-i-preserved
loop-i-preserved g c =
    let a = c.args in
    let l = c.loop-i in
    let u = l.invariant.1 in
    let h = c.loop-i-test.true in
    let p = c.put_line in
    let t = whole-line a.nodes.now l.i (omega (arith, u.few, h)) _ _ _ p.ensures p.auto.out in (
      search rules,
      u,
      more-lines a.nodes.now l.i l.sent _ _ l.invariant.2 t c.in_ok-send.ensures.counted,
      l.invariant.3,
      more_held a.nodes.now l.i _ _ _ _ t l.invariant.4 c.in_ok-send.ensures.written,
    )
