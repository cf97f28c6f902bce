use mathlib.Core.Path.{refl, sym, ◌∙◌}
use lib.Ieee.{of_bits}
use Rattle.std.proofs.lemmas.List.{at_drop_all}
use Rattle.outline.specs.Outline.{segments, nearest_from, nearest_segment}
use Rattle.outline.proofs.Scan as scan
use native.Mathlib.Omega.{arith}
use Rattle.outline.proofs.nearest_segment.Goals as goal

pub loop-m-init : goal.loop-m-init
unfolding of_bits
loop-m-init c = (c.requires.0, c.requires.1, refl)

pub loop-m-preserved : goal.loop-m-preserved
loop-m-preserved c =
    let l = c.loop-m in
    let ms = c.args.loops.now in
    let s = scan.sum_left ms l.m-index c.loop-m-test.true in
    let cut = c.split_at.ensures in (
      omega (arith, s, cut.back_len, l.invariant.0),
      omega (arith, s, l.invariant.1),
      scan.loop-turn ms l.m-index c.loop-m-test.true l.rest.now _ _ c.args.p l.best _ _ cut.front cut.back c.nearest_in_loop-best.ensures l.invariant.2,
    )

pub returns : goal.returns
unfolding nearest_segment nearest_from segments
returns c =
    let l = c.loop-m in
    sym (at_drop_all (λ ms. nearest_from c.args.p l.best (segments l.rest.now ms)) c.args.loops.now l.m-index c.loop-m-test.false) ∙ l.invariant.2
