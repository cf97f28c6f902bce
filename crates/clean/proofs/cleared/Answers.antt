use Rattle.std.proofs.Common.{rules, ap, ◌∙◌, arith, length-set, get_or-take, get_or, ◌<◌}
use Rattle.vector.specs.Grid.{origin}
use Rattle.laws.proofs.Table.{more, tab_none}
use Rattle.clean_steps.proofs.KeptPoints.{point}
use Rattle.clean.proofs.Answer.{copied}
use Rattle.clean.proofs.cleared.Goals as goal

pub loop-i-init : goal.loop-i-init
loop-i-init c = (search rules, tab_none (point c.args.r.now))

pub loop-i-preserved : goal.loop-i-preserved
loop-i-preserved c =
    let l = c.loop-i in
    let r = c.args.r.now in
    let h : l.i < r.count = omega (arith, c.loop-i-test.true, l.invariant.0) in
    let e = ap (λ k. get_or r.ring.now k origin) (c.from.ensures ∙ get_or-take r.count r.places l.i 0 h) in
    (length-set l.point-items l.i _ ∙ l.invariant.0, more (point r) l.point-items l.i _ (omega (arith, h, l.invariant.0)) l.invariant.1 e)

pub returns : goal.returns
returns c =
    let l = c.loop-i in
    let r = c.args.r.now in
    copied r l.point-items c.copy.new.to l.i l.invariant.0 (omega (arith, l.invariant.0, c.loop-i-test.false)) l.invariant.1 (search rules)
