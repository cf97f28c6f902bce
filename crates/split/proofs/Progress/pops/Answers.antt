use Rattle.std.proofs.Common.{arith}
use Rattle.split.proofs.Popped.{follows-start, follows_next, follows-empty}
use Rattle.split.proofs.Progress.pops.Goals as goal

pub loop-i-init : goal.loop-i-init
loop-i-init c = (c.requires.0, λ es len t h. follows-start c.args.ring.now es c.args.limits t c.args.self.now h)

pub returns-then-self-eq0 : goal.returns-then-self-eq0
returns-then-self-eq0 c = (
  c.loop-i.invariant.0,
  λ es len t h. follows-empty c.args.ring.now es c.args.limits t c.loop-i.self c.loop-i.i _ (omega arith) c.if-self-eq0.true
      (c.loop-i.invariant.1 es len t h),
)

pub loop-i-preserved : goal.loop-i-preserved
loop-i-preserved c = (
  c.pop.ensures.0,
  λ es len t h. follows_next c.args.ring.now es c.args.limits t c.loop-i.self c.pop.new.self c.loop-i.i (c.loop-i.invariant.1 es len t h)
      (c.pop.ensures.1 es len),
)
