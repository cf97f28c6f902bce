use Prim.Native.Nat.{◌<◌}
use mathlib.Core.Path.{◌≡◌, sym, ◌∙◌}
use Rattle.clean.proofs.Passing.{end, few-left, none_dropped, some-dropped}
use Rattle.clean.proofs.passes.Goals as goal
use Rattle.clean.proofs.passes.Goals.{Else-u-r}

pub returns-then-u-r : goal.returns-then-u-r
returns-then-u-r c =
    let l = c.loop-r in
    let i = l.invariant in
    record { ring = i.ring; tol = i.tol; places = sym (none_dropped l.r c.pass-u.result c.pass-u.ensures c.loop-r-test.true c.if-u-r.true) ∙ i.end }

-- a turn that is not the last drops a point
dropped : (c : Else-u-r)
    → let l = c.loop-r in
    (end c.pass-u.result ≡ end l.r) × (c.pass-u.result.count < l.r.count)
dropped c =
    some-dropped c.loop-r.r c.pass-u.result c.pass-u.ensures c.loop-r-test.true c.if-u-r.false

pub loop-r-smaller : goal.loop-r-smaller
loop-r-smaller c = (dropped c).1

pub loop-r-preserved : goal.loop-r-preserved
loop-r-preserved c =
    let i = c.loop-r.invariant in
    let u = c.pass-u.ensures in
    record { ring = u.ring ∙ i.ring; tol = u.tol ∙ i.tol; end = (dropped c).0 ∙ i.end }

pub returns : goal.returns
returns c =
    let l = c.loop-r in
    let i = l.invariant in
    record { ring = i.ring; tol = i.tol; places = sym (few-left l.r c.loop-r-test.false) ∙ i.end }
