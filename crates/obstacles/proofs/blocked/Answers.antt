use Prim.Native.Nat.{◌+◌, ◌%◌}
use mathlib.Core.Path.{refl, sym, ◌∙◌}
use lib.ListN.{length}
use Rattle.laws.specs.Bounded.{any}
use Rattle.laws.proofs.Search.{any-pass, any_hit}
use Rattle.obstacles.specs.Obstacles.{crosses_edge}
use Rattle.obstacles.proofs.Blocking as blocking
use Rattle.obstacles.proofs.blocked.Goals as goal
use Rattle.obstacles.proofs.blocked.Goals.{else-clear_of-via-then-clear_of+else-crosses, else-clear_of-via-else-clear_of}

pub scan-init : goal.scan-init
unfolding any
scan-init c = (refl, refl)

pub scan-preserved : goal.scan-preserved
scan-preserved c =
    let l = c.scan in
    let r = c.args.part.now in
    let k = c.args.k in
    let t = sym c.clear_of.ensures in (
      l.invariant.0,
      any-pass (crosses_edge r k) l.e l.invariant.1
          (elim c.else-clear_of.branch [
            | else-clear_of-via-then-clear_of+else-crosses w ↦
                sym (blocking.opened r k c.requires.1 l.e _ c.scan-test.true
                w.next.ensures.0 c.new-diagonal.result w.new.result c.new-diagonal.ensures w.new.ensures)
                ∙ rw (t ∙ w.if-clear_of.true) (sym w.crosses.ensures ∙ w.if-crosses.false)
            | else-clear_of-via-else-clear_of w ↦
                sym (blocking.by_points r k c.requires.1 l.e ((l.e + 1) % length r) c.scan-test.true refl) ∙ rw (t ∙ w.if-clear_of.false)
          ]),
    )

pub returns-then-crosses : goal.returns-then-crosses
returns-then-crosses c =
    let l = c.scan in
    let r = c.args.part.now in
    let k = c.args.k in
    sym
    (any_hit (crosses_edge r k) l.e (length r) c.scan-test.true
    (sym (blocking.opened r k c.requires.1 l.e _ c.scan-test.true c.next.ensures.0 c.new-diagonal.result c.new.result c.new-diagonal.ensures c.new.ensures)
    ∙ rw (sym c.clear_of.ensures ∙ c.if-clear_of.true) (sym c.crosses.ensures ∙ c.if-crosses.true)))
