use mathlib.Core.Path.{sym, ◌∙◌}
use borrow.Author.Tests.{ne_eqb, eq-eqb}
use Rattle.laws.proofs.Search as search-laws
use Rattle.simple.proofs.Pairs as pairs
use Rattle.simple.proofs.polygon_simple.Goals as goal
use Rattle.simple.proofs.polygon_simple.Goals.{else-k-i-via-then-k-i+else-crosses, else-k-i-via-else-k-i}
use Rattle.simple.proofs.polygon_simple.Goals.{else-scan-test, then-scan-test+then-loop-j-test+then-k-i+then-crosses}

pub loop-j-preserved : goal.loop-j-preserved
loop-j-preserved c =
    let l = c.loop-j in
    let r = c.args.ring.now in (
      l.invariant.0,
      search-laws.any-pass _ _ l.invariant.1
          (elim c.else-k-i.branch [
            | else-k-i-via-then-k-i+else-crosses w ↦
                sym (pairs.judged r c.scan.i _ l.j _ c.scan-test.true c.next.ensures.0 l.auto.j c.loop-j-test.true
                c.next-k.ensures.0 c.new-edge.result w.new.result c.new-edge.ensures w.new.ensures)
                ∙ rw (ne_eqb _ _ w.if-k-i.true) (sym w.crosses.ensures ∙ w.if-crosses.false)
            | else-k-i-via-else-k-i w ↦
                sym (pairs.by_points r c.scan.i _ l.j _ c.scan-test.true c.next.ensures.0 l.auto.j c.loop-j-test.true c.next-k.ensures.0)
                ∙ rw (eq-eqb _ _ w.if-k-i.false)
          ]),
    )

pub returns : goal.returns
returns c =
    let s = c.scan in
    let r = c.args.ring.now in
    pairs.simple-is r c.scan-test.found
    (elim c.scan-test.branch [
      | else-scan-test w ↦ w.found-is ∙ s.invariant.0 ∙ sym (search-laws.any-fewer _ s.i _ s.invariant.1 w.scan-test.false)
      | then-scan-test+then-loop-j-test+then-k-i+then-crosses w ↦
          let l = w.loop-j in
          let j = pairs.judged r s.i _ l.j _ w.scan-test.true w.next.ensures.0 l.auto.j
          w.loop-j-test.true w.next-k.ensures.0 w.new-edge.result w.new.result w.new-edge.ensures w.new.ensures in
          let x = sym j ∙ rw (ne_eqb _ _ w.if-k-i.true) (sym w.crosses.ensures ∙ w.if-crosses.true) in
          w.found-is ∙ sym (search-laws.any_hit _ s.i _ w.scan-test.true (search-laws.any_hit _ l.j _ w.loop-j-test.true x))
    ])
    c.if-n-lt3.false
