use Rattle.std.proofs.Common.{◌≡◌, ◌+◌, ◌<◌, ◌≤◌, ◌/◌, length, take, ◌∙◌, arith}
use lib.IntN.{pos}
use lib.Seq.{length-take-le}
use Rattle.laws.proofs.Chunks.{pair_among}
use Rattle.choice.proofs.Digits.{written_none, written_more, written_same}
use Rattle.choice.proofs.choose.Goals as goal
use Rattle.choice.proofs.choose.Goals.{After-as_chunks, then-rest-eq1, else-rest-eq1}

-- as many pairs are read as points are asked for
taken : (c : After-as_chunks) → length (take c.args.r c.as_chunks.result.0.now) ≡ c.args.r
taken c =
    let f : length c.as_chunks.result.0.now ≡ length c.args.ring.now / 2 = c.as_chunks.ensures.front_len in
    length-take-le c.args.r c.as_chunks.result.0.now (omega (arith, f))

pub loop-p-init : goal.loop-p-init
loop-p-init c = written_none _ _

pub loop-p-preserved : goal.loop-p-preserved
loop-p-preserved c =
    let l = c.loop-p in
    let ring = c.args.ring.now in
    let b : l.p-index < c.args.r = omega (arith, taken (goal.at.loop-p-preserved c).After-as_chunks) in
    let p = pair_among (pos 0) ring (length ring / 2) l.p-index (omega arith) c.args.r _ c.as_chunks.ensures.front (omega arith) b in
    elim c.if-rest-eq1.branch [
      | then-rest-eq1 w ↦
          let h : l.count + 2 ≤ 24 = omega (arith, b, l.invariant.low) in
          rw (w.points-is, w.count-is) (written_more l.invariant _ _ w.if-rest-eq1.true h (omega arith) (w.copy_from_slice.ensures.after ∙ p))
      | else-rest-eq1 w ↦ rw (w.points-is, w.count-is) (written_same l.invariant w.if-rest-eq1.false)
    ]

pub returns : goal.returns
returns c =
    let l = c.loop-p in
    let e : l.p-index ≡ c.args.r = omega (arith, taken (goal.at.returns c).After-as_chunks) in
    (rw e at l.invariant.front, omega (arith, e, l.invariant.low), l.invariant.long, l.invariant.after)
