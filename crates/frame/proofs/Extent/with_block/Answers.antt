-- `Extent::with_block`: each pair is a point of the block.
use Prim.Native.Nat.{◌/◌, ◌<◌}
use mathlib.Core.Path.{◌∙◌, sym, ap}
use native.Mathlib.Numerals.{add-one}
use native.Mathlib.Omega.{arith}
use lib.ListN.{length, length-take}
use Rattle.frame.specs.Bounds as Bounds
use Rattle.frame.proofs.Cases.{x_place, y_place}
use Rattle.frame.proofs.Extent.with_block.Goals as goal

pub loop-pair-preserved : goal.loop-pair-preserved
unfolding Bounds.widened
loop-pair-preserved c =
    let ps = c.args.reading.now.points in
    let l = c.loop-pair in
    let i = l.pair-index in
    let a = c.as_chunks in
    let m = c.min.result in
    let h : (i < m) × (i < length ps / 2) = (
      omega (arith, c.loop-pair-test.true, length-take m a.result.0.now),
      omega (arith, c.loop-pair-test.true, length-take m a.result.0.now, a.ensures.front_len),
    ) in
    let x = c.point_place.ensures.0 ∙ x_place ps m (length ps / 2) i a.result.0.now a.ensures.front h.0 h.1 in
    let y = c.point_place-in-loop-pair.ensures.0 ∙ y_place ps m (length ps / 2) i a.result.0.now a.ensures.front h.0 h.1 in
    c.with-e.ensures ∙ (λ j. Bounds.widen (l.invariant j) (x j) (y j)) ∙ sym (ap (Bounds.widened c.args.self ps) (add-one i))
