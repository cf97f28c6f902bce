-- `mark_edges`: each turn gives one edge more its mark.
use Rattle.std.proofs.Common.{refl, sym, ◌∙◌, arith}
use Rattle.laws.proofs.Search.{below-given, below-absent}
use Rattle.vector.proofs.Rings as rings
use Rattle.chain.specs.Stretches.{stretches_in}
use Rattle.marks.specs.Marks.{mark}
use Rattle.marks.proofs.Edges.{mark-snap, mark-straight, marked-none, marked-snap, marked-straight}
use Rattle.marks.proofs.mark_edges.Goals as goal
use Rattle.marks.proofs.mark_edges.Goals.{in-Some, in_default}

pub loop-i-init : goal.loop-i-init
loop-i-init c = marked-none _ _

pub loop-i-preserved : goal.loop-i-preserved
loop-i-preserved c =
    let o = c.loop-i in
    let ps = c.args.ring.now in
    let chain = c.args.chain.now in
    let ss = stretches_in chain in
    let a = rings.at_place ps o.i (omega arith) in
    let b = rings.at_following ps o.i _ c.next.ensures.0 in
    elim c.match-stretch_between.branch [
      | in-Some w ↦
          let j = below-given chain.count _ w.in-Some.j (sym w.in-Some.is ∙ c.stretch_between.ensures) in
          rw w.edges-is
          (marked-snap ss ps o.i o.edges o.invariant (omega (arith, c.requires.0.count)) _
          (sym ((λ k. mark ss (a k) (b k)) ∙ mark-snap chain _ _ w.in-Some.j j.0 j.1)))
      | in_default w ↦
          let j = below-absent chain.count _ (sym w.in_default.is ∙ c.stretch_between.ensures) in
          rw w.edges-is
          (marked-straight ss ps o.i o.edges o.invariant (omega (arith, c.requires.0.count))
          ((λ k. mark ss (a k) (b k)) ∙ mark-straight chain _ _ _ refl j))
    ]
