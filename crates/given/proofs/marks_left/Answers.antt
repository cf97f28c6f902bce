-- `marks_left`: each turn lays the mark of one edge more.
use Rattle.std.proofs.Common.{ℕ, ◌≡◌, ◌+◌, ◌%◌, ◌<◌, length, get_or, take, ap, ◌∙◌, arith, rules}
use lib.Seq.{length-take-le, get_or-take}
use Rattle.given.specs.Steps.{sought}
use Rattle.given.proofs.Laying.{marked_to_none, marked_to_more, mark-next}
use Rattle.given.proofs.marks_left.Goals as goal

pub loop-j-init : goal.loop-j-init
loop-j-init c = (search rules, marked_to_none _)

pub loop-j-preserved : goal.loop-j-preserved
loop-j-preserved c =
    let a = c.args in
    let j = c.loop-j.j in
    let n = a.clean.now.ring.count in
    let l = a.clean.now.places in
    let many : length (take n l) ≡ n = length-take-le n l (omega (arith, c.requires.count, c.requires.room)) in
    let b : j < n = omega (arith, many) in
    let k = c.from-k.ensures ∙ get_or-take n l j 0 b in
    let m = c.next.ensures.0 ∙ ap (λ (n : ℕ). (j + 1) % n) many in
    let kept = c.from-kept.ensures ∙ get_or-take n l c.next.result 0 (omega (arith, many, c.next.ensures.1)) ∙ ap (λ (i : ℕ). get_or l i 0) m in (
      omega (arith, b),
      marked_to_more _ j c.loop-j.edges _ c.loop-j.invariant.1 (omega (arith, b, c.requires.count))
          (c.surviving_mark.ensures
          ∙ mark-next a.ring.now a.clean.now a.marking.kinds.now a.marking.snaps.now
          (sought a.lead.now) j _ _ _ _ k kept c.next-after.ensures.0 c.point_at-p.ensures),
    )
