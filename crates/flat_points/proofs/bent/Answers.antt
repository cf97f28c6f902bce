use Prim.Native.Nat.{ℕ, ◌+◌, ◌<◌}
use mathlib.Core.Path.{◌≡◌, sym, ap, ◌∙◌, subst}
use mathlib.Core.Bool.{not}
use native.Mathlib.Omega.{arith}
use lib.ListN.{get_or, set}
use lib.Seq.{get_or-take}
use Rattle.vector.specs.Grid.{origin}
use Rattle.nearness.specs.Nearness.{is_flat}
use Rattle.clean_steps.specs.Places.{bent_places}
use Rattle.clean_steps.specs.KeptPlaces.{kept_points}
use Rattle.clean_steps.proofs.Filter.{Filter}
use Rattle.clean_steps.proofs.Turns.{bent-keep, bent_skip}
use Rattle.flat_points.proofs.bent.Goals as goal
use Rattle.flat_points.proofs.bent.Goals.{then-not-flat, else-not-flat}

pub loop-i-preserved : goal.loop-i-preserved
loop-i-preserved c =
    let l = c.loop-i in
    let r = c.args.r.now in
    let ring = r.ring.now in
    let f = c.flat in
    let h : l.i < r.count = omega (arith, c.loop-i-test.true) in
    let d = get_or-take r.count r.places l.i 0 h in
    let j = c.prev.result in
    let m = c.next.result in
    let at = λ (k l m : ℕ). is_flat r.tol (get_or ring k origin) (get_or ring l origin) (get_or ring m origin) in
    let e : f.result ≡ at (get_or r.places j 0) (get_or r.places l.i 0) (get_or r.places m 0) =
    f.ensures ∙ (λ i. at (c.from.ensures i) ((c.from-in-loop-i.ensures ∙ d) i) (c.from-in-loop-i-2.ensures i)) in
    elim c.if-not-flat.branch [
      | then-not-flat w ↦
          rw (w.places-is, w.count-is)
          (subst (λ (x : ℕ). Filter r (bent_places r.tol (kept_points r)) (set l.places l.count x) (l.count + 1) (l.i + 1)) (sym d)
          (bent-keep r l.places l.count l.i l.invariant h j m c.prev.ensures.0 c.next.ensures.0 f.result e (ap not w.if-not-flat.true)))
      | else-not-flat w ↦
          rw (w.places-is, w.count-is)
          (bent_skip r l.places l.count l.i l.invariant h j m c.prev.ensures.0 c.next.ensures.0 f.result e (ap not w.if-not-flat.false))
    ]
