use mathlib.Core.Bool.{not}
use mathlib.Core.Path.{◌≡◌, refl, sym, ap, ◌∙◌, subst}
use Prim.Native.Nat.{ℕ, ◌+◌, ◌-◌, ◌<◌}
use native.Mathlib.Omega.{arith}
use lib.ListN.{get_or, set}
use Rattle.vector.specs.Grid.{origin}
use Rattle.nearness.specs.Nearness.{near}
use Rattle.clean_steps.specs.Places.{spaced_places}
use Rattle.clean_steps.specs.KeptPlaces.{kept_points}
use Rattle.clean_steps.proofs.Filter.{Filter, done}
use Rattle.clean_steps.proofs.Turns.{spaced-start, spaced-keep, spaced_skip}
use Rattle.clean_steps.proofs.KeptPlaces.spaced.Goals as goal
use Rattle.clean_steps.proofs.KeptPlaces.spaced.Goals.{then-not-near, else-not-near}
use Rattle.laws.proofs.Lists.{after_first}

pub loop-p-init : goal.loop-p-init
loop-p-init c = (spaced-start c.args.self.now c.requires, omega arith)

pub bounds-self-from-in-loop-p : goal.bounds-self-from-in-loop-p
bounds-self-from-in-loop-p c =
    let r = c.args.self.now in
    let h : c.loop-p.p-index < r.count - 1 = omega (arith, c.loop-p-test.true) in
    subst (λ (x : ℕ). x < 60) (sym (c.from-in-loop-p.ensures ∙ after_first r.places r.count c.loop-p.p-index 0 h)) (r.valid.low _)

pub loop-p-preserved : goal.loop-p-preserved
loop-p-preserved c =
    let l = c.loop-p in
    let n = c.near in
    let r = c.args.self.now in
    let ring = r.ring.now in
    let h : l.p-index < r.count - 1 = omega (arith, c.loop-p-test.true) in
    let i : l.p-index + 1 < r.count = omega (arith, h) in
    let d = after_first r.places r.count l.p-index 0 h in
    let last = get_or ring (get_or l.places (l.count - 1) 0) origin in
    let e : n.result ≡ near r.tol last (get_or ring (get_or r.places (l.p-index + 1) 0) origin) =
    n.ensures ∙ (λ j. near r.tol (get_or ring (c.from.ensures j) origin) (get_or ring ((c.from-in-loop-p.ensures ∙ d) j) origin)) in
    elim c.if-not-near.branch [
      | then-not-near w ↦ rw (w.places-is, w.count-is) (
        subst (λ (x : ℕ). Filter r (spaced_places r.tol (kept_points r)) (set l.places l.count x) (l.count + 1) (l.p-index + 1 + 1)) (sym d)
            (spaced-keep r l.places l.count (l.p-index + 1) l.invariant.0 i l.invariant.1 n.result e (ap not w.if-not-near.true)),
        omega arith,
      )
      | else-not-near w ↦ rw (w.places-is, w.count-is) (
        spaced_skip r l.places l.count (l.p-index + 1) l.invariant.0 i l.invariant.1 n.result e (ap not w.if-not-near.false),
        l.invariant.1,
      )
    ]

-- the places that are left, once all were looked at
pub invariant_of-out : goal.invariant_of-out
invariant_of-out c =
    let l = c.loop-p in
    let r = c.args.self.now in
    record {
      valid =
          (done r (spaced_places r.tol (kept_points r)) l.places l.count (l.p-index + 1) l.invariant.0 (omega (arith, c.loop-p-test.false, c.requires))).0;
    }

pub returns : goal.returns
returns c =
    let l = c.loop-p in
    let r = c.args.self.now in
    let d = done r (spaced_places r.tol (kept_points r)) l.places l.count (l.p-index + 1) l.invariant.0 (omega (arith, c.loop-p-test.false, c.requires)) in
    (l.invariant.1, record { ring = refl; tol = refl; places = d.1 }, d.2)
