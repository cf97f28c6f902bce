-- `stays`: the tests are joined one by one.
use mathlib.Core.Path.{◌≡◌, sym, ap, ◌∙◌}
use mathlib.Core.Bool.{Bool, ◌||◌}
use lib.Ieee.{Float, round, of_bits}
use Rattle.laws.specs.Double.{lit, ◌<f◌}
use Rattle.laws.proofs.Booleans.{neither}
use Rattle.vector.specs.declared.GridPoint.{GridPoint}
use Rattle.vector.specs.Grid as Grid
use Rattle.root.specs.Norm.{grid_norm, grid_dist}
use Rattle.cosine.specs.Cosine as Cosine
use Rattle.chain.proofs.stays.Goals as goal
use Rattle.chain.proofs.stays.Goals.{Joined-last, then-last, else-last, Joined-is_zero, then-is_zero, else-is_zero}

-- b is the last, or its step in has no length
abbrev in-none : GridPoint → GridPoint → Bool → Bool
in-none a b last = last || Grid.same (Grid.sub b a) Grid.origin

in_is : (c : Joined-last) → c.if-last.value ≡ in-none c.args.a c.args.b c.args.last
in_is c =
    elim c.if-last.branch [
      | then-last w ↦ rw (w.value-is, w.if-last.true)
      | else-last w ↦ rw (w.value-is, w.if-last.false) (w.is_zero.ensures ∙ ap (λ (v : GridPoint). Grid.same v Grid.origin) c.sub-u.ensures.0)
    ]

-- or its step out
abbrev out-none : GridPoint → GridPoint → GridPoint → Bool → Bool
out-none a b c last = in-none a b last || Grid.same (Grid.sub c b) Grid.origin

out_is : (c : Joined-is_zero) → c.if-last.value ≡ in-none c.args.a c.args.b c.args.last
    → c.if-is_zero.value ≡ out-none c.args.a c.args.b c.args.c c.args.last
out_is c e =
    elim c.if-is_zero.branch [
      | then-is_zero w ↦ rw (w.value-is, ← e, w.if-is_zero.true)
      | else-is_zero w ↦
          rw (w.value-is, ← e, w.if-is_zero.false) (w.is_zero-else-is_zero.ensures ∙ ap (λ (v : GridPoint). Grid.same v Grid.origin) c.sub-v.ensures.0)
    ]

pub invariant_of-cosine : goal.invariant_of-cosine
unfolding grid_dist
invariant_of-cosine c =
    let u = c.sub-u.ensures in
    record { is_step = u.1; is_norm = c.requires.3 ∙ ap grid_norm (sym u.0) }

pub invariant_of-cosine-else-is_zero-2 : goal.invariant_of-cosine-else-is_zero-2
unfolding grid_dist
invariant_of-cosine-else-is_zero-2 c =
    let v = c.sub-v.ensures in
    let at = goal.at.invariant_of-cosine-else-is_zero-2 c in
    let e = out_is at.Joined-is_zero (in_is at.Joined-last) in
    let l = (neither c.args.last _ (neither _ _ (sym e ∙ c.if-is_zero-2.false)).0).0 in
    record { is_step = v.1; is_norm = c.requires.4 l ∙ ap grid_norm (sym v.0) }

pub returns-else-is_zero-2 : goal.returns-else-is_zero-2
unfolding lit round of_bits
returns-else-is_zero-2 c =
    let u = c.sub-u.ensures.0 in
    let v = c.sub-v.ensures.0 in
    let at = goal.at.returns-else-is_zero-2 c in
    let e = out_is at.Joined-is_zero (in_is at.Joined-last) in
    rw (← e, c.if-is_zero-2.false)
    (ap (λ (x : Float). x <f lit 9063077870366499 16) (c.cosine.ensures ∙ (λ i. Cosine.cosine (u i) (v i))))
