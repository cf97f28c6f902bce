use mathlib.Core.Path.{refl, sym, ap, subst, ◌∙◌}
use native.Mathlib.Omega.{arith}
use lib.Ieee.{Float}
use Rattle.std.proofs.lemmas.Option.{cond_some}
use Rattle.diagonal.specs.Best.{wins}
use Rattle.diagonal.specs.Diagonal.{best_to}
use Rattle.diagonal.proofs.Choosing as choosing
use Rattle.diagonal.proofs.Choosing.{held, Scored}
use Rattle.diagonal.proofs.best_diagonal.Goals as goal
use Rattle.diagonal.proofs.best_diagonal.Goals.{in-Some+then-improves+then-is_unobstructed, in-Some+else-improves}
use Rattle.diagonal.proofs.best_diagonal.Goals.{else-improves-via-then-improves+else-is_unobstructed, else-improves-via-else-improves, in_default}

pub loop-k-init : goal.loop-k-init
unfolding best_to
loop-k-init c = (refl, tt)

pub loop-k-preserved : goal.loop-k-preserved
loop-k-preserved c =
    let o = c.loop-k in
    let L = c.args.limits in
    let r = c.args.part.now in
    let e = o.invariant.0 in
    let s = o.invariant.1 in
    let a = c.new-next.ensures ∙ c.sub.ensures.0 in
    let b = c.new-prev.ensures ∙ c.sub-2.ensures.0 in
    let j = c.judge.ensures ∙ choosing.judged-is r c.requires.1 o.k (omega arith) _ _ a b L in
    elim c.match-judge.branch [
      | in-Some+then-improves+then-is_unobstructed w ↦
          let f = cond_some _ _ _ (sym j ∙ w.in-Some.is) in
          let i = ap (λ (x : Float). wins x o.best) f.1 ∙ sym w.improves.ensures ∙ w.if-improves.true in
          let u = sym w.is_unobstructed.ensures ∙ w.if-is_unobstructed.true in
          (ap held w.best-is ∙ choosing.won L r o.k o.auto.k o.best e s f.0 i u, subst (Scored r) (sym w.best-is) (sym f.1))
      | in-Some+else-improves w ↦
          let f = cond_some _ _ _ (sym j ∙ w.in-Some.is) in (
            ap held w.best-is ∙ (elim w.else-improves.branch [
              | else-improves-via-then-improves+else-is_unobstructed v ↦
                  choosing.hidden L r o.k o.auto.k o.best e (sym v.is_unobstructed.ensures ∙ v.if-is_unobstructed.false)
              | else-improves-via-else-improves v ↦
                  choosing.passed L r o.k o.auto.k o.best e s (ap (λ (x : Float). wins x o.best) f.1 ∙ sym w.improves.ensures ∙ v.if-improves.false)
            ]),
            subst (Scored r) (sym w.best-is) s,
          )
      | in_default w ↦
          (ap held w.best-is ∙ choosing.refused L r o.k o.auto.k o.best e (choosing.refusing _ _ _ j w.in_default.not-Some), subst (Scored r) (sym w.best-is) s)
    ]
