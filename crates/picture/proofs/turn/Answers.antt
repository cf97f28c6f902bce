-- `turn`: what is drawn of the step is owed, and once it is sent the block is drawn.
use Prim.Native.Nat.{ℕ}
use mathlib.Core.Path.{sym, subst, ap, ◌∙◌}
use Rattle.std.proofs.lemmas.Result.{on_ok_weaker}
use Rattle.frame.specs.Head.{edges_of}
use native.Mathlib.Numerals.{add-one}
use Rattle.picture.specs.Picture.{Reached}
use Rattle.picture.proofs.Drawing.{can_step, due, drew, drew_more, turned}
use native.Mathlib.Omega.{arith}
use Rattle.picture.proofs.turn.Goals as goal

pub step-told-requires : goal.step-told-requires
step-told-requires g c = can_step _ _ _ _ _ _ c.requires.0

pub invariant_of-points : goal.invariant_of-points
invariant_of-points g c =
    let h = c.requires in
    let t = turned _ _ _ _ _ _ h.0 h.2 _ c.block_at.ensures _ _ _ _ _ c.step-told.ensures.0 in
    record { few = (can_step _ _ _ _ _ _ t).few }

pub draw_step-requires : goal.draw_step-requires
draw_step-requires g c =
    let h = c.requires in
    let p = c.step-told.ensures.0 in (
      due _ _ _ _ _ _ h.0 h.2 _ c.block_at.ensures _ _ _ _ _ p _ (c.edges.ensures ∙ ap edges_of h.3) _ h.1 h.4,
      p.tells,
      h.0.within h.2,
      omega (arith, h.0.within h.2, h.4),
    )

pub returns : goal.returns
returns g c =
    let a = c.args in
    let h = c.requires in
    let p = c.step-told in
    let b = c.block_at.ensures in
    let s = p.new.self in
    let t = turned _ _ _ _ _ _ h.0 h.2 _ b _ _ _ _ _ p.ensures.0 in
    let f = c.edges.ensures ∙ ap edges_of h.3 in
    let d = c.draw_step.ensures in
    record {
      reached = subst (λ (m : ℕ). Reached a.job.now m s.state s.ring s.nodes s.rims) (sym (add-one a.run.now.state.block)) t;
      drew = on_ok_weaker c.draw_step.result (λ n. drew _ _ _ _ _ _ h.0 h.2 _ b _ _ _ _ _ p.ensures.0 _ f _ _ h.1 n) d.sends;
      bytes = on_ok_weaker c.draw_step.result (λ w. drew_more _ _ _ _ _ _ h.0 h.2 _ b _ _ _ _ _ p.ensures.0 _ f _ _ w) d.bytes;
    }
