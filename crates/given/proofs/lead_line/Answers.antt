-- `lead_line`: none where no mark calls for it, and else the outline that was lent.
use mathlib.Core.Path.{sym, ap, ◌∙◌}
use Rattle.vector.specs.declared.Ring.{Ring}
use Rattle.laws.proofs.Booleans.{is_true}
use Rattle.given.proofs.LeadLines.{outline-asks, few-loops, points-fit, held}
use Rattle.given.proofs.lead_line.Goals as goal

pub points-own-requires : goal.points-own-requires
points-own-requires c = outline-asks _ _ _ c.requires (sym c.called_for.ensures ∙ is_true _ c.if-not-called_for.false-raw)

pub loop_counts-requires : goal.loop_counts-requires
loop_counts-requires c = few-loops _ _ _ c.requires (sym c.called_for.ensures ∙ is_true _ c.if-not-called_for.false-raw)

pub invariant_of-result-2 : goal.invariant_of-result-2
invariant_of-result-2 c =
    let t = sym c.called_for.ensures ∙ is_true _ c.if-not-called_for.false-raw in
    record { few = few-loops _ _ _ c.requires t; fits = points-fit _ _ _ c.requires t _ c.loop_counts.ensures }

pub returns : goal.returns
returns c =
    held _ _ _ c.requires (sym c.called_for.ensures ∙ is_true _ c.if-not-called_for.false-raw) _
    (ap (λ (r : Ring). r.points) c.points-own.ensures.0) c.loop_counts.ensures
