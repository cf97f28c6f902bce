-- `stands`: a point that is not near has another key.
use Rattle.std.proofs.Common.{sym, ap, ◌∙◌}
use Rattle.keys.specs.Keys.{near}
use Rattle.numbering.proofs.Found.{keyed, far}
use Rattle.numbering.proofs.search.stands.Goals as goal

pub returns-then-is_near : goal.returns-then-is_near
returns-then-is_near g c = c.has_key.ensures ∙ sym (keyed c.args.key _ _ _ c.x-x.ensures c.y.ensures)

pub returns-else-is_near : goal.returns-else-is_near
returns-else-is_near g c =
    c.if-is_near.false ∙ sym (far c.args.key _ (g.met.P.Places.ranged c.args.places c.args.i c.requires)
    (ap (near c.args.key.x.scaled) (sym c.x-x.ensures) ∙ sym c.is_near.ensures ∙ c.if-is_near.false))
