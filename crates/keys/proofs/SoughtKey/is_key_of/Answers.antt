-- `SoughtKey::is_key_of`: equal coordinates have one key, and one that is not near has another.
use Rattle.std.proofs.Common.{T, sym, ◌∙◌, subst}
use Rattle.keys.proofs.KeyTests.{eq_z_yes}
use Rattle.keys.proofs.Rounding.{wider}
use Rattle.keys.proofs.Monotone.{key-eq}
use Rattle.keys.proofs.Skip.{other}
use Rattle.keys.proofs.SoughtKey.is_key_of.Goals as goal

pub returns-then-x-self : goal.returns-then-x-self
returns-then-x-self c =
    let a = c.args in
    let w = c.requires.1 in
    c.if-x-self.true ∙ sym (eq_z_yes _ _ (sym (key-eq a.x a.self.own (wider a.x c.requires.0) (wider a.self.own w.ranged) (subst T (sym c.if-x-self.true) tt))))

pub returns-else-is_near : goal.returns-else-is_near
returns-else-is_near c =
    c.if-is_near.false ∙ sym (other c.args.self c.args.x c.requires.0 c.requires.1 (sym c.is_near.ensures ∙ c.if-is_near.false))
