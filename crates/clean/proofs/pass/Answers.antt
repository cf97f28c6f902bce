-- `pass`: the three drops of a pass, each from what the one before left.
use mathlib.Core.Path.{refl}
use Rattle.clean.proofs.Passing.{pass_is}
use Rattle.clean.proofs.pass.Goals as goal

pub returns : goal.returns
returns c =
    let u = c.spaced-u in
    let o = c.opened.ensures in
    pass_is c.args.r.now u.result _ c.straightened.result u.ensures.1 refl refl refl o.0 o.1 c.straightened.ensures
