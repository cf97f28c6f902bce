-- `find_block`: where none of the last 16 is near, none of the block has the keys.
use Rattle.std.proofs.Common.{sym, ◌∙◌, arith}
use Rattle.numbering.proofs.Found.{none_near}
use Rattle.numbering.proofs.search.find_block.Goals as goal

pub returns : goal.returns
returns g c =
    let a = c.args in
    none_near a.key (g.P.Places.at a.places) a.from a.to c.requires.0 c.requires.1 c.requires.2
    (λ k h. g.met.P.Places.ranged a.places k (omega (arith, h, c.requires.3))) (sym c.any_near.ensures ∙ c.if-any_near.false)
