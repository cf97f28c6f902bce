-- `is_on_sheet`: what the range contains is told by the two comparisons with its ends.
use mathlib.Core.Path.{◌∙◌}
use mathlib.Core.Bool.{◌&&◌}
use lib.Ieee.{of_bits, neg, le}
use Rattle.laws.proofs.Ranges.{contains_is}
use Rattle.nodes.proofs.Ranged.{on_sheet-is}
use Rattle.nodes.proofs.on_sheet.is_on_sheet.Goals as goal

pub returns : goal.returns
unfolding of_bits neg
returns c =
    let x = c.args.x in
    let n = c.new.ensures in
    c.contains.ensures.value ∙ contains_is c.new.result x n.exhausted ∙ (λ i. le (n.start i) x && le x (n.end i)) ∙ on_sheet-is x
