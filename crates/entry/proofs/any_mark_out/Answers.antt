-- `any_mark_out`: the scan finds what a test of each place finds.
use mathlib.Core.Path.{◌∙◌}
use mathlib.Core.Bool.{◌||◌}
use lib.Dec.{ltb}
use lib.ListN.{take}
use Rattle.std.proofs.Common.{rules, tests}
use Rattle.std.proofs.lemmas.Iterator.{YieldsList-from_slice}
use Rattle.std.proofs.lemmas.Iterator.Consumers.{fold_from_yields_List}
use Rattle.entry.proofs.Tests.{marks_scanned}
use Rattle.entry.proofs.any_mark_out.Goals as goal

pub returns : goal.returns
returns c =
    let l = c.args.rims.now in
    let n = c.args.used in
    fold_from_yields_List _ (λ found x. found || ltb 1 x) _ _ c.fold.ensures.ran (YieldsList-from_slice (take n l) cc) (λ a x b q k. search (rules, tests))
    ∙ marks_scanned l n c.requires
