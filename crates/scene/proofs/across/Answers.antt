-- `across`: the cells are looked through from the last.
use mathlib.Core.Path.{ap, ◌∙◌}
use Rattle.std.proofs.Common.{rules, tests}
use Rattle.std.proofs.lemmas.Iterator.Adapters.{YieldsList-from_rev_slice}
use Rattle.std.proofs.lemmas.Iterator.Search.{find_from_yields_List}
use Rattle.scene.proofs.Cells.{wanted, its-corner, corner_of, across-last}
use Rattle.scene.proofs.across.Goals as goal

pub returns : goal.returns
returns c =
    let a = c.args in
    let k = c.as_chunks in
    its-corner c.map_or.result c.find-last.result c.map_or.ensures (λ x p. search (rules, tests))
    ∙ ap corner_of
    (find_from_yields_List (wanted a.c a.m) _ _ _ c.find-last.ensures.ran (YieldsList-from_rev_slice k.result.0.now (cc)) (λ x b q z. search (rules, tests)))
    ∙ across-last a.c a.m a.cells.now k.result.0.now k.ensures.front k.ensures.front_len
