use mathlib.Core.Path.{◌∙◌}
use Rattle.std.specs.List.{list_any}
use Rattle.std.proofs.Common.{rules, tests}
use Rattle.std.proofs.lemmas.Iterator.Adapters.{serves_from_places}
use Rattle.std.proofs.lemmas.Iterator.{YieldsList-from_slice}
use Rattle.std.proofs.lemmas.Iterator.Search.{any_from_yields_List}
use Rattle.segments.specs.Meeting.{strictly_between}
use Rattle.obstacles.proofs.Blocking as blocking
use Rattle.obstacles.proofs.runs_over.Goals as goal

pub any-requires-clause-callable : goal.any-requires-clause-callable
any-requires-clause-callable c =
    let r = c.args.part.now in
    serves_from_places (YieldsList-from_slice r cc) (λ x f h. search rules)
    (λ x k l e. let p = blocking.on_sheet r c.requires.0.points k l x.now e in search rules)

pub returns : goal.returns
returns c =
    let r = c.args.part.now in
    let d = c.new-diagonal in
    any_from_yields_List (strictly_between d.result.a d.result.b) _ _ c.any.result c.any.ensures.ran
    (YieldsList-from_slice r cc) (λ x b q k. search (rules, tests))
    ∙ (λ i. list_any (strictly_between (d.ensures.0 i) (d.ensures.1 i)) r)
    ∙ blocking.over r c.args.k c.requires.1
