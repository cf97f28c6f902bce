use Rattle.std.proofs.Common.{rules, tests, ◌≡◌, ◌∙◌, take, arith}
use lib.Seq.{length-take-le}
use Rattle.std.proofs.lemmas.Iterator.{YieldsList-from_slice}
use Rattle.std.proofs.lemmas.Iterator.Consumers.{count_from_yields_List, YieldsList-from_filter}
use Rattle.std.proofs.lemmas.List.Sums.{length-filter, count_by-le-length}
use Rattle.std.specs.List.{count_by}
use Rattle.marks.proofs.Edges.{snapped, counted}
use Rattle.marks.proofs.mark_count.Goals as goal

pub returns : goal.returns
returns c =
    let r = c.args.ring.now in
    let l = take r.ring.count r.edges in
    let n : c.count.result ≡ count_by snapped l =
    count_from_yields_List c.filter.result _ c.count.ensures.ran
    (YieldsList-from_filter _ snapped (YieldsList-from_slice l cc) c.filter.ensures.closure (λ x b q k. search (rules, tests)))
    ∙ length-filter snapped l in
    let few = count_by-le-length snapped l in
    let long = length-take-le r.ring.count r.edges (omega (arith, c.requires.marks, c.requires.ring.count)) in
    (n ∙ counted l, omega (arith, n, few, long))
