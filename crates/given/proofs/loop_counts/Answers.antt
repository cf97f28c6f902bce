-- `loop_counts`: each loop's count is at its place.
use Rattle.std.proofs.Common.{length, ◌∙◌, rules, tests, arith}
use lib.ListN.{get_or, take}
use lib.Seq.{get_or-take, length-take-le}
use Rattle.std.proofs.lemmas.List.{ext_get_or}
use Rattle.laws.proofs.Made.{made_of}
use Rattle.given.proofs.loop_counts.Goals as goal

pub returns : goal.returns
returns c =
    let l = c.from_fn.result in
    let ms = c.args.loops.now in
    let n = length ms in
    let k = c.from_fn.ensures.items in
    let many = length-take-le n l (omega (arith, k.long, c.requires)) in
    ext_get_or 0 (take n l) ms many
    (λ i h. get_or-take n l i 0 (omega (arith, many))
    ∙ made_of l (λ i. get_or ms i 0) (λ i y q k. search (rules, tests)) 20 k i 0 (omega (arith, many, c.requires)))
