-- `write`: each four numbers are a cell, which goes to its place.
use Prim.Native.Nat.{◌+◌, ◌/◌, ◌<◌}
use Rattle.std.proofs.Common.{add-one}
use native.Mathlib.Omega.{arith}
use mathlib.Core.Path.{◌≡◌, sym, ap, ◌∙◌}
use lib.ListN.{length, take, set, length-set}
use lib.Seq.{length-take-le}
use borrow.Author.Rules.{rules}
use Rattle.call.specs.Lent.{cell_in}
use Rattle.cell_records.specs.Records.{written}
use Rattle.cell_records.proofs.Fours.{four_among}
use Rattle.cell_records.proofs.write.Goals as goal
use Rattle.cell_records.proofs.write.Goals.{After-as_chunks}

-- there are fours for 124 cells, and as many are read as cells are written
many : (c : After-as_chunks) → length c.args.laid.now.numbers ≡ 496
many c = search rules

taken : (c : After-as_chunks) → length (take c.args.laid.now.count c.as_chunks.result.0.now) ≡ c.args.laid.now.count
taken c =
    let f : length c.as_chunks.result.0.now ≡ length c.args.laid.now.numbers / 4 = c.as_chunks.ensures.front_len in
    length-take-le c.args.laid.now.count c.as_chunks.result.0.now (omega (arith, f, many c, c.requires.0))

pub loop-k-preserved : goal.loop-k-preserved
loop-k-preserved c =
    let o = c.loop-k in
    let s = (goal.at.loop-k-preserved c).After-as_chunks in
    let l = c.args.laid.now.numbers in
    let n = c.args.laid.now.count in
    let b : o.k < n = omega (arith, c.loop-k-test.true, taken s) in
    let e : c.from.result ≡ cell_in l o.k =
    ap (λ f. cell_in f 0) (sym c.from.ensures)
    ∙ four_among l (length l / 4) n o.k c.as_chunks.result.0.now c.as_chunks.ensures.front (omega (arith, many s, c.requires.0)) b in
    let w : set o.cells (c.args.laid.now.at + o.k) c.from.result ≡ written c.args.cells.now c.args.laid.now.at l (o.k + 1) =
    rw add-one (λ j. set (o.invariant.2 j) (c.args.laid.now.at + o.k) (e j)) in
    (omega (arith, b), length-set o.cells (c.args.laid.now.at + o.k) c.from.result ∙ o.invariant.1, w)
