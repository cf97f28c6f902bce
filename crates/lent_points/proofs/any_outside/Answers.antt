-- `any_outside`: the pairs of numbers are the points.
use Prim.Native.Nat.{◌/◌}
use native.Mathlib.Omega.{arith}
use mathlib.Core.Path.{◌∙◌}
use mathlib.Core.List.{List}
use lib.IntN.{ℤ}
use lib.ListN.{length}
use Rattle.std.proofs.Common.{rules, tests}
use Rattle.std.proofs.lemmas.Iterator.{YieldsList-from_slice}
use Rattle.std.proofs.lemmas.Iterator.Search.{any_from_yields_List}
use Rattle.call.specs.Call.{outside}
use Rattle.call.specs.Lent.{point_in}
use Rattle.lent_points.proofs.Reading.{any-outside-pairs}
use Rattle.lent_points.proofs.any_outside.Goals as goal

pub returns : goal.returns
returns c =
    let l = c.args.l.now in
    let ps = c.as_chunks.result.0.now in
    any_from_yields_List (λ (p : List ℤ). outside (point_in p 0)) _ _ _ c.any.ensures.ran (YieldsList-from_slice ps cc) (λ x b q k. search (rules, tests))
    ∙ any-outside-pairs l (length l / 2) ps c.as_chunks.ensures.front c.as_chunks.ensures.front_len (omega arith)
