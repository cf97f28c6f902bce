-- `prepared`: the ring is cleaned, and its edges get the marks of the simplified chain.
use native.Mathlib.Omega.{arith}
use mathlib.Core.Path.{subst}
use mathlib.Core.List.{List}
use lib.ListN.{length}
use Rattle.vector.specs.declared.GridPoint.{GridPoint}
use Rattle.chain.specs.Stretches.{stretches_in, Simplifies}
use Rattle.marks.specs.Edges.{Marked}
use Rattle.divider.proofs.Preparing.{reads, read, prepares}
use Rattle.divider.proofs.requests.ByChainRequest.prepared.Goals as goal

pub points-own-requires : goal.points-own-requires
points-own-requires c =
    let p = (reads _ _ _ _ c.requires.1).0 in
    (p.few, omega arith, p.sheet)

pub points-run-requires : goal.points-run-requires
points-run-requires c =
    let p = (reads _ _ _ _ c.requires.1).1 in
    (p.few, omega arith, p.sheet)

pub returns : goal.returns
returns c =
    let a = c.args.self in
    let p = c.points-own in
    let g = c.clean_polygon-clean in
    let q = c.points-run in
    let s = c.simplify_chain-simplified in
    let x = c.mark_edges-edges in
    prepares a.ring.now a.chain.now a.size p.result q.result (read a.ring.now p.result p.ensures.0)
    (read a.chain.now q.result q.ensures.0) g.result g.ensures s.result (subst (λ (ps : List GridPoint). Simplifies ps s.result) c.as_slice.ensures.0 s.ensures)
    x.result (subst (λ (ps : List GridPoint). Marked (stretches_in s.result) ps (length ps) x.result) c.as_slice-2.ensures.0 x.ensures)
