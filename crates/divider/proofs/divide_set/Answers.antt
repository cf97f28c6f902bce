-- `divide_set`: it is the call with the set that came, its cells written where they were lent.
use Rattle.call.specs.Lent.{all_cells, Lent, lent}
use Rattle.divider.proofs.Calling.{own_promise, cell-places}
use Rattle.divider.proofs.divide_set.Goals as goal

pub returns : goal.returns
returns c =
    let a = c.args in
    let l : Lent = lent a.ring.now a.chain.now a.size a.nodes.now a.node_count a.rims.now a.cells.now a.cell_count in
    own_promise a.limits l _ _ _ _ (c.divide_with.ensures (all_cells l.cells) (cell-places l.cells))
