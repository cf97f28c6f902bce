-- `divide_with`: the request's marks come from the chain.
use Rattle.call.specs.Lent.{LentRecords, lent}
use Rattle.divider.proofs.Calling.{by_chain}
use Rattle.divider.proofs.divide_with.Goals as goal

pub returns : goal.returns
returns c = λ cs o.
    let a = c.args in
    let l : LentRecords = lent a.ring.now a.chain.now a.size a.nodes.now a.node_count a.rims.now cs a.room.used in
    by_chain a.limits l a.cells.now a.room.at _ _ _ _ (c.divide_request.ensures cs o)
