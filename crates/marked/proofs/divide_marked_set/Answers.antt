-- `divide_marked_set`: the request's marks are those given.
use Rattle.call.specs.Lent.{all_cells}
use Rattle.call.specs.Marked.{LentMarked, lent_marked}
use Rattle.given_tests.specs.Lent.{lent_in}
use Rattle.divider.proofs.Calling.{cell-places}
use Rattle.marked.proofs.Calling.{by_marks}
use Rattle.marked.proofs.divide_marked_set.Goals as goal

pub returns : goal.returns
returns c =
    let a = c.args in
    let l : LentMarked = lent_marked a.ring.now (lent_in a.marking) a.size a.nodes.now a.node_count a.rims.now a.cells.now a.cell_count in
    by_marks a.limits l _ _ _ _ (c.divide_request.ensures (all_cells l.cells) (cell-places l.cells))
