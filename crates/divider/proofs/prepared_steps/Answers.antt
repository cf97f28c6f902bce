-- `prepared_steps`: the core divides the ring that was prepared. Where no list of cells is named, one of empty cells stands for it.
use mathlib.Core.Path.{refl, sym}
use lib.ListN.{replicate, length-replicate}
use Rattle.quads.specs.Quads.{no_cell}
use Rattle.divider.proofs.Calling.{reached, can-divide}
use Rattle.divider.proofs.prepared_steps.Goals as goal

pub divide_core-requires : goal.divide_core-requires
divide_core-requires g c =
    let a = c.args in
    let cs = replicate a.room.places no_cell in
    let o = length-replicate a.room.places no_cell in
    let n = sym (c.requires.lists cs o) in
    let m = c.prepared-marked in
    let d = can-divide a.limits (g.R.Request.early a.limits a.request) _ _ a.nodes.now
    a.node_count a.rims.now a.cells.now a.room.at cs a.room n c.requires.passing m.result m.ensures o c.requires.room refl in
    (rw c.own-own.ensures d, c.requires.nearby)

pub returns : goal.returns
returns g c = λ cs o.
    let a = c.args in
    let d = rw c.own-own.ensures at c.divide_core.ensures in
    reached a.limits _ _ _ a.nodes.now a.node_count a.rims.now
    a.cells.now a.room.at cs a.room (sym c.requires.tested) (sym (c.requires.lists cs o)) _ c.prepared-marked.ensures.part _ _ _ _ d
