-- `add_node`: the place found is listed already, or the point is written after the used ones; laws in proofs/Adding.
use Rattle.std.proofs.Common.{◌+◌, ◌*◌, ◌≤◌, length, refl, sym, ◌∙◌, arith}
use Rattle.std.proofs.Math.ListN.{length-set}
use Rattle.nodes.specs.Nodes.{number}
use Rattle.nodes.specs.Flat.{nodes_in}
use Rattle.numbering.proofs.Adding as adding
use Rattle.laws.proofs.Search.{below-given, below-absent}
use Rattle.numbering.proofs.add_node.Goals as goal
use Rattle.numbering.proofs.add_node.Goals.{In_default}

pub returns-in-Some : goal.returns-in-Some
returns-in-Some c =
    let v = below-given _ _ _ (sym c.in-Some.is ∙ c.find_nearby.ensures) in
    adding.old c.args.nodes.now c.args.used c.in-Some.i c.args.p v.0 c.requires.0.room v.1

-- a point that is not listed has a place
new : (c : In_default) → c.args.used ≤ number (nodes_in c.args.nodes.now c.args.used) c.args.p
new c = below-absent _ _ (sym c.in_default.is ∙ c.find_nearby.ensures)

room : (c : In_default) → let a = c.args in a.used * 2 + 2 ≤ length a.nodes.now
room c = omega (arith, c.requires.2, adding.longer c.args.nodes.now c.args.used _ c.args.p refl (new c))

pub bounds-nodes-used : goal.bounds-nodes-used
bounds-nodes-used c = omega (arith, room c)

pub bounds-nodes-used-2 : goal.bounds-nodes-used-2
bounds-nodes-used-2 c = simp length-set (omega (arith, room c))

pub returns : goal.returns
returns c = adding.new c.args.nodes.now c.args.used _ c.args.p refl (room c) (new c)
