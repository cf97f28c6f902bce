-- `node_sheet`: each return is one line of Card 9's table: 3, 17 or the lines.
use mathlib.Core.Path.{sym, ◌∙◌}
use native.Mathlib.Omega.{arith}
use Rattle.listing.proofs.Tests.{usable, refused_3, refused_17, written}
use Rattle.listing.proofs.node_sheet.Goals as goal

pub returns-then-nodes_out : goal.returns-then-nodes_out
returns-then-nodes_out c =
    let s = c.args in
    refused_3 s.nodes.now s.node_count s.out.now (sym c.nodes_out.ensures ∙ c.if-nodes_out.true)

pub overflow_mul-node_count : goal.overflow_mul-node_count
overflow_mul-node_count c =
    let s = c.args in
    let u = usable s.nodes.now s.node_count (sym c.nodes_out.ensures ∙ c.if-nodes_out.false) in
    omega (arith, u.few)

pub returns-then-out-node_count : goal.returns-then-out-node_count
returns-then-out-node_count c =
    let s = c.args in
    refused_17 s.nodes.now s.node_count s.out.now (sym c.nodes_out.ensures ∙ c.if-nodes_out.false) c.if-out-node_count.true

pub put_lines-requires : goal.put_lines-requires
put_lines-requires c =
    let s = c.args in
    (usable s.nodes.now s.node_count (sym c.nodes_out.ensures ∙ c.if-nodes_out.false), c.if-out-node_count.false)

pub returns : goal.returns
returns c =
    let s = c.args in
    let p = c.put_lines in
    written s.nodes.now s.node_count s.out.now
    (sym c.nodes_out.ensures ∙ c.if-nodes_out.false)
    c.if-out-node_count.false p.result p.new.out p.ensures
