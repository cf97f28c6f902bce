-- `print_ring`: its two lines and the cells are written one after the other; laws in text's Pages and in Print.
use Prim.Native.Nat.{ℕ, ◌/◌}
use mathlib.Core.List.{List}
use lib.ListN.{length}
use Rattle.std.proofs.Common.{rules}
use Rattle.text.proofs.Pages.{written-on, room-first, room-second, room-third, wrote-three}
use Rattle.report.specs.Report as Report
use Rattle.report.proofs.Lengths.{ring-text-length}
use Rattle.report.proofs.Print.{printed-cells, ring-room}
use Rattle.report.proofs.print_ring.Goals as goal

abbrev quads : List ℕ → List ℕ
quads cs = Report.quad_lines cs (length cs / 4)

pub put_ring-requires : goal.put_ring-requires
put_ring-requires c =
    let s = c.args in
    room-first (Report.ring_line s.a) (Report.nodes_line s.a.nodes s.a.added) (quads s.cells.now)
    (record { fits = ring-room s.out.now s.a s.cells.now c.if-out-lt-MOST_TEXT.false c.if-cells-gt496.false (λ i. (c.type_inv.cells i).fits) })

pub put_nodes-requires : goal.put_nodes-requires
put_nodes-requires c =
    let s = c.args in
    room-second (Report.ring_line s.a) (Report.nodes_line s.a.nodes s.a.added) (quads s.cells.now)
    (record { fits = ring-room s.out.now s.a s.cells.now c.if-out-lt-MOST_TEXT.false c.if-cells-gt496.false (λ i. (c.type_inv.cells i).fits) })
    c.put_ring.ensures

pub put_quads-requires : goal.put_quads-requires
put_quads-requires c =
    let s = c.args in
    room-third (Report.ring_line s.a) (Report.nodes_line s.a.nodes s.a.added) (quads s.cells.now)
    (record { fits = ring-room s.out.now s.a s.cells.now c.if-out-lt-MOST_TEXT.false c.if-cells-gt496.false (λ i. (c.type_inv.cells i).fits) })
    c.put_ring.ensures c.put_nodes.ensures

pub returns : goal.returns
unfolding Report.ring_text
returns c =
    let s = c.args in
    printed-cells s.out.now (Report.ring_text s.a s.cells.now) c.if-out-lt-MOST_TEXT.false
    (ring-text-length s.cells.now (λ i. (c.type_inv.cells i).fits) s.a c.if-cells-gt496.false) _ _
    (written-on (search rules)
    (wrote-three (Report.ring_line s.a) (Report.nodes_line s.a.nodes s.a.added) (quads s.cells.now)
    (record { fits = ring-room s.out.now s.a s.cells.now c.if-out-lt-MOST_TEXT.false c.if-cells-gt496.false (λ i. (c.type_inv.cells i).fits) })
    c.put_ring.ensures c.put_nodes.ensures c.put_quads.ensures))
    s.cells.now c.if-cells-gt496.false
