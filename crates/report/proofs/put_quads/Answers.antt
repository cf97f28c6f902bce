-- `put_quads`: a turn writes the line of one cell.
use Prim.Native.Nat.{◌/◌}
use mathlib.Core.Path.{refl}
use native.Mathlib.Omega.{arith}
use lib.ListN.{length}
use Rattle.text.specs.Text.{bytes}
use Rattle.text.proofs.Pages.{room_on, wrote_as, wrote_none, room-turn, wrote-turn}
use Rattle.report.specs.Report as Report
use Rattle.report.proofs.Quads.{line-of}
use Rattle.report.proofs.put_quads.Goals as goal

pub loop-a-init : goal.loop-a-init
unfolding Report.quad_lines
loop-a-init c = wrote_none c.args.page.now (record { fits = omega (arith, c.requires.fits) })

pub filled-requires : goal.filled-requires
unfolding Report.quad_lines bytes
filled-requires c =
    let s = c.args in
    room_on
    (line-of s.cells.now c.as_chunks.result.0.now c.as_chunks.ensures.front c.loop-a.a-index
    (omega (arith, c.loop-a-test.true, c.as_chunks.ensures.front_len)) _ _ _ _ c.from.ensures c.from-in-loop-a.ensures
    c.from-in-loop-a-2.ensures c.from-in-loop-a-3.ensures)
    (room-turn (Report.quad_lines s.cells.now) (Report.quad_line s.cells.now) (λ i. refl) (length s.cells.now / 4) c.requires
    (omega (arith, c.loop-a-test.true, c.as_chunks.ensures.front_len)) c.loop-a.invariant)

pub loop-a-preserved : goal.loop-a-preserved
unfolding Report.quad_lines bytes
loop-a-preserved c =
    let s = c.args in
    wrote-turn (Report.quad_lines s.cells.now) (Report.quad_line s.cells.now) (λ i. refl) (length s.cells.now / 4) c.requires
    (omega (arith, c.loop-a-test.true, c.as_chunks.ensures.front_len)) c.loop-a.invariant
    (wrote_as
    (line-of s.cells.now c.as_chunks.result.0.now c.as_chunks.ensures.front c.loop-a.a-index
    (omega (arith, c.loop-a-test.true, c.as_chunks.ensures.front_len)) _ _ _ _ c.from.ensures c.from-in-loop-a.ensures
    c.from-in-loop-a-2.ensures c.from-in-loop-a-3.ensures)
    c.filled.ensures)
