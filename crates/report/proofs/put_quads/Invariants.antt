-- `put_quads`, the loop's invariant: the first cells are written.
use Rattle.text.specs.Page.{Wrote}
use Rattle.report.specs.Report as Report
use Rattle.report.proofs.put_quads.Given as goal

abbrev pub invariant-loop-a : goal.invariant-loop-a
invariant-loop-a l = Wrote l.initial.page (Report.quad_lines l.cells l.a-index) l.page
