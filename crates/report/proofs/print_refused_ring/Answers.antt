-- `print_refused_ring`: the list holds its line, whatever the numbers.
use Rattle.text.specs.Text.{bytes}
use Rattle.report.specs.Report as Report
use Rattle.report.proofs.Lengths.{refused-ring-length}
use Rattle.report.proofs.print_refused_ring.Goals as goal

pub print_form-requires : goal.print_form-requires
unfolding Report.refused_ring bytes
print_form-requires c = let s = c.args in refused-ring-length s.ring s.code s.corners s.k
