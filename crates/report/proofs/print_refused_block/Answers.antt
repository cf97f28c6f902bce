-- `print_refused_block`: the list holds its line, whatever the numbers.
use Rattle.text.specs.Text.{bytes}
use Rattle.report.specs.Report as Report
use Rattle.report.proofs.Lengths.{refused-block-length}
use Rattle.report.proofs.print_refused_block.Goals as goal

pub print_form-requires : goal.print_form-requires
unfolding Report.refused_block bytes
print_form-requires c = let s = c.args in refused-block-length s.block s.code
