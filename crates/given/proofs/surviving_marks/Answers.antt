-- `surviving_marks`: those left with the outline that was read.
use Rattle.given_tests.specs.Lent.{lent_in}
use Rattle.given.proofs.Laying.{survive}
use Rattle.given.proofs.surviving_marks.Goals as goal

pub returns : goal.returns
returns c =
    survive c.args.ring.now c.args.clean.now
    (lent_in c.args.marking) c.lead_line.result c.requires.0 c.lead_line.ensures c.marks_left.result c.marks_left.ensures
