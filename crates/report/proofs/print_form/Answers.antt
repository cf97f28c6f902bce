-- `print_form`: the form filled with the numbers, where the text has room.
use Rattle.std.proofs.Common.{rules}
use Rattle.text.specs.Text.{filled}
use Rattle.text.proofs.Pages.{written-on}
use Rattle.report.proofs.Print.{has_room, printed}
use Rattle.report.proofs.print_form.Goals as goal

pub filled-requires : goal.filled-requires
filled-requires c =
    let s = c.args in
    record { fits = has_room s.out.now (filled s.form.now s.numbers.now) c.if-out-lt-MOST_TEXT.false c.requires }

pub returns : goal.returns
returns c =
    let s = c.args in
    printed s.out.now (filled s.form.now s.numbers.now) c.if-out-lt-MOST_TEXT.false c.requires _ _ (written-on (search rules) c.filled.ensures)
