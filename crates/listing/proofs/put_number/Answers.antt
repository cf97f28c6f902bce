-- `put_number`: spaces up to the number's length, then the number, fill 8 columns.
use Rattle.text.specs.Text.{decimal}
use Rattle.listing.proofs.Aligned.{right_aligned-wrote}
use Rattle.listing.proofs.put_number.Goals as goal

pub returns : goal.returns
returns c = right_aligned-wrote 8 c.width.result (decimal c.args.i) c.width.ensures.0 c.requires.1 c.put_spaces.ensures c.decimal.ensures
