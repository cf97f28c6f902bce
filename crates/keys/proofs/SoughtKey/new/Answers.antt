use Rattle.std.proofs.Common.{refl}
use lib.Ieee.{of_bits, of_int, round}
use Rattle.keys.proofs.SoughtKey.new.Goals as goal

pub returns : goal.returns
unfolding of_bits of_int round
returns c = (refl, record { same = refl; ranged = c.requires })
