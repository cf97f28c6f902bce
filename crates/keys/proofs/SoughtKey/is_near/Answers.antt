-- `SoughtKey::is_near`: by its definition.
use Rattle.std.proofs.Common.{refl}
use lib.Ieee.{of_bits, of_int}
use Rattle.keys.specs.Keys.{near}
use Rattle.keys.proofs.SoughtKey.is_near.Goals as goal

pub returns : goal.returns
unfolding near of_bits of_int
returns c = refl
