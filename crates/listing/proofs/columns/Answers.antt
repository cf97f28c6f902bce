-- `columns`: the whole part's digits, the point, four decimals and the minus.
use Prim.Native.Nat.{ℕ, ◌+◌, ◌/◌, ◌≤◌}
use mathlib.Core.Path.{◌≡◌}
use mathlib.Core.Bool.{Bool, true, false}
use native.Mathlib.Omega.{arith}
use mir.Val.{bool_byte}
use lib.ListN.{length}
use Rattle.text.specs.Text.{decimal}
use Rattle.decimals.specs.Shown.{decimals}
use Rattle.decimals.proofs.Texts.{decimals-long}
use Rattle.listing.proofs.columns.Goals as goal

counted : (m : Bool) (n w b : ℕ) → w ≡ length (decimal (n / 10000)) → w ≤ 20 → b ≡ bool_byte m → (w + 5 + b ≡ length (decimals m n)) × (w + 5 + b ≤ 26)
counted true n w b e l d = (omega (arith, decimals-long true n), omega arith)
counted false n w b e l d = (omega (arith, decimals-long false n), omega arith)

pub returns : goal.returns
returns c = counted c.args.d.minus c.args.d.parts c.width.result c.from.result c.width.ensures.0 c.width.ensures.1 c.from.ensures
