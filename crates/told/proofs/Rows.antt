-- What was printed where nothing is told, and the text in front of a list.
use Prim.Native.Nat.{ℕ}
use mathlib.Core.Path.{◌≡◌, refl, sym, ap, ◌∙◌}
use mathlib.Core.Bool.{true}
use mathlib.Core.List.{List, []}
use native.Mathlib.Omega.{arith}
use lib.ListN.{take}
use lib.Seq.{take_at}
use Rattle.text.specs.Text.{put}
use Rattle.report.specs.Report.{Printed}

-- no text leaves the bytes as they were
pub no_text : (t : List ℕ) → Printed true t [] 0 t
unfolding put
no_text t = record { bytes = refl; list = refl; room = omega arith }

-- a text that was printed is in front of the list
pub in_front : (l t : List ℕ) (r : ℕ) (m : List ℕ) → Printed true l t r m → take r m ≡ t
unfolding put
in_front l t r m h = ap (take r) h.list ∙ take_at t _ r (sym h.bytes)
