-- Whether all the numbers are on the sheet, as a pass by blocks finds it out.
use Prim.Native.Nat.{ℕ, ◌≤◌}
use mathlib.Core.Path.{◌≡◌, ◌∙◌}
use mathlib.Core.Bool.{Bool, false, not, ◌||◌}
use mathlib.Core.List.{List}
use lib.ListN.{length, take, drop}
use lib.Ieee.{Float}
use Rattle.std.specs.List.{fold, list_any}
use Rattle.nodes.specs.Flat.{all_on_sheet}
use Rattle.nodes.proofs.Ranged.{front_on_sheet}
use Rattle.nodes.proofs.Passes.{off_sheet, whole}

-- of the first k: those before the place n, and the rest
pub told : (l : List Float) (k n : ℕ) (b c : Bool) → k ≤ length l → b ≡ list_any off_sheet (take n (take k l))
    → c ≡ fold (λ b x. b || off_sheet x) false (drop n (take k l)) → not (b || c) ≡ all_on_sheet l k
told l k n b c h e f = whole (take k l) n b c e f ∙ front_on_sheet l k h
