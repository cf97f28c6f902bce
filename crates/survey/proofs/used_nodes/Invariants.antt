-- `used_nodes`: its loop keeps that all numbers passed are judged, and that what is collected is all of them in the box.
use Prim.Native.Nat.{ℕ, ◌*◌}
use mathlib.Core.Path.{◌≡◌}
use mathlib.Core.Bool.{Bool}
use mathlib.Core.List.{List}
use lib.ListN.{length, take}
use lib.Ieee.{Float}
use Rattle.std.specs.List.{list_any}
use Rattle.nodes.specs.declared.nearby.RingBox.{RingBox}
use Rattle.nodes.specs.Nearby.{most_nearby}
use Rattle.survey.specs.Survey.{Gathered}
use Rattle.nodes.proofs.Passes.{off_sheet}
use Rattle.survey.proofs.used_nodes.Given as goal

-- i blocks are passed
pub record State (nodes : List Float) (old : ℕ) (w : RingBox)
    (a : List ℕ) (b : List Float) (numbers : List ℕ) (xs : List Float) (count : ℕ) (out : Bool) (i : ℕ) : Type 0 where
  pub tested : out ≡ list_any off_sheet (take (i * 16) (take (old * 2) nodes))
  pub gathered : Gathered nodes w (i * 8) a b numbers xs count
  pub long : length numbers ≡ most_nearby
  pub long_x : length xs ≡ most_nearby

abbrev pub invariant-loop-b : goal.invariant-loop-b
invariant-loop-b l = State l.nodes l.old l.w l.initial.numbers l.initial.xs l.numbers l.xs l.count l.out l.b
