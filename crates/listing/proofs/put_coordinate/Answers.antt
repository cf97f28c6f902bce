-- `put_coordinate`: spaces up to the text's length, then the text, fill 28 columns.
use mathlib.Core.Path.{◌≡◌, ap}
use mathlib.Core.Bool.{Bool}
use mathlib.Core.List.{List}
use Prim.Native.Nat.{ℕ}
use lib.Ieee.{Float}
use Rattle.text.proofs.Pages.{room_on, wrote_as}
use Rattle.decimals.specs.Rounded.{ten_thousandths, minus}
use Rattle.decimals.specs.Shown.{decimals, shown}
use Rattle.listing.specs.Sheet.{right_aligned}
use Rattle.listing.proofs.Aligned.{right_spaces, right_room, right_aligned-wrote}
use Rattle.listing.proofs.put_coordinate.Goals as goal

same : (x : Float) (m : Bool) (n : ℕ) → m ≡ minus x → n ≡ ten_thousandths x → decimals m n ≡ shown x
unfolding shown
same x m n e f = λ j. decimals (e j) (f j)

right_aligned-same : (x : Float) (m : Bool) (n : ℕ) → m ≡ minus x → n ≡ ten_thousandths x → right_aligned 28 (decimals m n) ≡ right_aligned 28 (shown x)
right_aligned-same x m n e f = ap (λ (t : List ℕ). right_aligned 28 t) (same x m n e f)

pub put_spaces-requires : goal.put_spaces-requires
put_spaces-requires c =
    let d = c.of-d.result in
    right_spaces 28 c.columns.result (decimals d.minus d.parts) c.columns.ensures.0
    (room_on (right_aligned-same c.args.x d.minus d.parts c.of-d.ensures.0 c.of-d.ensures.1) c.requires.1)

pub put-requires : goal.put-requires
put-requires c =
    let d = c.of-d.result in
    right_room 28 c.columns.result (decimals d.minus d.parts) c.columns.ensures.0
    (room_on (right_aligned-same c.args.x d.minus d.parts c.of-d.ensures.0 c.of-d.ensures.1) c.requires.1) c.put_spaces.ensures

pub returns : goal.returns
returns c =
    let d = c.of-d.result in
    wrote_as (right_aligned-same c.args.x d.minus d.parts c.of-d.ensures.0 c.of-d.ensures.1)
    (right_aligned-wrote 28 c.columns.result (decimals d.minus d.parts) c.columns.ensures.0
    (room_on (right_aligned-same c.args.x d.minus d.parts c.of-d.ensures.0 c.of-d.ensures.1) c.requires.1) c.put_spaces.ensures c.put.ensures)
