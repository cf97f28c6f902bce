-- `line`: the number, x, y and the line feed, one after the other.
use Prim.Native.Nat.{ℕ, ◌+◌, ◌*◌}
use mathlib.Core.List.{List, [], ◌∷◌, ◌++◌}
use lib.ListN.{get_or}
use lib.Ieee.{Float, nan}
use Rattle.text.specs.Text.{decimal}
use Rattle.text.proofs.Pages.{room-one, room-two, wrote-two, room-first, room-second, room-third, wrote-three}
use Rattle.decimals.specs.Shown.{shown}
use Rattle.listing.specs.Sheet.{right_aligned, line}
use Rattle.listing.proofs.line.Goals as goal

abbrev number : ℕ → List ℕ
number i = right_aligned 8 (decimal i)

abbrev coordinate : List Float → ℕ → List ℕ
coordinate l k = right_aligned 28 (shown (get_or l k nan))

pub put_number-requires : goal.put_number-requires
unfolding line
put_number-requires c =
    let i = c.args.i in
    let n = number i in
    let x = coordinate c.args.nodes.now (i * 2) in
    let y = coordinate c.args.nodes.now (i * 2 + 1) in
    (c.requires.0, room-first n x y (room-one (n ++ x ++ y) (10 ∷ []) c.requires.4))

pub put_coordinate-requires : goal.put_coordinate-requires
unfolding line
put_coordinate-requires c =
    let i = c.args.i in
    let n = number i in
    let x = coordinate c.args.nodes.now (i * 2) in
    let y = coordinate c.args.nodes.now (i * 2 + 1) in
    (c.requires.2, room-second n x y (room-one (n ++ x ++ y) (10 ∷ []) c.requires.4) c.put_number.ensures)

pub put_coordinate-requires-2 : goal.put_coordinate-requires-2
unfolding line
put_coordinate-requires-2 c =
    let i = c.args.i in
    let n = number i in
    let x = coordinate c.args.nodes.now (i * 2) in
    let y = coordinate c.args.nodes.now (i * 2 + 1) in
    (c.requires.3, room-third n x y (room-one (n ++ x ++ y) (10 ∷ []) c.requires.4) c.put_number.ensures c.put_coordinate.ensures)

pub byte-requires : goal.byte-requires
unfolding line
byte-requires c =
    let i = c.args.i in
    let n = number i in
    let x = coordinate c.args.nodes.now (i * 2) in
    let y = coordinate c.args.nodes.now (i * 2 + 1) in
    room-two (n ++ x ++ y) (10 ∷ []) c.requires.4
    (wrote-three n x y (room-one (n ++ x ++ y) (10 ∷ []) c.requires.4) c.put_number.ensures c.put_coordinate.ensures c.put_coordinate-2.ensures)

pub returns : goal.returns
unfolding line
returns c =
    let i = c.args.i in
    let n = number i in
    let x = coordinate c.args.nodes.now (i * 2) in
    let y = coordinate c.args.nodes.now (i * 2 + 1) in
    wrote-two (n ++ x ++ y) (10 ∷ []) c.requires.4
    (wrote-three n x y (room-one (n ++ x ++ y) (10 ∷ []) c.requires.4) c.put_number.ensures c.put_coordinate.ensures c.put_coordinate-2.ensures)
    c.byte.ensures
