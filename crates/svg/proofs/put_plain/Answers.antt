-- `put_plain`: the exact place where it is not whole; else a minus below the origin, and the distance from it.
use Prim.Native.Nat.{◌-◌, ◌/◌}
use mathlib.Core.Path.{sym}
use mathlib.Core.List.{[], ◌∷◌}
use Rattle.text.specs.Text.{decimal}
use Rattle.text.proofs.Pages.{room_on, wrote_as, room-one, room-two, wrote-two}
use Rattle.svg.specs.Place.{origin}
use Rattle.svg.proofs.Forms.{plain-part, plain-below, plain-low, plain-high}
use Rattle.svg.proofs.put_plain.Goals as goal
use Rattle.svg.proofs.put_plain.Goals.{then-n-lt-ORIGIN, else-n-lt-ORIGIN}

pub put_exact-requires : goal.put_exact-requires
put_exact-requires c = room_on (sym (plain-part c.args.n c.if-n-ne0.true)) c.requires

pub returns-then-n-ne0 : goal.returns-then-n-ne0
returns-then-n-ne0 c = wrote_as (sym (plain-part c.args.n c.if-n-ne0.true)) c.put_exact.ensures

pub byte-requires : goal.byte-requires
byte-requires c =
    room-one (45 ∷ []) (decimal ((origin - c.args.n) / 10000))
    (room_on (sym (plain-below c.args.n c.if-n-ne0.false c.if-n-lt-ORIGIN.true)) c.requires)

pub decimal-requires : goal.decimal-requires
decimal-requires c =
    let d = c.abs_diff in
    elim c.if-n-lt-ORIGIN.branch [
      | then-n-lt-ORIGIN w ↦ rw w.page-is
          (room-two (45 ∷ []) (decimal (d.result / 10000))
          (room_on (plain-low c.args.n d.result d.ensures c.if-n-ne0.false w.if-n-lt-ORIGIN.true) c.requires) w.byte.ensures)
      | else-n-lt-ORIGIN w ↦ rw w.page-is (room_on (plain-high c.args.n d.result d.ensures c.if-n-ne0.false w.if-n-lt-ORIGIN.false) c.requires)
    ]

pub returns : goal.returns
returns c =
    let d = c.abs_diff in
    elim c.if-n-lt-ORIGIN.branch [
      | then-n-lt-ORIGIN w ↦
          let e = plain-low c.args.n d.result d.ensures c.if-n-ne0.false w.if-n-lt-ORIGIN.true in
          wrote_as e (wrote-two (45 ∷ []) (decimal (d.result / 10000)) (room_on e c.requires) w.byte.ensures (rw w.page-is at c.decimal.ensures))
      | else-n-lt-ORIGIN w ↦
          wrote_as (plain-high c.args.n d.result d.ensures c.if-n-ne0.false w.if-n-lt-ORIGIN.false) (rw w.page-is at c.decimal.ensures)
    ]
