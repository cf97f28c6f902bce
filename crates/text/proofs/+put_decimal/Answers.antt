-- `put_decimal`: the digits before the last are there where the number has ten or more.
use Prim.Native.Nat.{◌+◌, ◌/◌, ◌%◌, ◌≤◌}
use mathlib.Core.Path.{◌≡◌, refl, ap}
use mathlib.Core.List.{[], ◌∷◌, ◌++◌}
use native.Mathlib.Omega.{arith}
use lib.ListN.{length}
use Rattle.text.specs.Text.{decimal}
use Rattle.text.proofs.Writing.{written_as, shorter, join, room}
use Rattle.text.proofs.Decimal.{one-digit, more-digits}
use Rattle.text.proofs.+put_decimal.Goals as goal

pub put_byte-requires : goal.put_byte-requires
put_byte-requires t c =
    let e : 1 ≡ length (decimal c.args.n) = ap length (one-digit c.args.n (48 + c.args.n) c.if-n-lt10.true refl) in
    omega (arith, c.requires, e)

pub returns-then-n-lt10 : goal.returns-then-n-lt10
returns-then-n-lt10 t c = written_as (one-digit c.args.n c.digit.result c.if-n-lt10.true c.digit.ensures) c.put_byte.ensures

pub put_decimal-next-requires : goal.put_decimal-next-requires
put_decimal-next-requires t c =
    let n = c.args.n in
    let e = more-digits n (48 + n % 10) c.if-n-lt10.false c.ranges.n.fits refl in
    (omega (arith, c.decreases), shorter c.args.at (length c.args.out.now) (decimal (n / 10)) ((48 + n % 10) ∷ []) (rw e c.requires))

pub put_byte-requires-2 : goal.put_byte-requires-2
put_byte-requires-2 t c =
    let n = c.args.n in
    let d = c.digit-2 in
    let e = more-digits n d.result c.if-n-lt10.false c.ranges.n.fits d.ensures in
    let f : c.args.at + length (decimal (n / 10) ++ (d.result ∷ [])) ≤ length c.args.out.now = rw e c.requires in
    let h = room c.args.out.now c.args.at (decimal (n / 10)) (d.result ∷ []) f c.put_decimal-next.ensures in
    omega (arith, h)

pub returns : goal.returns
returns t c =
    let n = c.args.n in
    let d = c.digit-2 in
    let e = more-digits n d.result c.if-n-lt10.false c.ranges.n.fits d.ensures in
    let f : c.args.at + length (decimal (n / 10) ++ (d.result ∷ [])) ≤ length c.args.out.now = rw e c.requires in
    written_as e
    (join c.args.out.now c.args.at (decimal (n / 10)) (d.result ∷ []) f c.put_decimal-next.ensures c.put_byte-2.ensures)
