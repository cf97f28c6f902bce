-- `put`: each slot in its way, of the next number; any other byte as itself.
use mathlib.Core.Path.{sym, ap, ◌∙◌}
use native.Mathlib.Omega.{arith}
use lib.ListN.{get_or}
use Rattle.std.specs.Slice.Iter.{iter_rest}
use Rattle.text.specs.Text.{decimal}
use Rattle.text.proofs.Pages.{room_on, wrote_as}
use Rattle.svg.specs.Form.{exact, plain}
use Rattle.svg.proofs.Forms.{stands_for-number, stands_for-exact, stands_for-plain, stands_for-byte}
use Rattle.svg.proofs.PlaceSlotsSlots.put.Goals as goal

pub decimal-requires : goal.decimal-requires
decimal-requires c =
    let n = get_or (iter_rest c.args.numbers.now) 0 0 in
    room_on (ap decimal c.next_number.ensures.next ∙ sym (stands_for-number c.args.b n c.in-35.is)) c.requires

pub returns-in-35-clause-written : goal.returns-in-35-clause-written
returns-in-35-clause-written c =
    let n = get_or (iter_rest c.args.numbers.now) 0 0 in
    wrote_as (ap decimal c.next_number.ensures.next ∙ sym (stands_for-number c.args.b n c.in-35.is)) c.decimal.ensures

pub put_exact-requires : goal.put_exact-requires
put_exact-requires c =
    let n = get_or (iter_rest c.args.numbers.now) 0 0 in
    room_on (ap exact c.next_number-in-64.ensures.next ∙ sym (stands_for-exact c.args.b n (λ h. omega (arith, h, c.in-64.is)) c.in-64.is)) c.requires

pub returns-in-64-clause-written : goal.returns-in-64-clause-written
returns-in-64-clause-written c =
    let n = get_or (iter_rest c.args.numbers.now) 0 0 in
    wrote_as (ap exact c.next_number-in-64.ensures.next ∙ sym (stands_for-exact c.args.b n (λ h. omega (arith, h, c.in-64.is)) c.in-64.is)) c.put_exact.ensures

pub put_plain-requires : goal.put_plain-requires
put_plain-requires c =
    let n = get_or (iter_rest c.args.numbers.now) 0 0 in
    room_on (ap plain c.next_number-in-126.ensures.next
    ∙ sym (stands_for-plain c.args.b n (λ h. omega (arith, h, c.in-126.is)) (λ h. omega (arith, h, c.in-126.is)) c.in-126.is)) c.requires

pub returns-in-126-clause-written : goal.returns-in-126-clause-written
returns-in-126-clause-written c =
    let n = get_or (iter_rest c.args.numbers.now) 0 0 in
    wrote_as (ap plain c.next_number-in-126.ensures.next
    ∙ sym (stands_for-plain c.args.b n (λ h. omega (arith, h, c.in-126.is)) (λ h. omega (arith, h, c.in-126.is)) c.in-126.is)) c.put_plain.ensures

pub byte-requires : goal.byte-requires
byte-requires c =
    let n = get_or (iter_rest c.args.numbers.now) 0 0 in
    room_on (sym (stands_for-byte c.args.b n (λ h. omega (arith, h)) (λ h. omega (arith, h)) (λ h. omega (arith, h)))) c.requires

pub returns-in_default-clause-written : goal.returns-in_default-clause-written
returns-in_default-clause-written c =
    let n = get_or (iter_rest c.args.numbers.now) 0 0 in
    wrote_as (sym (stands_for-byte c.args.b n (λ h. omega (arith, h)) (λ h. omega (arith, h)) (λ h. omega (arith, h)))) c.byte.ensures
