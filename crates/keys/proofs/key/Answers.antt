-- `key`: the library's rounding is the key's, and what it answers is whole, so the cast takes nothing away.
use Rattle.std.proofs.Common.{◌≡◌, ◌≤◌, true, false, T, ℤ, pos, nat_abs, sym, ap, ◌∙◌, subst, lit<, lit≤, w64}
use Rattle.std.specs.Float.{float_round}
use lib.Ieee.{Float, of_bits, binary64, mul, le, lt, fin, to_signed}
use mir.ValLaws.{to_z-of_z}
use Rattle.laws.specs.Within.{Within}
use Rattle.keys.proofs.Nearest.{round-within, cut-asks}
use Rattle.keys.proofs.Rounding.{e8, key-is, key-small, scaled_1025}
use Rattle.keys.proofs.key.Goals as goal

-- the rounded number is within what the cast takes
asks : (x r : Float) → Within 1025 x → r ≡ float_round binary64 (mul binary64 x e8) → T (le (fin true 1 (pos 63)) r) × T (lt r (fin false 1 (pos 63)))
asks x r w e =
    cut-asks 102500000000 r (lit< tt)
    (subst (Within 102500000000) (sym e) (round-within 102500000000 (mul binary64 x e8) (lit≤ tt) (scaled_1025 x w)).1)

pub truncating_f64_to_i64-requires-clause-lower_bound : goal.truncating_f64_to_i64-requires-clause-lower_bound
unfolding of_bits
truncating_f64_to_i64-requires-clause-lower_bound c = (asks c.args.x c.round.result c.requires c.round.ensures).0

pub truncating_f64_to_i64-requires-clause-upper_bound : goal.truncating_f64_to_i64-requires-clause-upper_bound
unfolding of_bits
truncating_f64_to_i64-requires-clause-upper_bound c = (asks c.args.x c.round.result c.requires c.round.ensures).1

pub returns : goal.returns
unfolding of_bits
returns c =
    let x = c.args.x in
    let t = c.truncating_f64_to_i64 in
    let y = mul binary64 x e8 in
    let r = round-within 102500000000 y (lit≤ tt) (scaled_1025 x c.requires) in
    let q = to_z-of_z w64 t.result (record { sfits = t.type_inv }) ∙ t.ensures ∙ ap (to_signed 63) c.round.ensures ∙ r.0 ∙ key-is x in
    (q, subst (λ (u : ℤ). nat_abs u ≤ 102500000000) (sym q) (key-small x c.requires))
