-- `ten_thousandths`: the fields of the double are those of proofs/Value.
use Prim.Native.Nat.{ℕ, suc, ◌+◌, ◌-◌, ◌*◌, ◌^◌, ◌≤◌}
use mathlib.Core.Path.{◌≡◌, sym, ap, ◌∙◌, subst}
use native.Mathlib.Omega.{arith}
use lib.Dec.{T}
use lib.Ieee.{binary64, fits}
use Rattle.laws.proofs.Between.{within_real}
use Rattle.decimals.specs.Rounded.{half_even}
use Rattle.decimals.proofs.Value.{field, digits, low_field, field-le, high-field}
use Rattle.decimals.proofs.ten_thousandths.Goals as goal
use Rattle.decimals.proofs.ten_thousandths.Goals.{Else-f-lt1008, Start}

-- what owning an `f64` tells: the format holds it
own : (c : Start) → T (fits binary64 c.args.x)
own c = subst T (sym c.well_formed.0.1) tt

-- from the field 1008 on
next : (f : ℕ) → 1008 ≤ f → f ≡ suc (f - 1)
next f h = omega arith

most : (c : Else-f-lt1008) → field c.args.x - 1 ≤ 1032
most c = field-le c.args.x (own c.before) c.requires (field c.args.x - 1) (next (field c.args.x) c.if-f-lt1008.false)

pub float_to_bits-b : goal.float_to_bits-b
float_to_bits-b c = within_real 1024 c.args.x c.requires

pub returns-then-f-lt1008 : goal.returns-then-f-lt1008
returns-then-f-lt1008 c = low_field c.args.x (own (goal.at.returns-then-f-lt1008 c).Start) c.if-f-lt1008.true

pub overflow_sub-f : goal.overflow_sub-f
overflow_sub-f c = omega (arith, most c)

pub returns : goal.returns
returns c =
    let x = c.args.x in
    let e = next (field x) c.if-f-lt1008.false in
    c.half_even.ensures
    ∙ ap (λ (z : ℕ). half_even ((2 ^ 52 + digits x) * 625) (2 ^ z)) (over (field x) c.if-f-lt1008.false)
    ∙ high-field x (own (goal.at.returns c).Start) c.requires (field x - 1) e
  where
    over : (f : ℕ) → 1008 ≤ f → 1071 - f ≡ 1070 - (f - 1)
    over f h = omega arith
