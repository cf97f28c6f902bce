-- A set of limits that 15 does not refuse has at most 32 cuts (`most-cuts`), which is all that the proofs ask of a set. The set on delivery is taken
-- (`delivered-taken`), and so is that of the practice paper (`practice-taken`).
use Prim.Native.Nat.{◌≤◌}
use mathlib.Core.Path.{◌≡◌, refl}
use mathlib.Core.Bool.{false, not, ◌||◌}
use lib.Dec.{ltb}
use lib.Ieee.{of_int, round, add, sub, div, neg, sum, lt, le}
use borrow.Author.Tests.{ltb-false}
use Rattle.laws.specs.Double.{nat, lit}
use Rattle.laws.proofs.Booleans.{neither}
use Rattle.limits.specs.declared.Limits.{Limits}
use Rattle.limits.specs.Limits.{delivered}
use Rattle.limits.specs.Sets.{between, cosines_out, limits_out, practice_set}

pub most-cuts : (L : Limits) → limits_out L ≡ false → L.cuts ≤ 32
unfolding limits_out
most-cuts L e =
    let a = ltb 32 L.cuts in
    let b = not (between (nat 1) (nat 2) L.corner) in
    let c = cosines_out L.least L.greatest in
    ltb-false 32 L.cuts (neither a b (neither (a || b) c (neither (a || b || c) (not (between (nat 0) (nat 1) L.share)) e).0).0).0

pub delivered-taken : limits_out delivered ≡ false
unfolding limits_out cosines_out between lit of_int round add sub div neg sum lt le
delivered-taken = refl

pub practice-taken : limits_out practice_set ≡ false
unfolding limits_out cosines_out between lit of_int round add sub div neg sum lt le
practice-taken = refl
