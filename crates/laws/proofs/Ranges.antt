-- What `(low..=high).contains(&x)` answers of doubles: the two comparisons, each end allowed (`contains_is`).
use mathlib.Core.Path.{◌≡◌, refl}
use mathlib.Core.Bool.{Bool, true, false, ◌||◌, ◌&&◌, cond}
use lib.Ieee.{Float, le, lt, eq}
use Rattle.std.specs.Prelude.{Some, None}
use Rattle.std.specs.declared.cmp.Ordering.TheVariants.{Less, Equal, Greater}
use Rattle.std.specs.declared.ops.RangeInclusive.{RangeInclusive}
use Rattle.std.specs.Ordering.{float_partial_cmp, partial_le, is_some_and, is_le}
use Rattle.std.specs.Range.{range_inclusive_contains, range_inclusive_start, range_inclusive_end, range_inclusive_exhausted}

le_is : (x y : Float) → partial_le float_partial_cmp x y ≡ le x y
unfolding le
le_is x y = go (lt x y) (eq x y) (lt y x)
  where
    go : (a b c : Bool) → is_some_and is_le (cond a (Some Less) (cond b (Some Equal) (cond c (Some Greater) None))) ≡ (a || b)
    go true b c = refl
    go false true c = refl
    go false false true = refl
    go false false false = refl

pub contains_is : (r : RangeInclusive Float) (x : Float) → range_inclusive_exhausted r ≡ false
    → range_inclusive_contains float_partial_cmp r x ≡ (le (range_inclusive_start r) x && le x (range_inclusive_end r))
contains_is r x e = rw e (λ i. le_is (range_inclusive_start r) x i && le_is x (range_inclusive_end r) i)
