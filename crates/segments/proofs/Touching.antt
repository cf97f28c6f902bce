-- THEOREM `never_both`. For points on the sheet no pair of segments is both touching, by exact whole numbers, and crossing, by the doubles:
-- an end on the other segment makes the numerator of a parameter 0 or the denominator, and the double quotient is exactly 0 or 1.
-- THEOREMS `told-touching`, `told-crossing`, `told-apart`. So each of the three answers is given where its own test holds.
-- THEOREMS `first-end`, `second-end`. An end is never strictly between the ends, nor is a corner that lies where an end does.
use Prim.Native.Nat.{ℕ, zero, suc, ◌*◌, ◌^◌, ◌≤◌, ◌<◌}
use native.Mathlib.Nat.{zero-lt-suc}
use native.Mathlib.Omega.{arith}
use mathlib.Core.Path.{◌≡◌, refl, sym, ap, ◌∙◌, subst}
use mathlib.Core.Logic.{◌⊎◌, inl, inr}
use mathlib.Core.Bool.{Bool, true, false, ◌&&◌, ◌||◌, not}
use lib.IntN.{ℤ, pos, negsuc, nat_abs, ◌+ℤ◌, zero-*ℤ, *ℤ-zero}
use lib.Signed.{lt_z, le_z}
use lib.Dec.{T}
use lib.Ieee.{binary64, prec, unlike, round, of_int, add, sub, neg, sum, lt}
use lib.Ieee.Fits.{and_l}
use lib.Ieee.Scale.{round_same}
use Rattle.laws.specs.Double.{lit}
use Rattle.laws.specs.Integer.{eq_z}
use Rattle.laws.proofs.Booleans.{or_split}
use Rattle.laws.proofs.Exact.{div-at}
use Rattle.laws.proofs.Scaled.{minus_sign, of_int_value}
use Rattle.laws.proofs.Signed.{cross-small}
use Rattle.laws.proofs.SignedTests.{eq_z→}
use Rattle.vector.specs.declared.GridPoint.{GridPoint}
use Rattle.vector.specs.Grid as Grid
use Rattle.vector.specs.Size.{OnSheet, SheetStep}
use Rattle.vector.proofs.Sheet.{step}
use Rattle.segments.specs.Segments.{interior, ratio, segments_cross}
use Rattle.segments.specs.declared.Crossing.TheVariants as meets
use Rattle.segments.specs.Meeting.{on_line_of, on_segment, strictly_between, touching, segments_meet}
use Rattle.segments.proofs.Lines as lines

-- ---- the quotients 0 / den and den / den
outside-zero : (s : Bool) → interior (round binary64 s 0 1) ≡ false
unfolding interior lit round of_int lt
outside-zero true = refl
outside-zero false = refl

outside-one : interior (round binary64 false 1 1) ≡ false
unfolding interior lit round of_int add sub neg sum lt
outside-one = refl

like : (s : Bool) → unlike s s ≡ false
like true = refl
like false = refl

module _ (n : ℕ) (z : ℤ) (e : nat_abs z ≡ suc n) (h : nat_abs z ≤ 2 ^ prec binary64) where
  positive : 0 < nat_abs z
  positive = omega (arith, e)

  pub no_ratio : interior (ratio (pos 0) z) ≡ false
  unfolding ratio
  no_ratio =
      ap interior
      (div-at binary64 (of_int binary64 (pos 0)) (of_int binary64 z) false 0 1 (minus_sign z) (nat_abs z) 1 (zero-lt-suc 0) (zero-lt-suc 0) positive
      (of_int_value binary64 (pos 0) (omega arith))
      (of_int_value binary64 z h)
      ∙ round_same binary64 (unlike false (minus_sign z)) (0 * 1) (nat_abs z * 1) 0 1 (omega (arith, positive)) (zero-lt-suc 0) (omega arith))
      ∙ outside-zero (unlike false (minus_sign z))

  pub whole-ratio : interior (ratio z z) ≡ false
  unfolding ratio
  whole-ratio =
      ap interior
      (div-at binary64 (of_int binary64 z) (of_int binary64 z)
      (minus_sign z) (nat_abs z) 1 (minus_sign z) (nat_abs z) 1 (zero-lt-suc 0) (zero-lt-suc 0) positive
      (of_int_value binary64 z h)
      (of_int_value binary64 z h)
      ∙ round_same binary64 (unlike (minus_sign z) (minus_sign z)) (nat_abs z * 1) (nat_abs z * 1) 1 1 (omega (arith, positive)) (zero-lt-suc 0) (omega arith)
      ∙ ap (λ (s : Bool). round binary64 s 1 1) (like (minus_sign z)))
      ∙ outside-one

-- ---- so a parameter whose numerator is 0 or the denominator is not inside
and-false : (x y : Bool) → y ≡ false → (x && y) ≡ false
and-false true y e = e
and-false false y e = refl

module _ (m : ℤ) where
  outside : (n : ℕ) (z : ℤ) → nat_abs z ≡ suc n → nat_abs z ≤ 2 ^ prec binary64 → (m ≡ pos 0) ⊎ (m ≡ z) → (not (eq_z z (pos 0)) && interior (ratio m z)) ≡ false
  outside n z e h (inl q) = and-false (not (eq_z z (pos 0))) (interior (ratio m z)) (ap (λ (k : ℤ). interior (ratio k z)) q ∙ no_ratio n z e h)
  outside n z e h (inr q) = and-false (not (eq_z z (pos 0))) (interior (ratio m z)) (ap (λ (k : ℤ). interior (ratio k z)) q ∙ whole-ratio n z e h)

  parameter_out : (z : ℤ) → nat_abs z ≤ 2 ^ prec binary64 → (m ≡ pos 0) ⊎ (m ≡ z) → (not (eq_z z (pos 0)) && interior (ratio m z)) ≡ false
  parameter_out (pos zero) h q = refl
  parameter_out (pos (suc n)) h q = outside n (pos (suc n)) refl h q
  parameter_out (negsuc n) h q = outside n (negsuc n) refl h q

first-fails : (x y z : Bool) → (x && y) ≡ false → (x && y && z) ≡ false
first-fails x y z e = rw e

second-fails : (x y z : Bool) → (x && z) ≡ false → (x && y && z) ≡ false
second-fails false y z e = refl
second-fails true false z e = refl
second-fails true true z e = e

on_line : (a b p : GridPoint) → T (on_segment a b p) → Grid.cross (Grid.sub a p) (Grid.sub b p) ≡ pos 0
unfolding on_segment on_line_of
on_line a b p t =
    let z = Grid.cross (Grid.sub a p) (Grid.sub b p) in
    eq_z→ z (pos 0) (and_l (eq_z z (pos 0)) (le_z (Grid.dot (Grid.sub a p) (Grid.sub b p)) (pos 0)) t)

cross-size : (u v : GridPoint) → SheetStep u → SheetStep v → nat_abs (Grid.cross u v) ≤ 2 ^ 49
unfolding Grid.cross
cross-size u v h k = cross-small u.x v.y u.y v.x h.x k.y h.y k.x

module _ (a b c d : GridPoint) where
  abbrev bottom : ℤ
  bottom = Grid.cross (Grid.sub b a) (Grid.sub d c)

  -- the numerators of the two parameters; that of the first, or that of the second, is 0 or the denominator
  abbrev first : ℤ
  first = Grid.cross (Grid.sub c a) (Grid.sub d c)

  abbrev second : ℤ
  second = Grid.cross (Grid.sub c a) (Grid.sub b a)

  abbrev Which : Type 0
  Which = ((first ≡ pos 0) ⊎ (first ≡ bottom)) ⊎ ((second ≡ pos 0) ⊎ (second ≡ bottom))

  which : T (touching a b c d) → Which
  unfolding touching
  which t = last (or_split (on_segment a b c || on_segment a b d || on_segment c d a) (on_segment c d b) t)
    where
      ends : T (on_segment a b c) ⊎ T (on_segment a b d) → Which
      ends (inl h) = inr (inl (lines.second_none a b c d (on_line a b c h)))
      ends (inr h) = inr (inr (lines.second-all a b c d (on_line a b d h)))

      third : T (on_segment a b c || on_segment a b d) ⊎ T (on_segment c d a) → Which
      third (inl h) = ends (or_split (on_segment a b c) (on_segment a b d) h)
      third (inr h) = inl (inl (lines.first-none a b c d (on_line c d a h)))

      last : T (on_segment a b c || on_segment a b d || on_segment c d a) ⊎ T (on_segment c d b) → Which
      last (inl h) = third (or_split (on_segment a b c || on_segment a b d) (on_segment c d a) h)
      last (inr h) = inl (inr (lines.first-all a b c d (on_line c d b h)))

  module _ (ha : OnSheet a) (hb : OnSheet b) (hc : OnSheet c) (hd : OnSheet d) where
    bottom-size : nat_abs bottom ≤ 2 ^ prec binary64
    bottom-size = omega (arith, cross-size (Grid.sub b a) (Grid.sub d c) (step b a hb ha) (step d c hd hc))

    pub never_both : T (touching a b c d) → segments_cross a b c d ≡ false
    unfolding segments_cross
    never_both t = go (which t)
      where
        go : Which → segments_cross a b c d ≡ false
        go (inl e) =
            first-fails (not (eq_z bottom (pos 0))) (interior (ratio first bottom)) (interior (ratio second bottom)) (parameter_out first bottom bottom-size e)
        go (inr e) =
            second-fails (not (eq_z bottom (pos 0))) (interior (ratio first bottom)) (interior (ratio second bottom))
            (parameter_out second bottom bottom-size e)

    -- ---- the answers
    pub told-touching : touching a b c d ≡ true → segments_meet a b c d ≡ meets.Touching
    unfolding segments_meet
    told-touching e = let n = never_both (subst T (sym e) tt) in rw (n, e)

  pub told-crossing : segments_cross a b c d ≡ true → segments_meet a b c d ≡ meets.Crossing
  unfolding segments_meet
  told-crossing e = rw e

  pub told-apart : segments_cross a b c d ≡ false → touching a b c d ≡ false → segments_meet a b c d ≡ meets.Apart
  unfolding segments_meet
  told-apart e f = rw (e, f)

-- ---- an end is not strictly between the ends
step-none : (p : GridPoint) → Grid.sub p p ≡ Grid.origin
unfolding Grid.sub
step-none p = λ i. record { x = lines.itself p.x i; y = lines.itself p.y i }

dot-none : (v : GridPoint) → Grid.dot Grid.origin v ≡ pos 0
unfolding Grid.dot
dot-none v = λ i. zero-*ℤ v.x i +ℤ zero-*ℤ v.y i

none-dot : (u : GridPoint) → Grid.dot u Grid.origin ≡ pos 0
unfolding Grid.dot
none-dot u = λ i. *ℤ-zero u.x i +ℤ *ℤ-zero u.y i

pub first-end : (a b : GridPoint) → strictly_between a b a ≡ false
unfolding strictly_between
first-end a b =
    and-false (on_line_of a b a) (lt_z (Grid.dot (Grid.sub a a) (Grid.sub b a)) (pos 0))
    (ap (λ (z : ℤ). lt_z z (pos 0)) (ap (λ (s : GridPoint). Grid.dot s (Grid.sub b a)) (step-none a) ∙ dot-none (Grid.sub b a)))

pub second-end : (a b : GridPoint) → strictly_between a b b ≡ false
unfolding strictly_between
second-end a b =
    and-false (on_line_of a b b) (lt_z (Grid.dot (Grid.sub a b) (Grid.sub b b)) (pos 0))
    (ap (λ (z : ℤ). lt_z z (pos 0)) (ap (λ (s : GridPoint). Grid.dot (Grid.sub a b) s) (step-none b) ∙ none-dot (Grid.sub a b)))
