-- A turn of the search for the best diagonal. The code tests the ends and the cosines first and the edges last: the rule is the same in that order.
use Prim.Native.Nat.{ℕ, suc, ◌+◌, ◌-◌, ◌%◌, ◌≤◌, ◌<◌}
use native.Mathlib.Nat.{mod-eq_of_lt}
use native.Mathlib.Omega.{arith}
use mathlib.Core.Bool.{Bool, true, false, ◌&&◌, not, cond, true≢false}
use mathlib.Core.Option.{Option, none, some}
use mathlib.Core.Path.{◌≡◌, refl, sym, ap, ◌∙◌}
use mathlib.Core.List.{List}
use lib.ListN.{length, get_or}
use lib.Ieee.{Float}
use Rattle.laws.specs.Double.{◌<f◌}
use Rattle.vector.specs.declared.GridPoint.{GridPoint}
use Rattle.vector.specs.Grid.{origin, sub, same, at}
use Rattle.vector.proofs.Rings.{at_place, at_before}
use Rattle.cosine.specs.Cosine.{cosine}
use Rattle.limits.specs.declared.Limits.{Limits}
use Rattle.judge.specs.Judge.{in_range, larger, judged}
use Rattle.obstacles.specs.Obstacles.{unobstructed}
use Rattle.std.specs.Prelude as Std
use Rattle.laws.proofs.Booleans.{and-false}
use Rattle.diagonal.specs.declared.Best.{Best}
use Rattle.diagonal.specs.Best.{wins}
use Rattle.diagonal.specs.Diagonal.{cosine_next, cosine_prev, meets_rule, score, better, best_to}

-- what the code holds of the best so far: where it ends, and that its larger cosine is that of its diagonal
abbrev pub held : Std.Option Best → Option ℕ
held Std.None = none
held (Std.Some b) = some b.at

abbrev pub Scored : List GridPoint → Std.Option Best → Type 0
Scored r Std.None = Unit {0}
Scored r (Std.Some b) = b.score ≡ score r b.at

-- ---- the rule in the code's order
last-first : (s x y : Bool) → (s && x && y) ≡ (x && y && s)
last-first false false y = refl
last-first false true false = refl
last-first false true true = refl
last-first true false y = refl
last-first true true false = refl
last-first true true true = refl

regroup : (a s x y : Bool) → (a && s && x && y) ≡ (a && x && y && s)
regroup false s x y = refl
regroup true s x y = last-first s x y

-- by the ends and the cosines
abbrev pub fits : Limits → List GridPoint → ℕ → Bool
fits L r k = not (same (at r 0) (at r k)) && in_range L (cosine_next r k) && in_range L (cosine_prev r k)

rule_is : (L : Limits) (r : List GridPoint) (k : ℕ) → meets_rule L r k ≡ (fits L r k && unobstructed r k)
unfolding meets_rule
rule_is L r k = regroup (not (same (at r 0) (at r k))) (unobstructed r k) (in_range L (cosine_next r k)) (in_range L (cosine_prev r k))

-- ---- a turn
module _ (r : List GridPoint) (k : ℕ) where
  keeps : (b : Std.Option Best) → Scored r b → wins (score r k) b ≡ false → better r k (held b) ≡ held b
  unfolding better
  keeps Std.None e h = absurd (true≢false h)
  keeps (Std.Some b) e h = rw (sym (ap (λ (x : Float). score r k <f x) e) ∙ h)

  takes : (b : Std.Option Best) → Scored r b → wins (score r k) b ≡ true → better r k (held b) ≡ some k
  unfolding better
  takes Std.None e h = refl
  takes (Std.Some b) e h = rw (sym (ap (λ (x : Float). score r k <f x) e) ∙ h)

either : (t : Bool) (x y : Option ℕ) → x ≡ y → cond t x y ≡ y
either true x y e = e
either false x y e = refl

module _ (L : Limits) (r : List GridPoint) (k : ℕ) (two : 2 ≤ k) (best : Std.Option Best) (eb : held best ≡ best_to L r (k - 2)) where
  opened : best_to L r (k + 1 - 2) ≡ cond (fits L r k && unobstructed r k) (better r k (held best)) (held best)
  unfolding best_to
  opened =
      let d : k + 1 - 2 ≡ suc (k - 2) = omega arith in
      let f : suc (suc (k - 2)) ≡ k = omega arith in
      rw (d, f, ← eb, rule_is L r k)

  pub refused : fits L r k ≡ false → held best ≡ best_to L r (k + 1 - 2)
  refused h = sym (opened ∙ rw h)

  pub hidden : unobstructed r k ≡ false → held best ≡ best_to L r (k + 1 - 2)
  hidden h = sym (opened ∙ rw (h, and-false (fits L r k)))

  pub passed : Scored r best → wins (score r k) best ≡ false → held best ≡ best_to L r (k + 1 - 2)
  passed e h = sym (opened ∙ either (fits L r k && unobstructed r k) (better r k (held best)) (held best) (keeps r k best e h))

  pub won : Scored r best → fits L r k ≡ true → wins (score r k) best ≡ true → unobstructed r k ≡ true → some k ≡ best_to L r (k + 1 - 2)
  won e g h u = sym (opened ∙ rw (g, u) (takes r k best e h))

-- ---- what the judge says, by the places of the list: a and b are the steps from the corner 0 to the next and to the one before
module _ (l : List GridPoint) (p : 3 ≤ length l) (k : ℕ) (lk : k < length l) (a b : GridPoint)
    (ea : a ≡ sub (get_or l 1 origin) (get_or l 0 origin)) (eb : b ≡ sub (get_or l (length l - 1) origin) (get_or l 0 origin)) where
  abbrev step : GridPoint
  step = sub (get_or l k origin) (get_or l 0 origin)

  zero-is : get_or l 0 origin ≡ at l 0
  zero-is = sym (at_place l 0 (omega arith))

  k-is : get_or l k origin ≡ at l k
  k-is = sym (at_place l k lk)

  next-is : cosine a step ≡ cosine_next l k
  unfolding cosine_next
  next-is =
      let x = sym (at_place l 1 (omega arith)) in
      (λ i. cosine (ea i) step) ∙ (λ i. cosine (sub (x i) (zero-is i)) (sub (k-is i) (zero-is i)))

  prev-is : cosine b step ≡ cosine_prev l k
  unfolding cosine_prev
  prev-is =
      let e : 0 + (length l - 1) ≡ length l - 1 = omega arith in
      let w = sym (at_before l 0 (length l - 1) (sym (ap (λ (j : ℕ). j % length l) e ∙ mod-eq_of_lt (omega arith)))) in
      (λ i. cosine (eb i) step) ∙ (λ i. cosine (sub (w i) (zero-is i)) (sub (k-is i) (zero-is i)))

  pub judged-is : (L : Limits) → judged L (get_or l 0 origin) (get_or l k origin) a b ≡ cond (fits L l k) (Std.Some (score l k)) Std.None
  unfolding judged score
  judged-is L =
      λ i. cond (not (same (zero-is i) (k-is i)) && in_range L (next-is i) && in_range L (prev-is i)) (Std.Some (larger (next-is i) (prev-is i))) Std.None

-- where the judge gives no score, it refused
pub refusing : (t : Bool) (x : Float) (o : Std.Option Float) → o ≡ cond t (Std.Some x) Std.None → ((y : Float) → o ≡ Std.Some y → ⊥) → t ≡ false
refusing true x o e n = absurd (n x e)
refusing false x o e n = refl
