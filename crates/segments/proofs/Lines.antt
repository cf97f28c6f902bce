-- Cross products of steps between points, in whole numbers: where three points are on one line, the numerator of a parameter is 0 or the
-- denominator.
use Prim.Native.Nat.{ℕ, zero, suc, ◌+◌, ◌*◌}
use native.Mathlib.Omega.{arith}
use mathlib.Core.Path.{◌≡◌, refl, sym, ap, ◌∙◌}
use lib.IntN.{ℤ, pos, negsuc, neg_ℤ, ◌-ℤ◌, ◌*ℤ◌, *ℤ_comm}
use Rattle.laws.proofs.Integers.{no_difference, posp, negp, sum-parts, mul-parts}
use Rattle.vector.specs.declared.GridPoint.{GridPoint}
use Rattle.vector.specs.Grid.{sub, cross}

-- ---- differences of whole numbers, by their parts
equal : (z w : ℤ) → posp z + negp w ≡ posp w + negp z → z ≡ w
equal (pos a) (pos b) h = ap pos (omega arith)
equal (pos a) (negsuc b) h = absurd (no a b h)
  where
    no : (a b : ℕ) → a + suc b ≡ 0 + 0 → ⊥
    no a b h = omega arith
equal (negsuc a) (pos b) h = absurd (no a b h)
  where
    no : (a b : ℕ) → 0 + 0 ≡ b + suc a → ⊥
    no a b h = omega arith
equal (negsuc a) (negsuc b) h = ap negsuc (omega arith)

turned : (w : ℤ) → (posp (neg_ℤ w) ≡ negp w) × (negp (neg_ℤ w) ≡ posp w)
turned (pos zero) = (refl, refl)
turned (pos (suc n)) = (refl, refl)
turned (negsuc n) = (refl, refl)

minus-parts : (z w : ℤ) → posp (z -ℤ w) + negp z + posp w ≡ posp z + negp w + negp (z -ℤ w)
minus-parts z w = omega (arith, sum-parts z (neg_ℤ w), (turned w).0, (turned w).1)

pub itself : (p : ℤ) → p -ℤ p ≡ pos 0
itself p = equal (p -ℤ p) (pos 0) (omega (arith, minus-parts p p))

cancel : (p q r : ℤ) → (p -ℤ q) -ℤ (r -ℤ q) ≡ p -ℤ r
cancel p q r = equal _ _ (omega (arith, minus-parts (p -ℤ q) (r -ℤ q), minus-parts p q, minus-parts r q, minus-parts p r))

interchange : (p q r s : ℤ) → (p -ℤ q) -ℤ (r -ℤ s) ≡ (p -ℤ r) -ℤ (q -ℤ s)
interchange p q r s =
    equal _ _ (omega (arith, minus-parts (p -ℤ q) (r -ℤ s), minus-parts p q, minus-parts r s, minus-parts (p -ℤ r) (q -ℤ s), minus-parts p r, minus-parts q s))

opposite : (p q : ℤ) → p -ℤ q ≡ pos 0 -ℤ (q -ℤ p)
opposite p q = equal _ _ (omega (arith, minus-parts p q, minus-parts (pos 0) (q -ℤ p), minus-parts q p))

twice_opposite : (p : ℤ) → pos 0 -ℤ (pos 0 -ℤ p) ≡ p
twice_opposite p = equal _ _ (omega (arith, minus-parts (pos 0) (pos 0 -ℤ p), minus-parts (pos 0) p))

times_sub : (a b c : ℤ) → a *ℤ (b -ℤ c) ≡ a *ℤ b -ℤ a *ℤ c
times_sub a b c =
    equal _ _
    (go (posp a) (negp a) (posp b) (negp b) (posp c) (negp c) (posp (b -ℤ c)) (negp (b -ℤ c))
    (posp (a *ℤ (b -ℤ c))) (negp (a *ℤ (b -ℤ c))) (posp (a *ℤ b))
    (negp (a *ℤ b)) (posp (a *ℤ c)) (negp (a *ℤ c)) (posp (a *ℤ b -ℤ a *ℤ c)) (negp (a *ℤ b -ℤ a *ℤ c))
    (minus-parts b c) (mul-parts a (b -ℤ c)).0 (mul-parts a (b -ℤ c)).1
    (mul-parts a b).0 (mul-parts a b).1 (mul-parts a c).0 (mul-parts a c).1 (minus-parts (a *ℤ b) (a *ℤ c)))
  where
    go : (p n q m r k d e l l' u u' v v' x x' : ℕ) → d + m + r ≡ q + k + e → l ≡ p * d + n * e → l' ≡ p * e + n * d
        → u ≡ p * q + n * m → u' ≡ p * m + n * q → v ≡ p * r + n * k → v' ≡ p * k + n * r
        → x + u' + v ≡ u + v' + x' → l + x' ≡ x + l'
    go p n q m r k d e l l' u u' v v' x x' h h1 h2 h3 h4 h5 h6 h7 = omega (arith, ap (λ (z : ℕ). p * z) h, ap (λ (z : ℕ). n * z) h)

sub_times : (a b c : ℤ) → (a -ℤ b) *ℤ c ≡ a *ℤ c -ℤ b *ℤ c
sub_times a b c = *ℤ_comm (a -ℤ b) c ∙ times_sub c a b ∙ (λ i. *ℤ_comm c a i -ℤ *ℤ_comm c b i)

-- ---- steps
cross-right : (A B C : GridPoint) → cross A (sub B C) ≡ cross A B -ℤ cross A C
unfolding cross sub
cross-right A B C =
    (λ i. times_sub A.x B.y C.y i -ℤ times_sub A.y B.x C.x i)
    ∙ interchange (A.x *ℤ B.y) (A.x *ℤ C.y) (A.y *ℤ B.x) (A.y *ℤ C.x)

cross-left : (A B C : GridPoint) → cross (sub A B) C ≡ cross A C -ℤ cross B C
unfolding cross sub
cross-left A B C =
    (λ i. sub_times A.x B.x C.y i -ℤ sub_times A.y B.y C.x i)
    ∙ interchange (A.x *ℤ C.y) (B.x *ℤ C.y) (A.y *ℤ C.x) (B.y *ℤ C.x)

cross-back : (A B : GridPoint) → cross A B ≡ pos 0 -ℤ cross B A
unfolding cross
cross-back A B = (λ i. *ℤ_comm A.x B.y i -ℤ *ℤ_comm A.y B.x i) ∙ opposite (B.y *ℤ A.x) (B.x *ℤ A.y)

cross_self : (A : GridPoint) → cross A A ≡ pos 0
unfolding cross
cross_self A = ap (λ (z : ℤ). z -ℤ A.y *ℤ A.x) (*ℤ_comm A.x A.y) ∙ itself (A.y *ℤ A.x)

-- the step from c to d, by their steps from a
step_from : (a c d : GridPoint) → sub d c ≡ sub (sub d a) (sub c a)
unfolding sub
step_from a c d = λ i. record { x = sym (cancel d.x a.x c.x) i; y = sym (cancel d.y a.y c.y) i }

no_step : (p E : GridPoint) → cross (sub p p) E ≡ pos 0
no_step p E = cross-left p p E ∙ itself (cross p E)

away : (a c E : GridPoint) → cross (sub a c) E ≡ pos 0 → cross (sub c a) E ≡ pos 0
away a c E h =
    ap (λ (s : GridPoint). cross s E) (step_from c a c) ∙ cross-left (sub c c) (sub a c) E ∙ (λ i. no_step c E i -ℤ h i)

minus-none : (p : ℤ) → p -ℤ pos 0 ≡ p
minus-none p = equal _ _ (omega (arith, minus-parts p (pos 0)))

-- a is on the line of c and d
same-cross : (a c d : GridPoint) → cross (sub c a) (sub d c) ≡ cross (sub c a) (sub d a)
same-cross a c d =
    ap (cross (sub c a)) (step_from a c d) ∙ cross-right (sub c a) (sub d a) (sub c a)
    ∙ ap (λ (z : ℤ). cross (sub c a) (sub d a) -ℤ z) (cross_self (sub c a)) ∙ minus-none (cross (sub c a) (sub d a))

module _ (a b c d : GridPoint) where
  pub first-none : cross (sub c a) (sub d a) ≡ pos 0 → cross (sub c a) (sub d c) ≡ pos 0
  first-none h = same-cross a c d ∙ h

  pub first-all : cross (sub c b) (sub d b) ≡ pos 0 → cross (sub c a) (sub d c) ≡ cross (sub b a) (sub d c)
  first-all h =
      no_difference (cross (sub c a) (sub d c)) (cross (sub b a) (sub d c))
      (sym (cross-left (sub c a) (sub b a) (sub d c)) ∙ ap (λ (s : GridPoint). cross s (sub d c)) (sym (step_from a b c)) ∙ same-cross b c d ∙ h)

  pub second_none : cross (sub a c) (sub b c) ≡ pos 0 → cross (sub c a) (sub b a) ≡ pos 0
  second_none h = away a c (sub b a) (same-cross c a b ∙ h)

  pub second-all : cross (sub a d) (sub b d) ≡ pos 0 → cross (sub c a) (sub b a) ≡ cross (sub b a) (sub d c)
  second-all h =
      let z : cross (sub b a) (sub d a) ≡ pos 0 = cross-back (sub b a) (sub d a) ∙ ap (λ (k : ℤ). pos 0 -ℤ k) (away a d (sub b a) (same-cross d a b ∙ h)) in
      sym
      (ap (cross (sub b a)) (step_from a c d) ∙ cross-right (sub b a) (sub d a) (sub c a)
      ∙ (λ i. z i -ℤ cross-back (sub b a) (sub c a) i) ∙ twice_opposite (cross (sub c a) (sub b a)))
