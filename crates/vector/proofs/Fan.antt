-- Claim (Card 6, `fan_area_lem`): the fan of every list of points, the empty one and those of one and two points included,
-- is its doubled area, the sum of ax × by - bx × ay. Over the first i edges the fan is that sum less the term of the
-- first corner and the corner reached (`fan_to_lem`). A triangle of points on the sheet is at most 2 ^ 49, and by `fan_to_lem`
-- the fan of i edges at most (i + 1) · 2 ^ 47 (`fan_small`): with 60 edges below 2 ^ 53, so 64 bits hold every term and
-- every sum on the way.
use Prim.Native.Nat.{ℕ, zero, suc, ◌+◌, ◌*◌, ◌^◌, ◌%◌, ◌≤◌}
use native.Mathlib.Nat.{add-mod_right, zero-add}
use native.Mathlib.Omega.{arith}
use mathlib.Core.Path.{◌≡◌, sym, ap, ◌∙◌}
use mathlib.Core.List.{List}
use lib.IntN.{ℤ, pos, negsuc, suc_ℤ, pred_ℤ, neg_ℤ, nat_abs, ◌+ℤ◌, ◌-ℤ◌, ◌*ℤ◌, +ℤ_assoc}
use lib.IntN.{+ℤ_comm, +ℤ_idl, +ℤ_idr, +ℤ_invl, +ℤ_invr, neg_ℤ-+ℤ, neg_ℤ-neg_ℤ, suc_ℤ-+ℤ}
use lib.IntN.{pred_ℤ-+ℤ, suc_ℤ-*ℤ, pred_ℤ-*ℤ, zero-*ℤ, *ℤ_comm}
use lib.ListN.{length, get_or}
use Rattle.laws.proofs.Integers.{+ℤ-left, opposite, nat_abs_add, nat_abs_sub}
use Rattle.laws.proofs.Signed.{term-sheet}
use Rattle.vector.specs.declared.GridPoint.{GridPoint}
use Rattle.vector.specs.Grid.{origin, sub, cross, at, term, area_to, polygon_area}
use Rattle.vector.specs.Fan.{triangle, fan_to, fan_area}
use Rattle.vector.specs.Size.{AllOnSheet}
use Rattle.vector.proofs.Sheet.{at_on}

-- ---- products of sums
swap-last : (a b c : ℤ) → (a +ℤ b) +ℤ c ≡ (a +ℤ c) +ℤ b
swap-last a b c = +ℤ_assoc a b c ∙ ap (λ x. a +ℤ x) (+ℤ_comm b c) ∙ sym (+ℤ_assoc a c b)

up : (a b c : ℤ) → (a +ℤ b) *ℤ c ≡ a *ℤ c +ℤ b *ℤ c → (suc_ℤ a +ℤ b) *ℤ c ≡ suc_ℤ a *ℤ c +ℤ b *ℤ c
up a b c e =
    ap (λ x. x *ℤ c) (suc_ℤ-+ℤ a b) ∙ suc_ℤ-*ℤ (a +ℤ b) c ∙ ap (λ x. x +ℤ c) e
    ∙ swap-last (a *ℤ c) (b *ℤ c) c ∙ ap (λ x. x +ℤ b *ℤ c) (sym (suc_ℤ-*ℤ a c))

down : (a b c : ℤ) → (a +ℤ b) *ℤ c ≡ a *ℤ c +ℤ b *ℤ c → (pred_ℤ a +ℤ b) *ℤ c ≡ pred_ℤ a *ℤ c +ℤ b *ℤ c
down a b c e =
    ap (λ x. x *ℤ c) (pred_ℤ-+ℤ a b) ∙ pred_ℤ-*ℤ (a +ℤ b) c ∙ ap (λ x. x -ℤ c) e
    ∙ swap-last (a *ℤ c) (b *ℤ c) (neg_ℤ c) ∙ ap (λ x. x +ℤ b *ℤ c) (sym (pred_ℤ-*ℤ a c))

sum_times_pos : (n : ℕ) (b c : ℤ) → (pos n +ℤ b) *ℤ c ≡ pos n *ℤ c +ℤ b *ℤ c
sum_times_pos zero b c = ap (λ x. x *ℤ c) (+ℤ_idl b) ∙ sym (ap (λ x. x +ℤ b *ℤ c) (zero-*ℤ c) ∙ +ℤ_idl (b *ℤ c))
sum_times_pos (suc n) b c = up (pos n) b c (sum_times_pos n b c)

sum_times_neg : (n : ℕ) (b c : ℤ) → (negsuc n +ℤ b) *ℤ c ≡ negsuc n *ℤ c +ℤ b *ℤ c
sum_times_neg zero b c = down (pos zero) b c (sum_times_pos zero b c)
sum_times_neg (suc n) b c = down (negsuc n) b c (sum_times_neg n b c)

pub sum_times : (a b c : ℤ) → (a +ℤ b) *ℤ c ≡ a *ℤ c +ℤ b *ℤ c
sum_times (pos n) b c = sum_times_pos n b c
sum_times (negsuc n) b c = sum_times_neg n b c

pub neg_times : (a c : ℤ) → neg_ℤ a *ℤ c ≡ neg_ℤ (a *ℤ c)
neg_times a c = opposite (neg_ℤ a *ℤ c) (a *ℤ c) (sym (sum_times (neg_ℤ a) a c) ∙ ap (λ x. x *ℤ c) (+ℤ_invl a) ∙ zero-*ℤ c)

times_sub : (a b q : ℤ) → a *ℤ (b -ℤ q) ≡ a *ℤ b +ℤ neg_ℤ (a *ℤ q)
times_sub a b q =
    *ℤ_comm a (b -ℤ q) ∙ sum_times b (neg_ℤ q) a ∙ ap (λ x. x +ℤ neg_ℤ q *ℤ a) (*ℤ_comm b a)
    ∙ ap (λ x. a *ℤ b +ℤ x) (neg_times q a ∙ ap neg_ℤ (*ℤ_comm q a))

sub_times : (a p b q : ℤ) → (a -ℤ p) *ℤ (b -ℤ q) ≡ (a *ℤ b +ℤ neg_ℤ (a *ℤ q)) +ℤ (neg_ℤ (p *ℤ b) +ℤ p *ℤ q)
sub_times a p b q =
    sum_times a (neg_ℤ p) (b -ℤ q) ∙ ap (λ x. x +ℤ neg_ℤ p *ℤ (b -ℤ q)) (times_sub a b q)
    ∙ ap (λ x. (a *ℤ b +ℤ neg_ℤ (a *ℤ q)) +ℤ x)
    (neg_times p (b -ℤ q) ∙ ap neg_ℤ (times_sub p b q) ∙ neg_ℤ-+ℤ (p *ℤ b) (neg_ℤ (p *ℤ q)) ∙ ap (λ x. neg_ℤ (p *ℤ b) +ℤ x) (neg_ℤ-neg_ℤ (p *ℤ q)))

regroup : (a b c d e f g : ℤ)
    → ((a +ℤ neg_ℤ b) +ℤ (neg_ℤ c +ℤ d)) +ℤ neg_ℤ ((e +ℤ neg_ℤ f) +ℤ (neg_ℤ g +ℤ d))
    ≡ ((a +ℤ neg_ℤ e) +ℤ ((f +ℤ neg_ℤ b) +ℤ neg_ℤ (c +ℤ neg_ℤ g))) +ℤ (d +ℤ neg_ℤ d)
regroup a b c d e f g = simp (neg_ℤ-+ℤ, neg_ℤ-neg_ℤ, +ℤ_assoc, +ℤ_comm, +ℤ-left)

cancel : (x d : ℤ) → x +ℤ (d +ℤ neg_ℤ d) ≡ x
cancel x d = ap (λ y. x +ℤ y) (+ℤ_invr d) ∙ +ℤ_idr x

-- ---- one edge: its term, and what the first corner p makes with its two ends
triangle-is : (p a b : GridPoint) → triangle p a b ≡ term a b +ℤ (term p a -ℤ term p b)
unfolding triangle cross sub term
triangle-is p a b =
    let ab = sub_times a.x p.x b.y p.y in
    let ba = sub_times a.y p.y b.x p.x in
    let e = *ℤ_comm a.y b.x in
    let f = *ℤ_comm a.y p.x in
    let g = *ℤ_comm p.y b.x in
    let d = *ℤ_comm p.y p.x in
    (λ i. ab i -ℤ ba i)
    ∙ (λ i. ((a.x *ℤ b.y +ℤ neg_ℤ (a.x *ℤ p.y)) +ℤ (neg_ℤ (p.x *ℤ b.y) +ℤ p.x *ℤ p.y)) +ℤ neg_ℤ ((e i +ℤ neg_ℤ (f i)) +ℤ (neg_ℤ (g i) +ℤ d i)))
    ∙ regroup (a.x *ℤ b.y) (a.x *ℤ p.y) (p.x *ℤ b.y) (p.x *ℤ p.y) (b.x *ℤ a.y) (p.x *ℤ a.y) (b.x *ℤ p.y)
    ∙ cancel _ (p.x *ℤ p.y)

-- ---- the edges up to i: all that the first corner makes cancels but for the last
onward : (s t u v : ℤ) → (s -ℤ u) +ℤ (t +ℤ (u -ℤ v)) ≡ ((s +ℤ t) -ℤ v) +ℤ (u +ℤ neg_ℤ u)
onward s t u v = simp (+ℤ_assoc, +ℤ_comm, +ℤ-left)

term_self : (p : GridPoint) → term p p ≡ pos 0
unfolding term
term_self p = +ℤ_invr (p.x *ℤ p.y)

pub fan_to_lem : (r : List GridPoint) (i : ℕ) → fan_to r i ≡ area_to r i -ℤ term (at r 0) (at r i)
unfolding fan_to area_to
fan_to_lem r zero = sym (ap (λ x. pos 0 -ℤ x) (term_self (at r 0)))
fan_to_lem r (suc i) =
    let p = at r 0 in
    let a = at r i in
    let b = at r (suc i) in
    let e = fan_to_lem r i in
    let f = triangle-is p a b in
    (λ j. e j +ℤ f j) ∙ onward (area_to r i) (term a b) (term p a) (term p b) ∙ cancel ((area_to r i +ℤ term a b) -ℤ term p b) (term p a)

-- ---- round the ring: the corner after the last is the first
at_round : (r : List GridPoint) → at r (length r) ≡ at r 0
unfolding at
at_round r = ap (λ (j : ℕ). get_or r j origin) (ap (λ (n : ℕ). n % length r) (sym (zero-add (length r))) ∙ add-mod_right 0 (length r))

pub fan_area_lem : (r : List GridPoint) → fan_area r ≡ polygon_area r
unfolding fan_area polygon_area
fan_area_lem r =
    fan_to_lem r (length r)
    ∙ ap (λ (a : GridPoint). area_to r (length r) -ℤ term (at r 0) a) (at_round r)
    ∙ ap (λ x. area_to r (length r) -ℤ x) (term_self (at r 0))
    ∙ +ℤ_idr (area_to r (length r))

-- ---- points on the sheet
module _ (r : List GridPoint) (on : AllOnSheet r) where
  term-small : (i j : ℕ) → nat_abs (term (at r i) (at r j)) ≤ 2 ^ 47
  unfolding term
  term-small i j = term-sheet (at r i).x (at r j).y (at r j).x (at r i).y (at_on r i on).x (at_on r j on).y (at_on r j on).x (at_on r i on).y

  pub area_small : (i : ℕ) → nat_abs (area_to r i) ≤ i * 2 ^ 47
  unfolding area_to
  area_small zero = omega arith
  area_small (suc i) = omega (arith, nat_abs_add (area_to r i) (term (at r i) (at r (suc i))), area_small i, term-small i (suc i))

  pub fan_small : (i : ℕ) → nat_abs (fan_to r i) ≤ (i + 1) * 2 ^ 47
  fan_small i = rw (fan_to_lem r i) (omega (arith, nat_abs_sub (area_to r i) (term (at r 0) (at r i)), area_small i, term-small 0 i))
