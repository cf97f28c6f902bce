-- The doubled area of a ring: the same from whichever point it starts, negated where it is turned round, and the sum of two where a diagonal cuts it.
use Prim.Native.Nat.{ℕ, zero, suc, ◌<◌}
use native.Mathlib.Nat.{le_of_suc-le-suc}
use native.Mathlib.Omega.{arith}
use mathlib.Core.Path.{◌≡◌, refl, sym, ap, ◌∙◌}
use mathlib.Core.List.{List, [], ◌∷◌, ◌++◌, reverse, append-nil, append_assoc, reverse-cons, reverse-append}
use lib.ListN.{length, take, drop, get_or, take-append-drop}
use lib.Seq.{take-suc, drop-cons, take-length}
use lib.IntN.{ℤ, pos, neg_ℤ, ◌+ℤ◌, ◌-ℤ◌, ◌*ℤ◌, +ℤ_assoc, +ℤ_comm, +ℤ_idl, +ℤ_idr, +ℤ_invr, neg_ℤ-+ℤ, neg_ℤ-neg_ℤ}
use Rattle.vector.specs.declared.GridPoint.{GridPoint}
use Rattle.vector.specs.Grid.{term, area_to, polygon_area, at, origin}
use Rattle.parts.specs.Cut.{rotate, first_points, second_points}
use Rattle.parts.proofs.Rotation.{at_place, at-end}

neg-sub : (p q : ℤ) → neg_ℤ (p -ℤ q) ≡ q -ℤ p
neg-sub p q = neg_ℤ-+ℤ p (neg_ℤ q) ∙ ap (λ x. neg_ℤ p +ℤ x) (neg_ℤ-neg_ℤ q) ∙ +ℤ_comm (neg_ℤ p) q

cancelled : (p q c : ℤ) → (p +ℤ (c +ℤ pos 0)) +ℤ (q +ℤ (neg_ℤ c +ℤ pos 0)) ≡ p +ℤ q
cancelled p q c =
    ap (λ x. (p +ℤ x) +ℤ (q +ℤ (neg_ℤ c +ℤ pos 0))) (+ℤ_idr c) ∙ ap (λ x. (p +ℤ c) +ℤ (q +ℤ x)) (+ℤ_idr (neg_ℤ c))
    ∙ ap (λ x. (p +ℤ c) +ℤ x) (+ℤ_comm q (neg_ℤ c)) ∙ +ℤ_assoc p c (neg_ℤ c +ℤ q)
    ∙ ap (λ x. p +ℤ x) (sym (+ℤ_assoc c (neg_ℤ c) q) ∙ ap (λ x. x +ℤ q) (+ℤ_invr c) ∙ +ℤ_idl q)

term-back : (a b : GridPoint) → term a b ≡ neg_ℤ (term b a)
unfolding term
term-back a b = sym (neg-sub (b.x *ℤ a.y) (a.x *ℤ b.y))

-- ---- the terms summed along a path from a, along a path, and round a ring
unfoldable walk : GridPoint → List GridPoint → ℤ
walk a [] = pos 0
walk a (b ∷ r) = term a b +ℤ walk b r

unfoldable path : List GridPoint → ℤ
path [] = pos 0
path (a ∷ r) = walk a r

unfoldable loop : List GridPoint → ℤ
loop [] = pos 0
loop (a ∷ r) = walk a (r ++ (a ∷ []))

walk_join : (a : GridPoint) (r : List GridPoint) (b : GridPoint) (s : List GridPoint) → walk a (r ++ (b ∷ s)) ≡ walk a (r ++ (b ∷ [])) +ℤ walk b s
unfolding walk
walk_join a [] b s = ap (λ x. x +ℤ walk b s) (sym (+ℤ_idr (term a b)))
walk_join a (c ∷ r) b s = ap (λ x. term a c +ℤ x) (walk_join c r b s) ∙ sym (+ℤ_assoc (term a c) (walk c (r ++ (b ∷ []))) (walk b s))

path_join : (r : List GridPoint) (b : GridPoint) (s : List GridPoint) → path (r ++ (b ∷ s)) ≡ path (r ++ (b ∷ [])) +ℤ walk b s
unfolding path walk
path_join [] b s = sym (+ℤ_idl (walk b s))
path_join (a ∷ r) b s = walk_join a r b s

loop-turn : (xs ys : List GridPoint) → loop (xs ++ ys) ≡ loop (ys ++ xs)
unfolding loop
loop-turn [] ys = ap loop (sym (append-nil ys))
loop-turn (a ∷ xs) [] = ap loop (append-nil (a ∷ xs))
loop-turn (a ∷ xs) (b ∷ ys) =
    ap (walk a) (append_assoc xs (b ∷ ys) (a ∷ [])) ∙ walk_join a xs b (ys ++ (a ∷ [])) ∙ +ℤ_comm (walk a (xs ++ (b ∷ []))) (walk b (ys ++ (a ∷ [])))
    ∙ sym (ap (walk b) (append_assoc ys (a ∷ xs) (b ∷ [])) ∙ walk_join b ys a (xs ++ (b ∷ [])))

path-back : (l : List GridPoint) → path (reverse l) ≡ neg_ℤ (path l)
unfolding path walk
path-back [] = refl
path-back (a ∷ []) = refl
path-back (a ∷ b ∷ r) =
    ap path (reverse-cons a (b ∷ r) ∙ ap (λ x. x ++ (a ∷ [])) (reverse-cons b r) ∙ append_assoc (reverse r) (b ∷ []) (a ∷ []))
    ∙ path_join (reverse r) b (a ∷ [])
    ∙ ap (λ x. path x +ℤ (term b a +ℤ pos 0)) (sym (reverse-cons b r))
    ∙ ap (λ x. x +ℤ (term b a +ℤ pos 0)) (path-back (b ∷ r))
    ∙ ap (λ x. neg_ℤ (walk b r) +ℤ x) (+ℤ_idr (term b a) ∙ term-back b a)
    ∙ sym (neg_ℤ-+ℤ (walk b r) (term a b)) ∙ ap neg_ℤ (+ℤ_comm (walk b r) (term a b))

loop-back : (l : List GridPoint) → loop (reverse l) ≡ neg_ℤ (loop l)
unfolding loop path
loop-back [] = refl
loop-back (a ∷ r) =
    ap loop (reverse-cons a r) ∙ loop-turn (reverse r) (a ∷ [])
    ∙ ap path (sym (reverse-cons a (r ++ (a ∷ [])) ∙ ap (λ x. x ++ (a ∷ [])) (reverse-append r (a ∷ []))))
    ∙ path-back (a ∷ (r ++ (a ∷ [])))

loop-cut : (a : GridPoint) (xs : List GridPoint) (z : GridPoint) (ys : List GridPoint)
    → loop (a ∷ (xs ++ (z ∷ ys))) ≡ loop (a ∷ (xs ++ (z ∷ []))) +ℤ loop (z ∷ (ys ++ (a ∷ [])))
unfolding loop walk
loop-cut a xs z ys =
    ap (walk a) (append_assoc xs (z ∷ ys) (a ∷ [])) ∙ walk_join a xs z (ys ++ (a ∷ []))
    ∙ sym (cancelled (walk a (xs ++ (z ∷ []))) (walk z (ys ++ (a ∷ []))) (term z a))
    ∙ ap (λ x. (walk a (xs ++ (z ∷ [])) +ℤ (term z a +ℤ pos 0)) +ℤ (walk z (ys ++ (a ∷ [])) +ℤ (x +ℤ pos 0))) (sym (term-back a z))
    ∙ ap (λ x. x +ℤ (walk z (ys ++ (a ∷ [])) +ℤ (term a z +ℤ pos 0))) (sym (ap (walk a) (append_assoc xs (z ∷ []) (a ∷ [])) ∙ walk_join a xs z (a ∷ [])))
    ∙ ap (λ x. walk a ((xs ++ (z ∷ [])) ++ (a ∷ [])) +ℤ x) (sym (ap (walk z) (append_assoc ys (a ∷ []) (z ∷ [])) ∙ walk_join z ys a (z ∷ [])))

-- ---- the sum by index is the sum round the ring
path_snoc : (r : List GridPoint) (i : ℕ) (z : GridPoint)
    → i < length r → path (take (suc i) r ++ (z ∷ [])) ≡ path (take (suc i) r) +ℤ term (get_or r i origin) z
unfolding walk
path_snoc r i z h =
    let g : GridPoint = get_or r i origin in
    ap (λ l. path (l ++ (z ∷ []))) (take-suc r i origin h) ∙ ap path (append_assoc (take i r) (g ∷ []) (z ∷ []))
    ∙ path_join (take i r) g (z ∷ []) ∙ ap (λ x. path (take i r ++ (g ∷ [])) +ℤ x) (+ℤ_idr (term g z))
    ∙ ap (λ l. path l +ℤ term g z) (sym (take-suc r i origin h))

one-point : (r : List GridPoint) → 0 < length r → pos 0 ≡ path (take 1 r)
unfolding path walk
one-point [] h = refl
one-point (x ∷ r) h = refl

area_to-path : (r : List GridPoint) (i : ℕ) → i < length r → area_to r i ≡ path (take (suc i) r)
unfolding area_to
area_to-path r zero h = one-point r h
area_to-path r (suc i) h =
    ap (λ x. x +ℤ term (at r i) (at r (suc i))) (area_to-path r i (omega arith))
    ∙ ap (λ x. path (take (suc i) r) +ℤ term x (at r (suc i))) (at_place r i (omega arith))
    ∙ ap (λ x. path (take (suc i) r) +ℤ term (get_or r i origin) x) (at_place r (suc i) h)
    ∙ sym (path_snoc r i (get_or r (suc i) origin) (omega arith))
    ∙ ap path (sym (take-suc r (suc i) origin h))

area-loop : (r : List GridPoint) → polygon_area r ≡ loop r
unfolding polygon_area area_to loop path
area-loop [] = refl
area-loop (a ∷ r) =
    ap (λ x. x +ℤ term (at (a ∷ r) (length r)) (at (a ∷ r) (suc (length r)))) (area_to-path (a ∷ r) (length r) (omega arith))
    ∙ ap (λ x. path (take (suc (length r)) (a ∷ r)) +ℤ term x (at (a ∷ r) (suc (length r)))) (at_place (a ∷ r) (length r) (omega arith))
    ∙ ap (λ x. path (take (suc (length r)) (a ∷ r)) +ℤ term (get_or (a ∷ r) (length r) origin) x) (at-end a r)
    ∙ sym (path_snoc (a ∷ r) (length r) a (omega arith))
    ∙ ap (λ l. path (l ++ (a ∷ []))) (take-length (a ∷ r))

cut_at : (a : GridPoint) (r : List GridPoint) (j : ℕ) → j < length r → loop (a ∷ r) ≡ loop (a ∷ take (suc j) r) +ℤ loop (drop j r ++ (a ∷ []))
cut_at a r j h =
    let z : GridPoint = get_or r j origin in
    ap (λ l. loop (a ∷ l)) (sym (take-append-drop j r) ∙ ap (λ l. take j r ++ l) (drop-cons r j origin h))
    ∙ loop-cut a (take j r) z (drop (suc j) r)
    ∙ ap (λ l. loop (a ∷ l) +ℤ loop (z ∷ (drop (suc j) r ++ (a ∷ [])))) (sym (take-suc r j origin h))
    ∙ ap (λ l. loop (a ∷ take (suc j) r) +ℤ loop (l ++ (a ∷ []))) (sym (drop-cons r j origin h))

-- ---- the three laws
pub area_rotate : (v : ℕ) (r : List GridPoint) → polygon_area (rotate v r) ≡ polygon_area r
area_rotate v r = area-loop (rotate v r) ∙ loop-turn (drop v r) (take v r) ∙ ap loop (take-append-drop v r) ∙ sym (area-loop r)

pub area_reverse : (r : List GridPoint) → polygon_area (reverse r) ≡ neg_ℤ (polygon_area r)
area_reverse r = area-loop (reverse r) ∙ loop-back r ∙ ap neg_ℤ (sym (area-loop r))

pub area-cut : (r : List GridPoint) (k : ℕ) → 0 < k → k < length r → polygon_area r ≡ polygon_area (first_points r k) +ℤ polygon_area (second_points r k)
area-cut [] k g h = absurd (omega (arith, h))
area-cut (a ∷ r) zero g h = absurd (omega (arith, g))
area-cut (a ∷ r) (suc j) g h =
    area-loop (a ∷ r) ∙ cut_at a r j (le_of_suc-le-suc h)
    ∙ ap (λ x. x +ℤ loop (drop j r ++ (a ∷ []))) (sym (area-loop (a ∷ take (suc j) r)))
    ∙ ap (λ x. polygon_area (a ∷ take (suc j) r) +ℤ x) (sym (area-loop (drop j r ++ (a ∷ []))))
