-- The digits of a choice: the points that a loop writes and counts, how many they are, and the choice of all.
use Prim.Native.Nat.{ℕ, zero, suc, ◌+◌, ◌*◌, ◌-◌, ◌/◌, ◌%◌, ◌^◌, ◌≤◌, ◌<◌}
use native.Mathlib.Nat.{add-mul, mul_assoc, mul_comm, mul-le-mul_right, pow-suc, div-one, mod-one, mod-lt, mod-eq_of_lt, div-div-eq-div-mul}
use native.Mathlib.Nat.{div-add-mod', add-mul-mod_self_right}
use native.Mathlib.Numerals.{add-one}
use native.Mathlib.Omega.{arith}
use mathlib.Core.Path.{◌≡◌, refl, sym, ap, ◌∙◌}
use mathlib.Core.Bool.{Bool, true, false, not, cond}
use mathlib.Core.List.{List, [], ◌∷◌, ◌++◌, append_assoc}
use lib.ListN.{length, get_or, take, drop, replicate, length-append, length-drop}
use lib.Seq.{take-suc, length-take-le, drop-drop}
use lib.Pow.{pow_pos}
use lib.Dec.{eqb}
use lib.IntN.{ℤ, pos}
use lib.Count.{ones, ones_in, ones_cat}
use borrow.Rule.Slice.PartMut.{put_mid}
use borrow.Author.Tests.{eq-eqb, eqb-true, eqb-false}
use Rattle.std.proofs.lemmas.Bool.{ne_eqb}
use Rattle.std.proofs.lemmas.List.{drop-replicate}
use Rattle.std.proofs.lemmas.Slice.{take-put_mid, drop-put_mid}
use Rattle.laws.specs.Bounded.{any}
use Rattle.laws.proofs.Booleans.{is_true}
use Rattle.laws.proofs.Search.{any_at}
use Rattle.choice.specs.Choice.{chosen}

-- the numbers of point i
abbrev pub numbers_at : List ℤ → ℕ → List ℤ
numbers_at l i = get_or l (i * 2) (pos 0) ∷ get_or l (i * 2 + 1) (pos 0) ∷ []

-- ---- the loop that chooses, at point i: `rest` is the choice without the digits of the points passed, and in ps stand the n numbers of those chosen, then 0
pub record Written (l : List ℤ) (c i rest n : ℕ) (ps : List ℤ) : Type 0 where
  pub digits : rest ≡ c / 2 ^ i
  pub low : n ≤ i * 2
  pub long : length ps ≡ 24
  pub front : take n ps ≡ chosen l c i
  pub after : drop n ps ≡ replicate (24 - n) (pos 0)

pub written_none : (l : List ℤ) (c : ℕ) → Written l c 0 c 0 (replicate 24 (pos 0))
unfolding chosen
written_none l c = record { digits = sym (div-one c); low = omega arith; long = refl; front = refl; after = refl }

module _ {l : List ℤ} {c i rest n : ℕ} {ps : List ℤ} (w : Written l c i rest n ps) where
  digit : rest % 2 ≡ c / 2 ^ i % 2
  digit = ap (λ (k : ℕ). k % 2) w.digits

  passed : rest / 2 ≡ c / 2 ^ (i + 1)
  passed =
      ap (λ (k : ℕ). k / 2) w.digits
      ∙ div-div-eq-div-mul c (2 ^ i) 2
      ∙ ap (λ (k : ℕ). c / k) (sym (pow-suc 2 i) ∙ ap (λ (k : ℕ). 2 ^ k) (sym (add-one i)))

  -- its digit is 1: its numbers p go over the next two places
  pub written_more : (p : List ℤ) (k : ℕ) → rest % 2 ≡ 1 → n + 2 ≤ 24 → k ≡ 2 → p ≡ numbers_at l i → Written l c (i + 1) (rest / 2) (n + 2) (put_mid n k ps p)
  unfolding chosen
  written_more p k u h e d =
      let two : length p ≡ 2 = ap length d in
      let m : 24 - n - 2 ≡ 24 - (n + 2) = omega arith in
      let one = eq-eqb (c / 2 ^ i % 2) 1 (sym digit ∙ u) in
      record {
        digits = passed;
        low = omega (arith, w.low);
        long =
            simp length-append
            (omega (arith, length-take-le n ps (omega (arith, w.long, h)), length-drop n ps, length-drop k (drop n ps), w.long, h, e, two));
        front = take-put_mid n k ps p (n + 2) (omega (arith, two)) (omega (arith, w.long, h)) ∙ (λ j. w.front j ++ d j) ∙ rw (add-one i, one) refl;
        after =
            drop-put_mid n k ps p (n + 2) (omega (arith, e)) (omega (arith, w.long, h)) (omega (arith, two, e))
            ∙ sym (drop-drop 2 n ps)
            ∙ ap (drop 2) w.after
            ∙ drop-replicate 2 (24 - n) (pos 0)
            ∙ ap (λ (k : ℕ). replicate k (pos 0)) m;
      }

  -- it is another: nothing is written
  pub written_same : (rest % 2 ≡ 1 → ⊥) → Written l c (i + 1) (rest / 2) n ps
  unfolding chosen
  written_same u =
      let other = ne_eqb (c / 2 ^ i % 2) 1 (λ e. u (digit ∙ e)) in
      record { digits = passed; low = omega (arith, w.low); long = w.long; front = w.front ∙ rw (add-one i, other) refl; after = w.after }

-- ---- how many points are chosen
low-digits : (c p : ℕ) → 0 < p → c % (p * 2) ≡ c / p % 2 * p + c % p
low-digits c p h =
    let q = c / p in
    let m = c % p in
    let a : q * p + m ≡ c = div-add-mod' c p in
    let b : q / 2 * 2 + q % 2 ≡ q = div-add-mod' q 2 in
    let s : (q / 2 * 2 + q % 2) * p ≡ q / 2 * (p * 2) + q % 2 * p = simp (add-mul, mul_assoc, mul_comm) in
    let d : c ≡ (q % 2 * p + m) + q / 2 * (p * 2) = omega (arith, a, s, ap (λ (k : ℕ). k * p) b) in
    let r : m < p = mod-lt c h in
    let g : q % 2 ≤ 1 = omega arith in
    let k : q % 2 * p ≤ 1 * p = mul-le-mul_right p g in
    let z : q % 2 * p + m < p * 2 = omega (arith, k, r) in
    ap (λ (x : ℕ). x % (p * 2)) d ∙ add-mul-mod_self_right (q % 2 * p + m) (q / 2) (p * 2) ∙ mod-eq_of_lt z

ones_digit : (b : ℕ) → b < 2 → ones b ≡ b
unfolding ones ones_in
ones_digit zero h = refl
ones_digit (suc zero) h = refl
ones_digit (suc (suc b)) h = absurd (omega (arith, h))

ones_more : (c i : ℕ) → ones (c % 2 ^ suc i) ≡ c / 2 ^ i % 2 + ones (c % 2 ^ i)
ones_more c i =
    let p : 0 < 2 ^ i = pow_pos i in
    ap (λ (k : ℕ). ones (c % k)) (pow-suc 2 i) ∙ ap ones (low-digits c (2 ^ i) p) ∙ ones_cat i (c / 2 ^ i % 2) (c % 2 ^ i) (mod-lt c p)
    ∙ ap (λ (k : ℕ). k + ones (c % 2 ^ i)) (ones_digit (c / 2 ^ i % 2) (omega arith))

pub chosen-length : (l : List ℤ) (c i : ℕ) → length (chosen l c i) ≡ ones (c % 2 ^ i) * 2
unfolding chosen
chosen-length l c zero = ap (λ (k : ℕ). k * 2) (sym (ap ones (mod-one c) ∙ ones_digit 0 (omega arith)))
chosen-length l c (suc i) = go (eqb (c / 2 ^ i % 2) 1) refl (chosen-length l c i) (ones_more c i)
  where
    go : (b : Bool) → eqb (c / 2 ^ i % 2) 1 ≡ b → length (chosen l c i) ≡ ones (c % 2 ^ i) * 2 → ones (c % 2 ^ suc i) ≡ c / 2 ^ i % 2 + ones (c % 2 ^ i)
        → length (cond b (chosen l c i ++ (get_or l (i * 2) (pos 0) ∷ get_or l (i * 2 + 1) (pos 0) ∷ [])) (chosen l c i)) ≡ ones (c % 2 ^ suc i) * 2
    go true q e f =
        let d = eqb-true (c / 2 ^ i % 2) 1 q in
        length-append (chosen l c i) (get_or l (i * 2) (pos 0) ∷ get_or l (i * 2 + 1) (pos 0) ∷ []) ∙ omega (arith, d, e, f)
    go false q e f = let d = eqb-false (c / 2 ^ i % 2) 1 q in omega (arith, d, e, f)

-- ---- all of them
clear : ℕ → ℕ → Bool
clear r i = not (eqb ((2 ^ r - 1) / 2 ^ i % 2) 1)

none-clear : any (λ r. any (clear r) r) 13 ≡ false
unfolding any clear
none-clear = refl

pub all_set : (r i : ℕ) → r ≤ 12 → i < r → (2 ^ r - 1) / 2 ^ i % 2 ≡ 1
unfolding clear
all_set r i h k =
    eqb-true ((2 ^ r - 1) / 2 ^ i % 2) 1
    (is_true (eqb ((2 ^ r - 1) / 2 ^ i % 2) 1) (any_at (clear r) r (any_at (λ m. any (clear m) m) 13 none-clear r (omega arith)) i k))

pub chosen-all : (l : List ℤ) (r : ℕ) → r ≤ 12 → (i : ℕ) → i ≤ r → i * 2 ≤ length l → chosen l (2 ^ r - 1) i ≡ take (i * 2) l
unfolding chosen
chosen-all l r h zero k m = refl
chosen-all l r h (suc i) k m =
    let e = eq-eqb ((2 ^ r - 1) / 2 ^ i % 2) 1 (all_set r i h k) in
    let q = chosen-all l r h i (omega arith) (omega arith) in
    let u : suc i * 2 ≡ suc (suc (i * 2)) = omega arith in
    let a : take (suc (suc (i * 2))) l ≡ take (suc (i * 2)) l ++ (get_or l (suc (i * 2)) (pos 0) ∷ []) = take-suc l (suc (i * 2)) (pos 0) (omega arith) in
    let b : take (suc (i * 2)) l ≡ take (i * 2) l ++ (get_or l (i * 2) (pos 0) ∷ []) = take-suc l (i * 2) (pos 0) (omega arith) in
    rw (e, u, add-one (i * 2))
    ((λ j. q j ++ (get_or l (i * 2) (pos 0) ∷ get_or l (suc (i * 2)) (pos 0) ∷ []))
    ∙ sym (append_assoc (take (i * 2) l) (get_or l (i * 2) (pos 0) ∷ []) (get_or l (suc (i * 2)) (pos 0) ∷ []))
    ∙ sym (a ∙ ap (λ (z : List ℤ). z ++ (get_or l (suc (i * 2)) (pos 0) ∷ [])) b))
