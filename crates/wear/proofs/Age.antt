-- The rings of a record in order of age, the oldest first (`aged`): the places from the next on, then those before it. One ring more is one more at the end,
-- and no more than the last 32 (`aged-more`).
use Prim.Native.Nat.{ℕ, zero, suc, ◌+◌, ◌-◌, ◌%◌, ◌≤◌, ◌<◌}
use native.Mathlib.Nat.{eq-or-lt_of_le}
use native.Mathlib.Numerals.{add-one}
use native.Mathlib.Omega.{arith}
use mathlib.Core.Path.{◌≡◌, refl, sym, ap, ◌∙◌}
use mathlib.Core.Logic.{⊎_elim}
use mathlib.Core.List.{List, [], ◌∷◌, ◌++◌, append-nil, append_assoc}
use lib.ListN.{length, set, take, drop, length-append, length-set, length-drop, take-append-drop, drop_of_length-le}
use lib.Seq.{take-suc-set, take_all, length-take-le, drop-append-le, drop-set-lt, drop-drop}
use borrow.Author.Tests.{lt-ltb, le-ltb}
use Rattle.wear.specs.declared.Record.{Record}
use Rattle.wear.specs.Wear.{total, highest, held_cuts, grown, stored}
use Rattle.wear.specs.Answers.{last}
use Rattle.laws.proofs.Lists.{total-append}
use Rattle.wear.proofs.Laws.{highest-append, greater_comm}
use Rattle.wear.proofs.Tests.{Valid, next_low, next-same}

-- ---- the last n of a list
pub last-few : (n : ℕ) (l : List ℕ) → length l ≤ n → last n l ≡ l
unfolding last
last-few n l h = let e : length l - n ≡ 0 = omega arith in rw e

pub last-length : (n : ℕ) (l : List ℕ) → length (last n l) ≤ n
unfolding last
last-length n l = simp length-drop (omega arith)

-- what is dropped first is not among the last
pub last-last : (n : ℕ) (l m : List ℕ) → last n (last n l ++ m) ≡ last n (l ++ m)
unfolding last
last-last n l m = go (length l - n) refl
  where
    go : (k : ℕ) → length l - n ≡ k → last n (last n l ++ m) ≡ last n (l ++ m)
    go zero e = rw e
    go (suc k) e =
        let s : suc k ≤ length l = omega arith in
        let a : drop (suc k) (l ++ m) ≡ drop (suc k) l ++ m = drop-append-le (suc k) l m s in
        let d : length (drop (suc k) l ++ m) ≡ n + length m = length-append (drop (suc k) l) m ∙ simp length-drop (omega arith) in
        let u : length (l ++ m) - n ≡ suc k + length m = simp length-append (omega arith) in
        let v : n + length m - n ≡ length m = omega arith in
        rw (e, d, u, v) (ap (drop (length m)) (sym a) ∙ drop-drop (length m) (suc k) (l ++ m))

-- ---- a record's rings, the oldest first
abbrev pub aged : Record → List ℕ
aged r = drop r.next (held_cuts r) ++ take r.next (held_cuts r)

pub aged-total : (r : Record) → total (held_cuts r) ≡ total (aged r)
aged-total r =
    let a = take r.next (held_cuts r) in
    let b = drop r.next (held_cuts r) in
    ap total (sym (take-append-drop r.next (held_cuts r))) ∙ total-append a b ∙ omega (arith, total-append b a)

pub aged-highest : (r : Record) → highest (held_cuts r) ≡ highest (aged r)
aged-highest r =
    let a = take r.next (held_cuts r) in
    let b = drop r.next (held_cuts r) in
    ap highest (sym (take-append-drop r.next (held_cuts r))) ∙ highest-append a b ∙ greater_comm (highest a) (highest b) ∙ sym (highest-append b a)

pub aged-length : (r : Record) → length r.cuts ≡ 32 → Valid r → r.rings ≡ length (aged r)
aged-length r h v =
    let w = v.few in
    let k = next_low r v in
    let p : length (held_cuts r) ≡ r.rings = length-take-le r.rings r.cuts (omega arith) in
    let q : length (take r.next (held_cuts r) ++ drop r.next (held_cuts r)) ≡ r.rings = ap length (take-append-drop r.next (held_cuts r)) ∙ p in
    omega (
      arith,
      length-append (take r.next (held_cuts r)) (drop r.next (held_cuts r)),
      length-append (drop r.next (held_cuts r)) (take r.next (held_cuts r)),
      q,
    )

-- fewer than 32: the places in order
pub aged-few : (r : Record) → Valid r → length r.cuts ≡ 32 → r.rings < 32 → aged r ≡ held_cuts r
aged-few r v h k =
    let w = v.few in
    let n = next-same r v k in
    let p : length (held_cuts r) ≡ r.rings = length-take-le r.rings r.cuts (omega arith) in
    let a : drop r.next (held_cuts r) ≡ [] = drop_of_length-le (held_cuts r) {i = r.next} (omega arith) in
    let b : take r.next (held_cuts r) ≡ held_cuts r = take_all r.next (held_cuts r) (omega arith) in
    λ j. a j ++ b j

-- the list l with x at its place i, of n: the rest after it, then those before it and x
around : (l : List ℕ) (i x : ℕ) → length l ≡ 32 → i < 32
    → drop ((i + 1) % 32) (set l i x) ++ take ((i + 1) % 32) (set l i x) ≡ drop (suc i) l ++ (take i l ++ (x ∷ []))
around l i x h k = ⊎_elim wrap go (eq-or-lt_of_le (omega arith))
  where
    wrap : suc i ≡ 32 → drop ((i + 1) % 32) (set l i x) ++ take ((i + 1) % 32) (set l i x) ≡ drop (suc i) l ++ (take i l ++ (x ∷ []))
    wrap e =
        let m : (i + 1) % 32 ≡ 0 = omega arith in
        let d : drop (suc i) l ≡ [] = drop_of_length-le l {i = suc i} (omega arith) in
        let s : set l i x ≡ take (suc i) (set l i x) = sym (take_all (suc i) (set l i x) (rw (length-set l i x) (omega arith))) in
        rw (m, d, append-nil) (s ∙ take-suc-set l i x (omega arith))

    go : suc i < 32 → drop ((i + 1) % 32) (set l i x) ++ take ((i + 1) % 32) (set l i x) ≡ drop (suc i) l ++ (take i l ++ (x ∷ []))
    go e =
        let m : (i + 1) % 32 ≡ suc i = omega arith in
        let a : drop (suc i) (set l i x) ≡ drop (suc i) l = drop-set-lt (suc i) l i x (omega arith) in
        let b : take (suc i) (set l i x) ≡ take i l ++ (x ∷ []) = take-suc-set l i x (omega arith) in
        rw m (λ j. a j ++ b j)

-- one ring more
module _ (r : Record) (x : ℕ) (h : length r.cuts ≡ 32) (v : Valid r) where
  few : r.rings < 32 → aged (stored r x) ≡ last 32 (aged r ++ (x ∷ []))
  unfolding stored
  few k =
      let n = next-same r v k in
      let w = v.few in
      let g : grown r.rings ≡ suc r.rings = rw (lt-ltb r.rings 32 k) (add-one r.rings) in
      let a : take (grown r.rings) (set r.cuts r.next x) ≡ held_cuts r ++ (x ∷ []) = rw (g, n) (take-suc-set r.cuts r.rings x (omega arith)) in
      let p : length (held_cuts r ++ (x ∷ [])) ≡ suc r.rings =
      length-append (held_cuts r) (x ∷ []) ∙ omega (arith, length-take-le r.rings r.cuts (omega arith)) in
      rw (a, aged-few r v h k, last-few 32 (held_cuts r ++ (x ∷ [])) (omega arith), n) (turn (held_cuts r ++ (x ∷ [])) r.rings p k)
    where
      turn : (l : List ℕ) (m : ℕ) → length l ≡ suc m → m < 32 → drop ((m + 1) % 32) l ++ take ((m + 1) % 32) l ≡ l
      turn l m p k = ⊎_elim wrap go (eq-or-lt_of_le (omega arith))
        where
          wrap : suc m ≡ 32 → drop ((m + 1) % 32) l ++ take ((m + 1) % 32) l ≡ l
          wrap e = let z : (m + 1) % 32 ≡ 0 = omega arith in rw z (append-nil l)

          go : suc m < 32 → drop ((m + 1) % 32) l ++ take ((m + 1) % 32) l ≡ l
          go e =
              let z : (m + 1) % 32 ≡ suc m = omega arith in
              rw (z, drop_of_length-le l {i = suc m} (omega arith)) (take_all (suc m) l (omega arith))

  full : r.rings ≡ 32 → aged (stored r x) ≡ last 32 (aged r ++ (x ∷ []))
  unfolding stored last
  full k =
      let i = r.next in
      let w = next_low r v in
      let g : grown r.rings ≡ 32 = rw (le-ltb r.rings 32 (omega arith)) in
      let s : take 32 (set r.cuts i x) ≡ set r.cuts i x = take_all 32 (set r.cuts i x) (rw (length-set r.cuts i x) (omega arith)) in
      let t : take r.rings r.cuts ≡ r.cuts = take_all r.rings r.cuts (omega arith) in
      let d : length (drop i r.cuts) ≡ 32 - i = simp length-drop (omega arith) in
      let u : length (take i r.cuts) ≡ i = length-take-le i r.cuts (omega arith) in
      let b : length ((drop i r.cuts ++ take i r.cuts) ++ (x ∷ [])) ≡ 33 = simp length-append (omega (arith, d, u)) in
      let e : (drop i r.cuts ++ take i r.cuts) ++ (x ∷ []) ≡ drop i r.cuts ++ (take i r.cuts ++ (x ∷ [])) =
      append_assoc (drop i r.cuts) (take i r.cuts) (x ∷ []) in
      let f : drop 1 (drop i r.cuts ++ (take i r.cuts ++ (x ∷ []))) ≡ drop 1 (drop i r.cuts) ++ (take i r.cuts ++ (x ∷ [])) =
      drop-append-le 1 (drop i r.cuts) (take i r.cuts ++ (x ∷ [])) (omega arith) in
      let q : drop 1 (drop i r.cuts) ≡ drop (suc i) r.cuts = drop-drop 1 i r.cuts ∙ ap (λ (n : ℕ). drop n r.cuts) (add-one i) in
      rw (g, s, t, b, e) (around r.cuts i x h w ∙ sym (f ∙ ap (λ (l : List ℕ). l ++ (take i r.cuts ++ (x ∷ []))) q))

  pub aged-more : aged (stored r x) ≡ last 32 (aged r ++ (x ∷ []))
  aged-more = ⊎_elim full few (eq-or-lt_of_le v.few)
