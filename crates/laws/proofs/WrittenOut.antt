-- Things written out in a flat list, w values each, as `each` writes one. Written over the first values of a list, one after the other,
-- they leave every other value (`length_over`, `over-over`, `over_own`); put over some places of the things that a list holds, they are
-- written over the values of those places (`put-out`). And a part of a list that was lent and is back (`part-back`).
use Prim.Native.Nat.{ℕ, zero, suc, ◌+◌, ◌-◌, ◌*◌, ◌≤◌, ◌<◌}
use native.Mathlib.Nat.{suc-mul, zero-mul, mul-le-mul_right}
use native.Mathlib.Omega.{arith}
use mathlib.Core.Path.{◌≡◌, sym, ap, ◌∙◌}
use mathlib.Core.List.{List, [], ◌∷◌, ◌++◌, append_assoc, append-nil}
use lib.ListN.{length, take, drop, length-append, length-drop, take-append-drop, drop_of_length-le}
use lib.Seq.{take-nil, drop-nil, take_all, take_at, drop_at, length-take-le, take-append-le}
use lib.Seq.{drop-append-le, take-append-add, drop-append-add, drop-drop, take-add}
use borrow.Rule.Slice.PartMut.{put_mid}
use Rattle.std.specs.List.{flat_map}
use Rattle.std.proofs.lemmas.Grind.{flat_map-append}
use Rattle.laws.specs.Lists.{put, written_over}
use Rattle.laws.specs.Table.{tab}
use Rattle.laws.proofs.Table.{length_tab}

-- a callee wrote v over the front of the part from a on, right after u; the part is back
pub part-back : {A : Type 0} (l u v r t : List A) (a : ℕ) → length u ≡ a → l ≡ u ++ t → length v ≤ length t
    → r ≡ v ++ drop (length v) (take (length l - a) (drop a l)) → put_mid a (length l - a) l r ≡ u ++ (v ++ drop (length v) t)
part-back l u v r t a e d h q =
    let n : length l ≡ a + length t = ap length d ∙ length-append u t ∙ omega (arith, e) in
    let k : length l - a ≡ length t = omega arith in
    let f : take a l ≡ u = ap (take a) d ∙ take_at u t a e in
    let g : drop a l ≡ t = ap (drop a) d ∙ drop_at u t a e in
    let s : take (length t) t ≡ t = take_all (length t) t (omega arith) in
    let z : drop (length t) t ≡ [] = drop_of_length-le t {i = length t} (omega arith) in
    rw (q, k, f, g, s, z) (simp append-nil)

pub length-put : {A : Type 0} (xs : List A) (i : ℕ) (vs : List A) → i + length vs ≤ length xs → length (put xs i vs) ≡ length xs
length-put xs i vs h = simp (length-append, length-drop) (omega (arith, length-take-le i xs (omega arith)))

module _ {A B : Type 0} (each : A → List B) (w : ℕ) (long : (a : A) → length (each a) ≡ w) where
  pub out-length : (xs : List A) → length (flat_map each xs) ≡ length xs * w
  out-length [] = sym (zero-mul w)
  out-length (a ∷ xs) = length-append (each a) (flat_map each xs) ∙ omega (arith, long a, out-length xs, suc-mul (length xs) w)

  pub out-take : (k : ℕ) (xs : List A) → flat_map each (take k xs) ≡ take (k * w) (flat_map each xs)
  out-take zero xs = ap (λ (n : ℕ). take n (flat_map each xs)) (sym (zero-mul w))
  out-take (suc k) [] = sym (take-nil (suc k * w))
  out-take (suc k) (a ∷ xs) =
      let e : suc k * w ≡ length (each a) + k * w = suc-mul k w ∙ omega (arith, long a) in
      ap (λ (l : List B). each a ++ l) (out-take k xs) ∙ sym (rw e (take-append-add (each a) (flat_map each xs) (k * w)))

  pub out-drop : (k : ℕ) (xs : List A) → flat_map each (drop k xs) ≡ drop (k * w) (flat_map each xs)
  out-drop zero xs = ap (λ (n : ℕ). drop n (flat_map each xs)) (sym (zero-mul w))
  out-drop (suc k) [] = sym (drop-nil (suc k * w))
  out-drop (suc k) (a ∷ xs) =
      let e : suc k * w ≡ length (each a) + k * w = suc-mul k w ∙ omega (arith, long a) in
      out-drop k xs ∙ sym (rw e (drop-append-add (each a) (flat_map each xs) (k * w)))

  -- things that a list holds, thing i at its values from i * w on
  pub out-tab : (f : ℕ → A) (l : List B) (n : ℕ) → ((i : ℕ) → i < n → each (f i) ≡ take w (drop (i * w) l)) → flat_map each (tab f n) ≡ take (n * w) l
  unfolding tab
  out-tab f l zero h = ap (λ (k : ℕ). take k l) (sym (zero-mul w))
  out-tab f l (suc n) h =
      flat_map-append each (tab f n) (f n ∷ [])
      ∙ (λ j. out-tab f l n (λ i k. h i (omega arith)) j ++ (append-nil (each (f n)) ∙ h n (omega arith)) j)
      ∙ sym (ap (λ (k : ℕ). take k l) (let e : suc n * w ≡ n * w + w = suc-mul n w ∙ omega arith in e) ∙ take-add (n * w) w l)

  -- ---- over the first values of a list
  pub length_over : (l : List B) (xs : List A) → length xs * w ≤ length l → length (written_over each w l xs) ≡ length l
  length_over l xs h = omega (arith, length-append (flat_map each xs) (drop (length xs * w) l), out-length xs, length-drop (length xs * w) l)

  pub over_none : (l : List B) → l ≡ written_over each w l []
  over_none l = ap (λ (k : ℕ). drop k l) (sym (zero-mul w))

  -- things over things, no fewer
  pub over-over : (l : List B) (xs ys : List A) → length xs ≤ length ys → written_over each w (written_over each w l xs) ys ≡ written_over each w l ys
  over-over l xs ys h =
      let m : length xs * w ≤ length ys * w = mul-le-mul_right w h in
      let d = length ys * w - length xs * w in
      let e : length ys * w ≡ length (flat_map each xs) + d = omega (arith, out-length xs) in
      let f : length xs * w + d ≡ length ys * w = omega arith in
      ap (λ (r : List B). flat_map each ys ++ r)
      (ap (λ (n : ℕ). drop n (flat_map each xs ++ drop (length xs * w) l)) e
      ∙ drop-append-add (flat_map each xs) (drop (length xs * w) l) d
      ∙ drop-drop d (length xs * w) l
      ∙ ap (λ (n : ℕ). drop n l) f)

  -- those that it holds
  pub over_own : (f : ℕ → A) (l : List B) (n : ℕ) → ((i : ℕ) → i < n → each (f i) ≡ take w (drop (i * w) l)) → written_over each w l (tab f n) ≡ l
  over_own f l n h = (λ j. out-tab f l n h j ++ drop (length_tab f n j * w) l) ∙ take-append-drop (n * w) l

  -- one thing more, written through the part from a on
  pub over-more : (l m : List B) (a : ℕ) (xs : List A) (x : A) (r : List B) → m ≡ written_over each w l xs → a ≡ length xs * w → length xs * w + w ≤ length l
      → r ≡ each x ++ drop w (take (length m - a) (drop a m)) → put_mid a (length m - a) m r ≡ written_over each w l (xs ++ (x ∷ []))
  over-more l m a xs x r e q h b =
      let t : length (drop (length xs * w) l) ≡ length l - length xs * w = length-drop (length xs * w) l in
      let k : length (xs ++ (x ∷ [])) * w ≡ length xs * w + w =
      ap (λ (n : ℕ). n * w) (let e : length (xs ++ (x ∷ [])) ≡ suc (length xs) = omega (arith, length-append xs (x ∷ [])) in e) ∙ suc-mul (length xs) w
      ∙ omega arith in
      part-back m (flat_map each xs) (each x) r (drop (length xs * w) l) a (out-length xs ∙ sym q) e (omega (arith, long x))
      (b ∙ ap (λ (n : ℕ). each x ++ drop n (take (length m - a) (drop a m))) (sym (long x)))
      ∙ sym (append_assoc (flat_map each xs) (each x) (drop (length (each x)) (drop (length xs * w) l)))
      ∙ (λ j. sym (flat_map-append each xs (x ∷ []) ∙ ap (λ (s : List B). flat_map each xs ++ s) (append-nil (each x))) j
      ++ (ap (λ (n : ℕ). drop n (drop (length xs * w) l)) (long x) ∙ drop-drop w (length xs * w) l ∙ ap (λ (n : ℕ). drop n l) (sym k)) j)

  -- ---- put over places of the things that it holds
  module _ (l : List B) (xs : List A) (held : written_over each w l xs ≡ l) where
    first : (k : ℕ) → k ≤ length xs → take (k * w) (flat_map each xs) ≡ take (k * w) l
    first k h =
        sym (take-append-le (k * w) (flat_map each xs) (drop (length xs * w) l) (omega (arith, out-length xs, mul-le-mul_right w h))) ∙ ap (take (k * w)) held

    rest : (k : ℕ) → k ≤ length xs → drop (k * w) (flat_map each xs) ++ drop (length xs * w) l ≡ drop (k * w) l
    rest k h =
        sym (drop-append-le (k * w) (flat_map each xs) (drop (length xs * w) l) (omega (arith, out-length xs, mul-le-mul_right w h))) ∙ ap (drop (k * w)) held

    pub put-out : (i : ℕ) (vs : List A) → i + length vs ≤ length xs
        → written_over each w l (put xs i vs) ≡ take (i * w) l ++ (flat_map each vs ++ drop ((i + length vs) * w) l)
    put-out i vs h =
        let m = i + length vs in
        ap (λ (n : ℕ). flat_map each (put xs i vs) ++ drop (n * w) l) (length-put xs i vs h)
        ∙ ap (λ (r : List B). r ++ drop (length xs * w) l)
        (flat_map-append each (take i xs ++ vs) (drop m xs)
        ∙ (λ j.
        (flat_map-append each (take i xs) vs ∙ ap (λ (r : List B). r ++ flat_map each vs) (out-take i xs ∙ first i (omega arith))) j ++ out-drop m xs j))
        ∙ append_assoc (take (i * w) l ++ flat_map each vs) (drop (m * w) (flat_map each xs)) (drop (length xs * w) l)
        ∙ ap (λ (r : List B). (take (i * w) l ++ flat_map each vs) ++ r) (rest m h)
        ∙ append_assoc (take (i * w) l) (flat_map each vs) (drop (m * w) l)
