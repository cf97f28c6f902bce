-- Card 9's claims, over the bytes that a call leaves: each shown coordinate is nearest, each line has 64
-- columns and a line feed, the lines stand in node order, and the bytes after them are as found. An accepted call leaves that.
use Prim.Native.Nat.{ℕ, zero, suc, ◌+◌, ◌-◌, ◌*◌, ◌/◌, ◌%◌, ◌≤◌, ◌<◌}
use mathlib.Core.Path.{◌≡◌, refl, sym, ap, ◌∙◌, subst}
use mathlib.Core.Bool.{Bool, true, false, ◌&&◌, cond}
use mathlib.Core.List.{List, [], ◌∷◌, ◌++◌, append_assoc, append-nil}
use mathlib.Core.Logic.{⊎_elim}
use native.Mathlib.Nat.{eq-or-lt_of_le}
use native.Mathlib.Omega.{arith}
use lib.Dec.{T, ltb, eqb}
use lib.ListN.{length, get_or, take, drop, length-append, length-drop}
use lib.Seq.{take_at, drop_at, get_or_at, get_or-append-add}
use borrow.Author.Tests.{ltb-false, ne_eqb}
use lib.Ieee.{Float, nan}
use Rattle.laws.specs.Within.{Within}
use Rattle.text.specs.Text.{decimal, put}
use Rattle.nodes.specs.Flat.{Usable}
use Rattle.decimals.specs.Rounded.{ten_thousandths, minus, negative}
use Rattle.decimals.specs.Nearest.{NearestShown}
use Rattle.decimals.specs.Shown.{decimals, shown}
use Rattle.decimals.proofs.Value.{shown-le}
use Rattle.decimals.proofs.NearestDecimal.{shown-nearest}
use Rattle.decimals.proofs.Texts.{sign, decimals-is, shown-most}
use Rattle.listing.specs.Read.{is_digit_of, read_from, RightAligned}
use Rattle.listing.specs.Sheet.{right_aligned, line, lines, answer, left, nodes_out}
use Rattle.listing.specs.Claim.{ShownAs, LineOf, SheetIs}
use Rattle.listing.proofs.Texts.{spaces, number_most, right_aligned-long, line-long, lines_long}
use Rattle.listing.proofs.Tests.{usable}
use Rattle.listing.proofs.Reading.{is_digit, read-decimal, read_right_aligned, has_right_aligned, aligned, read-decimals, has-decimals, no_space}

-- ---- where the point and the four decimals stand
abbrev tail : ℕ → List ℕ
tail n = (48 + n / 1000 % 10) ∷ (48 + n / 100 % 10) ∷ (48 + n / 10 % 10) ∷ (48 + n % 10) ∷ []

module _ (m : Bool) (n : ℕ) where
  abbrev front : List ℕ
  front = spaces (28 - length (decimals m n)) ++ (sign m ++ decimal (n / 10000))

  parted : right_aligned 28 (decimals m n) ≡ front ++ 46 ∷ tail n
  unfolding right_aligned
  parted =
      let e : decimals m n ≡ (sign m ++ decimal (n / 10000)) ++ 46 ∷ tail n = decimals-is m n ∙ simp append_assoc in
      ap (λ (t : List ℕ). spaces (28 - length (decimals m n)) ++ t) e
      ∙ sym (append_assoc (spaces (28 - length (decimals m n))) (sign m ++ decimal (n / 10000)) (46 ∷ tail n))

  front_long : length (decimals m n) ≤ 28 → length front ≡ 23
  front_long h =
      let a = right_aligned-long 28 (decimals m n) h in
      let b = ap length parted in
      let c = length-append front (46 ∷ tail n) in
      omega arith

  pub at-point : length (decimals m n) ≤ 28 → get_or (right_aligned 28 (decimals m n)) 23 0 ≡ 46
  at-point h = ap (λ (t : List ℕ). get_or t 23 0) parted ∙ get_or_at front 46 (tail n) 0 23 (front_long h)

  at-digit : (k : ℕ) → k < 4 → T (is_digit_of (get_or (tail n) k 0))
  at-digit zero h = subst T (sym (is_digit (n / 1000 % 10) (omega arith))) tt
  at-digit (suc zero) h = subst T (sym (is_digit (n / 100 % 10) (omega arith))) tt
  at-digit (suc (suc zero)) h = subst T (sym (is_digit (n / 10 % 10) (omega arith))) tt
  at-digit (suc (suc (suc zero))) h = subst T (sym (is_digit (n % 10) (omega arith))) tt
  at-digit (suc (suc (suc (suc k)))) h = absurd (omega arith)

  pub at-decimals : length (decimals m n) ≤ 28 → (k : ℕ) → k < 4 → T (is_digit_of (get_or (right_aligned 28 (decimals m n)) (24 + k) 0))
  at-decimals h k l =
      let e : 24 + k ≡ length front + suc k = omega (arith, front_long h) in
      subst (λ (b : ℕ). T (is_digit_of b))
      (sym (ap (λ (t : List ℕ). get_or t (24 + k) 0) parted
      ∙ ap (λ (i : ℕ). get_or (front ++ 46 ∷ tail n) i 0) e ∙ get_or-append-add front (46 ∷ tail n) (suc k) 0))
      (at-digit k l)

-- ---- a coordinate in its 28 columns
pub shown_as : (x : Float) → Within 1024 x → ShownAs x (right_aligned 28 (shown x))
unfolding shown minus
shown_as x w =
    let n = ten_thousandths x in
    let m = minus x in
    let few = shown-most x in
    let r : read_from 0 (right_aligned 28 (decimals m n)) ≡ n = read_right_aligned 28 (decimals m n) ∙ read-decimals m n (shown-le x w) in
    record {
      columns = right_aligned-long 28 (decimals m n) few;
      aligned = aligned 28 (decimals m n) (no_space m n (shown-le x w));
      point = at-point m n few;
      decimals = at-decimals m n few;
      nearest = subst (NearestShown x) (sym r) (shown-nearest x w.0);
      sign = has_right_aligned 28 (decimals m n) ∙ has-decimals m n (shown-le x w) ∙ ap (λ (k : ℕ). negative x && ltb 0 k) (sym r);
    }

-- ---- a line
cut-three : (a b c d : List ℕ) (i j k : ℕ) → length a ≡ i → length b ≡ j → length c ≡ k
    → (take i (a ++ b ++ c ++ d) ≡ a) × (take j (drop i (a ++ b ++ c ++ d)) ≡ b) × (take k (drop (i + j) (a ++ b ++ c ++ d)) ≡ c)
cut-three a b c d i j k p q r =
    let e : a ++ b ++ c ++ d ≡ a ++ (b ++ (c ++ d)) = simp append_assoc in
    let f : a ++ b ++ c ++ d ≡ (a ++ b) ++ (c ++ d) = simp append_assoc in (
      ap (take i) e ∙ take_at a (b ++ (c ++ d)) i p,
      ap (λ (t : List ℕ). take j (drop i t)) e ∙ ap (take j) (drop_at a (b ++ (c ++ d)) i p) ∙ take_at b (c ++ d) j q,
      ap (λ (t : List ℕ). take k (drop (i + j) t)) f ∙ ap (take k) (drop_at (a ++ b) (c ++ d) (i + j) (length-append a b ∙ omega arith)) ∙ take_at c d k r,
    )

pub line_of : (l : List Float) (i : ℕ) → i < 1000000 → Within 1024 (get_or l (i * 2) nan) → Within 1024 (get_or l (i * 2 + 1) nan) → LineOf l i (line l i)
unfolding line
line_of l i h u v =
    let x = get_or l (i * 2) nan in
    let y = get_or l (i * 2 + 1) nan in
    let a = right_aligned-long 8 (decimal i) (number_most i h) in
    let b = right_aligned-long 28 (shown x) (shown-most x) in
    let c = right_aligned-long 28 (shown y) (shown-most y) in
    let k = cut-three (right_aligned 8 (decimal i)) (right_aligned 28 (shown x)) (right_aligned 28 (shown y)) (10 ∷ []) 8 28 28 a b c in
    record {
      long = line-long l i h;
      number = ap (read_from 0) k.0 ∙ read_right_aligned 8 (decimal i) ∙ (read-decimal 5 i (omega arith) (omega arith)).0;
      aligned = subst RightAligned (sym k.0) (aligned 8 (decimal i) ((read-decimal 5 i (omega arith) (omega arith)).1 32 (omega arith)));
      x = subst (ShownAs x) (sym k.1) (shown_as x u);
      y = subst (ShownAs y) (sym k.2) (shown_as y v);
      feed = get_or_at (right_aligned 8 (decimal i) ++ right_aligned 28 (shown x) ++ right_aligned 28 (shown y)) 10 [] 0 64 (simp length-append (omega arith));
    }

-- ---- the sheet: line i stands after the lines of the first i nodes
rest : (l : List Float) (i n : ℕ) → i < n → (t : List ℕ) × (lines l n ≡ lines l i ++ (line l i ++ t))
unfolding lines
rest l i zero h = absurd (omega arith)
rest l i (suc n) h =
    ⊎_elim
    (λ (e : i ≡ n). ([], ap (λ (k : ℕ). lines l k ++ line l k) (sym e) ∙ ap (λ (t : List ℕ). lines l i ++ t) (sym (append-nil (line l i)))))
    (λ (k : i < n). let r = rest l i n k in (r.0 ++ line l n, ap (λ (t : List ℕ). t ++ line l n) r.1 ∙ simp append_assoc))
    (eq-or-lt_of_le (below h))
  where
    below : i < suc n → i ≤ n
    below h = omega arith

module _ (l : List Float) (n : ℕ) (out : List ℕ) (u : Usable l n) (r : n * 65 ≤ length out) where
  placed : put out 0 (lines l n) ≡ lines l n ++ drop (n * 65) out
  unfolding put
  placed = let e : 0 + length (lines l n) ≡ n * 65 = omega (arith, lines_long l n (omega (arith, u.few))) in ap (λ (k : ℕ). lines l n ++ drop k out) e

  line_at : (i : ℕ) → i < n → take 65 (drop (i * 65) (lines l n ++ drop (n * 65) out)) ≡ line l i
  line_at i h =
      let p = rest l i n h in
      let few : i < 1000000 = omega (arith, u.few) in
      let e : lines l n ++ drop (n * 65) out ≡ lines l i ++ (line l i ++ (p.0 ++ drop (n * 65) out)) =
      ap (λ (t : List ℕ). t ++ drop (n * 65) out) p.1 ∙ simp append_assoc in
      ap (λ (t : List ℕ). take 65 (drop (i * 65) t)) e
      ∙ ap (take 65) (drop_at (lines l i) (line l i ++ (p.0 ++ drop (n * 65) out)) (i * 65) (lines_long l i (omega (arith, u.few))))
      ∙ take_at (line l i) (p.0 ++ drop (n * 65) out) 65 (line-long l i few)

  pub sheet-put : SheetIs l n out (put out 0 (lines l n))
  sheet-put = subst (SheetIs l n out) (sym placed) (record {
    long = length-append (lines l n) (drop (n * 65) out) ∙ omega (arith, lines_long l n (omega (arith, u.few)), length-drop (n * 65) out);
    lines = λ i h. subst (LineOf l i) (sym (line_at i h)) (line_of l i (omega (arith, u.few)) (u.ranged i h).0 (u.ranged i h).1);
    after = drop_at (lines l n) (drop (n * 65) out) (n * 65) (lines_long l n (omega (arith, u.few)));
  })

-- ---- what `node_sheet` leaves, by what it returns
pub accepted : (l : List Float) (n : ℕ) (out : List ℕ) → answer l n out ≡ 0 → SheetIs l n out (left l n out)
unfolding left answer
accepted l n out e = go (nodes_out l n) (ltb (length out) (n * 65)) refl refl e
  where
    go : (a b : Bool) → nodes_out l n ≡ a → ltb (length out) (n * 65) ≡ b → ◌≡◌ {A = ℕ} (cond a 3 (cond b 17 0)) 0
        → SheetIs l n out (cond (eqb (cond (nodes_out l n) 3 (cond (ltb (length out) (n * 65)) 17 0)) 0) (put out 0 (lines l n)) out)
    go true b p q e = absurd (omega arith)
    go false true p q e = absurd (omega arith)
    go false false p q e = rw (p, q) (sheet-put l n out (usable l n p) (ltb-false (length out) (n * 65) q))

pub refused : (l : List Float) (n : ℕ) (out : List ℕ) → (answer l n out ≡ 0 → ⊥) → left l n out ≡ out
unfolding left
refused l n out e = rw (ne_eqb (answer l n out) 0 e)
