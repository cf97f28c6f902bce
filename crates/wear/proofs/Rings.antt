-- Card 14's sentences. Of every list of answers from the empty record (`last-rings`): each call reports the values for the last 32 accepted, a refused one
-- leaves the record, the total is at most 1,024. Of every list of bytes and every answer (`as_it_came`): 0 or 20, the record as it came with 20 and with a
-- refused ring, the total at most 1,024. Of answers that have at most 32 cuts where their number is 0 (`follows`): never 20. The record's rings in order of
-- age are the last 32 accepted.
use Prim.Native.Nat.{ℕ, zero, suc, ◌+◌, ◌*◌, ◌-◌, ◌%◌, ◌≤◌, ◌<◌}
use native.Mathlib.Nat.{min-le_left}
use native.Mathlib.Omega.{arith}
use mathlib.Core.Path.{◌≡◌, refl, sym, ap, ◌∙◌, subst}
use mathlib.Core.Logic.{◌⊎◌, inl, inr}
use mathlib.Core.Bool.{Bool, true, false, not, ◌&&◌, ◌||◌, cond}
use mathlib.Core.List.{List, [], ◌∷◌, ◌++◌, append-nil, append_assoc}
use lib.ListN.{length, get_or, set, take, length-append, length-set, length-take}
use lib.Seq.{take_all, take-suc, get_or-set_same, get_or-set_other, get_or-append-add, length-take-le, take_at, get_or_at}
use lib.Dec.{ltb, leb, eqb}
use borrow.Author.Tests.{ltb-true, ltb-false, le-ltb, le-leb, lt-leb, leb-true, leb-false, eq-eqb, ne_eqb, eqb-true, eqb-false}
use Rattle.laws.specs.Bounded.{any}
use Rattle.laws.proofs.Search.{any_at, any-fails}
use Rattle.laws.proofs.Lists.{all_drop, all_right}
use Rattle.laws.specs.All.{All}
use Rattle.wear.specs.declared.Record.{Record}
use Rattle.wear.specs.Wear.{total, highest, held_cuts, over_at, any_over, misplaced, invalid, grown, stored, Added, values_in, reported, refused, added}
use Rattle.wear.specs.Bytes.{record_in, bytes_of, values_of, refusal, returned, left, AsItCame}
use Rattle.wear.specs.Answers.{RingAnswer, is_accepted, accepted, last, empty, after, values_for, LastRings, FewCuts, zeros, Follows}
use Rattle.wear.proofs.Tests.{Valid, is-valid, valid-passes, next_low, next-same, bad_record, refused-ring, over-cuts, one_more}
use Rattle.wear.proofs.Age.{aged, aged-total, aged-highest, aged-length, aged-more, last-last, last-length}

clash : (b : Bool) → b ≡ true → b ≡ false → ⊥
clash b e f = let z : ◌≡◌ {A = ℕ} 0 1 = cc in omega arith

kept-refused : (r : Record) → bytes_of (refused r).kept ≡ bytes_of r
unfolding refused
kept-refused r = refl

kept-reported : (r : Record) → bytes_of (reported r).kept ≡ bytes_of r
unfolding reported
kept-reported r = refl

-- ---- a next place that is the number of rings, or any of the 32
well_placed : (m n : ℕ) → (m < 32 → n ≡ m) → n < 32 → misplaced m n ≡ false
unfolding misplaced
well_placed m n f h = go (ltb m 32) refl
  where
    go : (t : Bool) → ltb m 32 ≡ t → cond t (not (eqb n m)) (ltb 31 n) ≡ false
    go true e = rw (eq-eqb n m (f (ltb-true m 32 e)))
    go false e = le-ltb 31 n (omega arith)

long-stored : (r : Record) (x : ℕ) → length (stored r x).cuts ≡ length r.cuts
unfolding stored
long-stored r x = length-set r.cuts r.next x

-- ---- one ring more leaves a valid record
module _ (r : Record) (x : ℕ) (h : length r.cuts ≡ 32) (v : Valid r) (u : x ≤ 32) where
  rings-low : grown r.rings ≤ 32
  rings-low = go (ltb r.rings 32) refl
    where
      go : (t : Bool) → ltb r.rings 32 ≡ t → cond t (r.rings + 1) 32 ≤ 32
      go true e = let k = ltb-true r.rings 32 e in omega arith
      go false e = omega arith

  place-next : misplaced (grown r.rings) ((r.next + 1) % 32) ≡ false
  place-next = well_placed (grown r.rings) ((r.next + 1) % 32) (go (ltb r.rings 32) refl) (omega arith)
    where
      go : (t : Bool) → ltb r.rings 32 ≡ t → cond t (r.rings + 1) 32 < 32 → (r.next + 1) % 32 ≡ cond t (r.rings + 1) 32
      go true e k = let a = next-same r v (ltb-true r.rings 32 e) in omega arith
      go false e k = absurd (omega (arith, k))

  small_all : any_over (set r.cuts r.next x) (grown r.rings) ≡ false
  unfolding any_over
  small_all = any-fails (over_at (set r.cuts r.next x)) (grown r.rings) at
    where
      was : (i : ℕ) → (i ≡ r.next → ⊥) → i < grown r.rings → i < r.rings
      was i f k = go (ltb r.rings 32) refl k
        where
          go : (t : Bool) → ltb r.rings 32 ≡ t → i < cond t (r.rings + 1) 32 → i < r.rings
          go true e k = let a = next-same r v (ltb-true r.rings 32 e) in let b : i ≡ r.rings → ⊥ = λ q. f (q ∙ sym a) in omega (arith, b)
          go false e k = let a = ltb-false r.rings 32 e in omega (arith, k)

      at : (i : ℕ) → i < grown r.rings → over_at (set r.cuts r.next x) i ≡ false
      at i k = go (eqb i r.next) refl
        where
          go : (t : Bool) → eqb i r.next ≡ t → over_at (set r.cuts r.next x) i ≡ false
          go true e =
              let a = eqb-true i r.next e in
              let n = next_low r v in
              let b : get_or (set r.cuts r.next x) i 0 ≡ x =
              ap (λ (j : ℕ). get_or (set r.cuts r.next x) j 0) a ∙ get_or-set_same r.cuts r.next x 0 (omega arith) in
              le-ltb 32 (get_or (set r.cuts r.next x) i 0) (omega (arith, b))
          go false e =
              let f = eqb-false i r.next e in
              let b : get_or (set r.cuts r.next x) i 0 ≡ get_or r.cuts i 0 = get_or-set_other r.cuts r.next i x 0 f in
              ap (ltb 32) b ∙ any_at (over_at r.cuts) r.rings v.small i (was i f k)

  stored-valid : Valid (stored r x)
  unfolding stored
  stored-valid = record { few = rings-low; place = place-next; small = small_all }

-- ---- a record in bytes and back
back : (r : Record) → length r.cuts ≡ 32 → record_in (bytes_of r) ≡ r
back r h =
    let a : take 32 (bytes_of r) ≡ r.cuts = take_at r.cuts (r.rings ∷ r.next ∷ []) 32 h in
    let b : get_or (bytes_of r) 32 0 ≡ r.rings = get_or_at r.cuts r.rings (r.next ∷ []) 0 32 h in
    let e : length r.cuts + 1 ≡ 33 = omega arith in
    let c : get_or (bytes_of r) 33 0 ≡ r.next = ap (λ (k : ℕ). get_or (bytes_of r) k 0) (sym e) ∙ get_or-append-add r.cuts (r.rings ∷ r.next ∷ []) 1 0 in
    λ j. record { cuts = a j; rings = b j; next = c j }

forth : (l : List ℕ) → length l ≡ 34 → bytes_of (record_in l) ≡ l
forth l h =
    let a : take 34 l ≡ take 33 l ++ (get_or l 33 0 ∷ []) = take-suc l 33 0 (omega arith) in
    let b : take 33 l ≡ take 32 l ++ (get_or l 32 0 ∷ []) = take-suc l 32 0 (omega arith) in
    let c : (take 32 l ++ (get_or l 32 0 ∷ [])) ++ (get_or l 33 0 ∷ []) ≡ bytes_of (record_in l) =
    append_assoc (take 32 l) (get_or l 32 0 ∷ []) (get_or l 33 0 ∷ []) in
    sym c ∙ ap (λ (m : List ℕ). m ++ (get_or l 33 0 ∷ [])) (sym b) ∙ sym a ∙ take_all 34 l (omega arith)

-- ---- the three ways of an answer
data Way (a : RingAnswer) : Type 0 where
  taken : a.code ≡ 0 → a.cuts ≤ 32 → Way a
  over : a.code ≡ 0 → 32 < a.cuts → Way a
  turned : (a.code ≡ 0 → ⊥) → Way a

way : (a : RingAnswer) → Way a
way a = go (eqb a.code 0) (leb a.cuts 32) refl refl
  where
    go : (s t : Bool) → eqb a.code 0 ≡ s → leb a.cuts 32 ≡ t → Way a
    go true true e f = taken (eqb-true a.code 0 e) (leb-true a.cuts 32 f)
    go true false e f = over (eqb-true a.code 0 e) (leb-false a.cuts 32 f)
    go false t e f = turned (eqb-false a.code 0 e)

-- ---- the bytes l hold the last 32 of h
record Holds (l h : List ℕ) : Type 0 where
  long : length l ≡ 34
  valid : Valid (record_in l)
  same : aged (record_in l) ≡ last 32 h

module _ (l h : List ℕ) (s : Holds l h) where
  many : length (take 32 l) ≡ 32
  many = let e = s.long in length-take-le 32 l (omega arith)

  values : values_of (reported (record_in l)) ≡ values_for (last 32 h)
  unfolding reported values_in
  values =
      let r = record_in l in
      let a = aged-total r ∙ ap total s.same in
      let b = aged-highest r ∙ ap highest s.same in
      let c = aged-length r many s.valid ∙ ap length s.same in
      λ j. record { code = 0; total = a j; highest = b j; rings = c j }

  is-left : (a : RingAnswer) → left l a.code a.cuts ≡ bytes_of (added (record_in l) a.code a.cuts).kept
  unfolding left
  is-left a = rw (eq-eqb (length l) 34 s.long)

  is-returned : (a : RingAnswer) → returned l a.code a.cuts ≡ values_of (added (record_in l) a.code a.cuts)
  unfolding returned
  is-returned a = rw (eq-eqb (length l) 34 s.long)

  passes : invalid (record_in l) ≡ false
  passes = valid-passes (record_in l) s.valid

  -- accepted: one more
  module _ (a : RingAnswer) (e : a.code ≡ 0) (f : a.cuts ≤ 32) where
    next : Record
    next = stored (record_in l) a.cuts

    answer : added (record_in l) a.code a.cuts ≡ reported next
    unfolding next
    answer = sym (one_more (record_in l) a.code a.cuts passes e f)

    next-many : length next.cuts ≡ 32
    unfolding next stored
    next-many = length-set (take 32 l) (get_or l 33 0) a.cuts ∙ many

    kept : left l a.code a.cuts ≡ bytes_of next
    unfolding reported
    kept = is-left a ∙ ap (λ (x : Added). bytes_of x.kept) answer

    is-next : record_in (left l a.code a.cuts) ≡ next
    is-next = ap record_in kept ∙ back next next-many

    more : Holds (left l a.code a.cuts) (h ++ (a.cuts ∷ []))
    unfolding next
    more =
        let v : Valid next = stored-valid (record_in l) a.cuts many s.valid f in
        let n : length (bytes_of next) ≡ 34 = length-append next.cuts (next.rings ∷ next.next ∷ []) ∙ omega (arith, next-many) in
        let t = aged-more (record_in l) a.cuts many s.valid in
        record {
          long = ap length kept ∙ n;
          valid = subst Valid (sym is-next) v;
          same = ap aged is-next ∙ t ∙ ap (λ (m : List ℕ). last 32 (m ++ (a.cuts ∷ []))) s.same ∙ last-last 32 h (a.cuts ∷ []);
        }

  -- refused or over: as it came
  stays : (a : RingAnswer) → is_accepted a ≡ false → left l a.code a.cuts ≡ l
  stays a e = go (way a)
    where
      go : Way a → left l a.code a.cuts ≡ l
      go (taken p q) = absurd (clash (is_accepted a) (rw (eq-eqb a.code 0 p) (le-leb a.cuts 32 q)) e)
      go (over p q) =
          is-left a ∙ ap (λ (x : Added). bytes_of x.kept) (sym (over-cuts (record_in l) a.code a.cuts passes p q)) ∙ kept-refused (record_in l)
          ∙ forth l s.long
      go (turned p) =
          is-left a ∙ ap (λ (x : Added). bytes_of x.kept) (sym (refused-ring (record_in l) a.code a.cuts passes p)) ∙ kept-reported (record_in l)
          ∙ forth l s.long

  -- its number is not 0: the values of the record as it is
  turned-reports : (a : RingAnswer) → (a.code ≡ 0 → ⊥) → returned l a.code a.cuts ≡ values_for (last 32 h)
  turned-reports a p = is-returned a ∙ ap values_of (sym (refused-ring (record_in l) a.code a.cuts passes p)) ∙ values

  over-reports : (a : RingAnswer) → a.code ≡ 0 → 32 < a.cuts → returned l a.code a.cuts ≡ refusal
  unfolding refused
  over-reports a p q = is-returned a ∙ ap values_of (sym (over-cuts (record_in l) a.code a.cuts passes p q))

taken-reports : (l h : List ℕ) (s : Holds l h) (a : RingAnswer) → a.code ≡ 0 → a.cuts ≤ 32
    → returned l a.code a.cuts ≡ values_for (last 32 (h ++ (a.cuts ∷ [])))
taken-reports l h s a e f =
    is-returned l h s a ∙ ap values_of (answer l h s a e f) ∙ ap (λ (r : Record). values_of (reported r)) (sym (is-next l h s a e f))
    ∙ values (left l a.code a.cuts) (h ++ (a.cuts ∷ [])) (more l h s a e f)

-- ---- every list of answers
pub accepts : (a : RingAnswer) → a.code ≡ 0 → a.cuts ≤ 32 → is_accepted a ≡ true
accepts a p q = rw (eq-eqb a.code 0 p) (le-leb a.cuts 32 q)

not-over : (a : RingAnswer) → 32 < a.cuts → is_accepted a ≡ false
not-over a q = go (eqb a.code 0)
  where
    go : (t : Bool) → (t && leb a.cuts 32) ≡ false
    go true = lt-leb a.cuts 32 q
    go false = refl

not-turned : (a : RingAnswer) → (a.code ≡ 0 → ⊥) → is_accepted a ≡ false
not-turned a p = rw (ne_eqb a.code 0 p)

accepted-append : (gs ks : List RingAnswer) → accepted (gs ++ ks) ≡ accepted gs ++ accepted ks
unfolding accepted
accepted-append [] ks = refl
accepted-append (a ∷ gs) ks = go (is_accepted a) (accepted-append gs ks)
  where
    go : (t : Bool) → accepted (gs ++ ks) ≡ accepted gs ++ accepted ks
        → cond t (a.cuts ∷ accepted (gs ++ ks)) (accepted (gs ++ ks)) ≡ cond t (a.cuts ∷ accepted gs) (accepted gs) ++ accepted ks
    go true e = ap (λ (l : List ℕ). a.cuts ∷ l) e
    go false e = e

holds_after : (gs : List RingAnswer) (l h : List ℕ) → Holds l h → Holds (after l gs) (h ++ accepted gs)
unfolding after accepted
holds_after [] l h s = subst (Holds l) (sym (append-nil h)) s
holds_after (a ∷ gs) l h s = go (way a) (holds_after gs (left l a.code a.cuts))
  where
    skip : is_accepted a ≡ false → ((k : List ℕ) → Holds (left l a.code a.cuts) k → Holds (after (left l a.code a.cuts) gs) (k ++ accepted gs))
        → Holds (after (left l a.code a.cuts) gs) (h ++ cond (is_accepted a) (a.cuts ∷ accepted gs) (accepted gs))
    skip e f = rw e (f h (subst (λ (m : List ℕ). Holds m h) (sym (stays l h s a e)) s))

    go : Way a → ((k : List ℕ) → Holds (left l a.code a.cuts) k → Holds (after (left l a.code a.cuts) gs) (k ++ accepted gs))
        → Holds (after (left l a.code a.cuts) gs) (h ++ cond (is_accepted a) (a.cuts ∷ accepted gs) (accepted gs))
    go (taken p q) f =
        rw (accepts a p q)
        (subst (Holds (after (left l a.code a.cuts) gs)) (append_assoc h (a.cuts ∷ []) (accepted gs)) (f (h ++ (a.cuts ∷ [])) (more l h s a p q)))
    go (over p q) f = skip (not-over a q) f
    go (turned p) f = skip (not-turned a p) f

start : Holds empty []
unfolding last misplaced any_over any
start = record { long = refl; valid = record { few = omega arith; place = refl; small = refl }; same = refl }

-- ---- the total
accepted-low : (gs : List RingAnswer) → All (λ x. x ≤ 32) (accepted gs)
unfolding accepted
accepted-low [] = tt
accepted-low (a ∷ gs) = go (way a) (accepted-low gs)
  where
    skip : is_accepted a ≡ false → All (λ x. x ≤ 32) (accepted gs) → All (λ x. x ≤ 32) (cond (is_accepted a) (a.cuts ∷ accepted gs) (accepted gs))
    skip e h = rw e h

    go : Way a → All (λ x. x ≤ 32) (accepted gs) → All (λ x. x ≤ 32) (cond (is_accepted a) (a.cuts ∷ accepted gs) (accepted gs))
    go (taken p q) h = rw (accepts a p q) ((q, h))
    go (over p q) h = skip (not-over a q) h
    go (turned p) h = skip (not-turned a p) h

total-low : (l : List ℕ) → All (λ x. x ≤ 32) l → total l ≤ 32 * length l
total-low [] h = omega arith
total-low (x ∷ l) h = omega (arith, h.0, total-low l h.1)

last-all : (l : List ℕ) → All (λ x. x ≤ 32) l → All (λ x. x ≤ 32) (last 32 l)
unfolding last
last-all l h = all_drop (λ x. x ≤ 32) (length l - 32) l h

last-low : (l : List ℕ) → All (λ x. x ≤ 32) l → total (last 32 l) ≤ 1024
last-low l h = omega (arith, total-low (last 32 l) (last-all l h), last-length 32 l)

-- ---- Card 14
module _ (gs : List RingAnswer) (a : RingAnswer) where
  now : Holds (after empty gs) (accepted gs)
  now = holds_after gs empty [] start

  known : Bool
  known = is_accepted a || not (eqb a.code 0)

  unknown : a.code ≡ 0 → 32 < a.cuts → known ≡ false
  unfolding known
  unknown p q = rw (not-over a q, eq-eqb a.code 0 p)

  one-taken : is_accepted a ≡ true → accepted (gs ++ (a ∷ [])) ≡ accepted gs ++ (a.cuts ∷ [])
  unfolding accepted
  one-taken e = accepted-append gs (a ∷ []) ∙ rw e

  one_skipped : is_accepted a ≡ false → accepted (gs ++ (a ∷ [])) ≡ accepted gs
  unfolding accepted
  one_skipped e = accepted-append gs (a ∷ []) ∙ rw e (append-nil (accepted gs))

  says : known ≡ true → returned (after empty gs) a.code a.cuts ≡ values_for (last 32 (accepted (gs ++ (a ∷ []))))
  says e = go (way a)
    where
      go : Way a → returned (after empty gs) a.code a.cuts ≡ values_for (last 32 (accepted (gs ++ (a ∷ []))))
      go (taken p q) = taken-reports (after empty gs) (accepted gs) now a p q ∙ ap (λ (h : List ℕ). values_for (last 32 h)) (sym (one-taken (accepts a p q)))
      go (over p q) = absurd (clash known e (unknown p q))
      go (turned p) = turned-reports (after empty gs) (accepted gs) now a p ∙ ap (λ (h : List ℕ). values_for (last 32 h)) (sym (one_skipped (not-turned a p)))

  nothing : accepted (gs ++ (a ∷ [])) ≡ [] → (a.code ≡ 0 → ⊥)
      → returned (after empty gs) a.code a.cuts ≡ record { code = 0; total = 0; highest = 0; rings = 0 }
  unfolding highest last
  nothing e p = turned-reports (after empty gs) (accepted gs) now a p ∙ ap (λ (h : List ℕ). values_for (last 32 h)) (sym (one_skipped (not-turned a p)) ∙ e)

  twenty : known ≡ false → returned (after empty gs) a.code a.cuts ≡ refusal
  unfolding known
  twenty e = go (way a)
    where
      go : Way a → returned (after empty gs) a.code a.cuts ≡ refusal
      go (taken p q) = absurd (clash known (rw (accepts a p q)) e)
      go (over p q) = over-reports (after empty gs) (accepted gs) now a p q
      go (turned p) = absurd (clash known (rw (not-turned a p, ne_eqb a.code 0 p)) e)

  -- Card 14
  pub last-rings : LastRings gs a
  unfolding known
  last-rings =
      record {
        reports = says;
        none = nothing;
        bounded = last-low (accepted gs) (accepted-low gs);
        few = last-length 32 (accepted gs);
        over = twenty;
        leaves = stays (after empty gs) (accepted gs) now a;
        valid = passes (after empty gs) (accepted gs) now;
        long = now.long;
      }

-- ---- every list of bytes, whatever it holds
-- the cuts of a valid record are 32 or fewer each
held_low : (l : List ℕ) (n : ℕ) → any (over_at l) n ≡ false → All (λ x. x ≤ 32) (take n l)
held_low l zero e = tt
held_low [] (suc n) e = tt
held_low (x ∷ l) (suc n) e = (
  ltb-false 32 x (any_at (over_at (x ∷ l)) (suc n) e 0 (omega arith)),
  held_low l n (any-fails (over_at l) n (λ i k. any_at (over_at (x ∷ l)) (suc n) e (suc i) (omega arith))),
)

valid-low : (r : Record) → Valid r → total (held_cuts r) ≤ 1024
unfolding any_over
valid-low r v =
    let a = total-low (held_cuts r) (held_low r.cuts r.rings v.small) in
    let b : length (held_cuts r) ≤ r.rings = rw (length-take r.rings r.cuts) (min-le_left r.rings (length r.cuts)) in
    omega (arith, a, b, v.few)

-- an answer into a record of 32 places
record Came (r : Record) (a : Added) : Type 0 where
  either : ((values_of a).code ≡ 0) ⊎ (values_of a ≡ refusal)
  twenty : (values_of a).code ≡ 20 → a.kept ≡ r
  long : length a.kept.cuts ≡ length r.cuts
  bounded : (values_of a).total ≤ 1024

refused_came : (r : Record) → Came r (refused r)
unfolding refused
refused_came r = record { either = inr refl; twenty = λ e. refl; long = refl; bounded = omega arith }

reported_came : (r s : Record) → Valid s → length s.cuts ≡ length r.cuts → Came r (reported s)
unfolding reported values_in
reported_came r s v h = record { either = inl refl; twenty = λ e. absurd (omega (arith, e)); long = h; bounded = valid-low s v }

came : (r : Record) (code cuts : ℕ) → length r.cuts ≡ 32 → Came r (added r code cuts)
came r code cuts h = go (invalid r) refl (way (record { code = code; cuts = cuts }))
  where
    stored-long : length (stored r cuts).cuts ≡ length r.cuts
    stored-long = long-stored r cuts

    go : (b : Bool) → invalid r ≡ b → Way (record { code = code; cuts = cuts }) → Came r (added r code cuts)
    go true e w = subst (Came r) (bad_record r code cuts e) (refused_came r)
    go false e (taken p q) = subst (Came r) (one_more r code cuts e p q) (reported_came r (stored r cuts) (stored-valid r cuts h (is-valid r e) q) stored-long)
    go false e (over p q) = subst (Came r) (over-cuts r code cuts e p q) (refused_came r)
    go false e (turned p) = subst (Came r) (refused-ring r code cuts e p) (reported_came r r (is-valid r e) refl)

stays-kept : (r : Record) (code cuts : ℕ) → (code ≡ 0 → ⊥) → (added r code cuts).kept ≡ r
unfolding reported refused
stays-kept r code cuts p = go (invalid r) refl
  where
    go : (b : Bool) → invalid r ≡ b → (added r code cuts).kept ≡ r
    go true e = ap (λ (a : Added). a.kept) (sym (bad_record r code cuts e))
    go false e = ap (λ (a : Added). a.kept) (sym (refused-ring r code cuts e p))

pub as_it_came : (l : List ℕ) (code cuts : ℕ) → AsItCame l code cuts
unfolding returned left
as_it_came l code cuts = go (eqb (length l) 34) refl
  where
    go : (b : Bool) → eqb (length l) 34 ≡ b → AsItCame l code cuts
    go true e =
        let h = eqb-true (length l) 34 e in
        let m : length (take 32 l) ≡ 32 = length-take-le 32 l (omega arith) in
        let s = came (record_in l) code cuts m in
        let a = added (record_in l) code cuts in
        record {
          either = rw e s.either;
          twenty = rw e (λ q. ap bytes_of (s.twenty q) ∙ forth l h);
          unchanged = rw e (λ q. ap bytes_of (stays-kept (record_in l) code cuts q) ∙ forth l h);
          long = rw e (length-append a.kept.cuts (a.kept.rings ∷ a.kept.next ∷ []) ∙ omega (arith, s.long, m, h));
          bounded = rw e s.bounded;
        }
    go false e = record { either = rw e (inr refl); twenty = rw e (λ q. refl); unchanged = rw e (λ q. refl); long = rw e refl; bounded = rw e (omega arith) }

-- ---- answers of divider calls
zeros-accepted : (gs : List RingAnswer) → All FewCuts gs → accepted gs ≡ zeros gs
unfolding accepted zeros
zeros-accepted [] h = refl
zeros-accepted (a ∷ gs) h = go (way a) (zeros-accepted gs h.1)
  where
    go : Way a → accepted gs ≡ zeros gs → cond (is_accepted a) (a.cuts ∷ accepted gs) (accepted gs) ≡ cond (eqb a.code 0) (a.cuts ∷ zeros gs) (zeros gs)
    go (taken p q) e = rw (accepts a p q, eq-eqb a.code 0 p) (ap (λ (l : List ℕ). a.cuts ∷ l) e)
    go (over p q) e = absurd (omega (arith, h.0 p, q))
    go (turned p) e = rw (not-turned a p, ne_eqb a.code 0 p) e

pub follows : (gs : List RingAnswer) (a : RingAnswer) → Follows gs a
follows gs a h = (last-rings gs a).reports (go (way a)) ∙ ap (λ (l : List ℕ). values_for (last 32 l)) (zeros-accepted (gs ++ (a ∷ [])) h)
  where
    go : Way a → (is_accepted a || not (eqb a.code 0)) ≡ true
    go (taken p q) = rw (accepts a p q)
    go (over p q) = absurd (omega (arith, (all_right FewCuts gs (a ∷ []) h).0 p, q))
    go (turned p) = rw (not-turned a p, ne_eqb a.code 0 p)
