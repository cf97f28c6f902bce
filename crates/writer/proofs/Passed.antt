-- The tests 1, 2 and 12 one after the other, what they show of a call that passes them, and the pair in its place.
use Prim.Native.Nat.{ℕ, ◌+◌, ◌-◌, ◌*◌, ◌/◌, ◌%◌, ◌≤◌, ◌<◌}
use mathlib.Core.Path.{◌≡◌, refl, sym, ap, ◌∙◌}
use mathlib.Core.Bool.{Bool, true, false, not, cond, ◌||◌}
use mathlib.Core.List.{List, ◌++◌, append_assoc}
use native.Mathlib.Omega.{arith}
use native.Mathlib.Decide.{dec_le}
use lib.ListN.{length, get_or, take, drop, length-append, length-drop, get_or-eq_default}
use lib.Seq.{take_all, drop-drop}
use lib.Dec.{ltb, eqb}
use lib.IntN.{ℤ, pos, negsuc}
use lib.Signed.{mag}
use borrow.Author.Tests.{eq-eqb, ne_eqb, ltb-false, eqb-true}
use borrow.Rule.Slice.PartMut.{put_mid}
use Rattle.laws.specs.Bounded.{any}
use Rattle.laws.proofs.Search.{any_none}
use Rattle.laws.proofs.Booleans.{neither, is_false, is_true, not-of}
use Rattle.call.specs.Call.{beyond, outside, any_outside, counts_out, units_out}
use Rattle.call.specs.Lent.{point_in, points_in, odd}
use Rattle.lent_points.proofs.Reading.{outside_at, any-outside-is}
use Rattle.blocks.specs.Writing.{block_bytes, Writable}
use Rattle.block_writer.proofs.Words.{length-block}
use Rattle.std.specs.Prelude.{Ok, Err}
use Rattle.std.specs.declared.result.Result.{Result}
use Rattle.writer.specs.declared.Refusal.{Refusal}
use Rattle.writer.specs.declared.Refusal.TheVariants.{Counts, Units, Destination}
use Rattle.writer.specs.Write.{counts, units, destination_out, refusal, number_of, tested, answer_of, pair_bytes, written}
use Rattle.laws.proofs.WrittenOut.{part-back}

none_of : (p q r : Bool) → ◌≡◌ {A = ℕ} (cond p 1 (cond q 2 (cond r 12 0))) 0 → (p ≡ false) × (q ≡ false) × (r ≡ false)
none_of true q r e = absurd (omega arith)
none_of false true r e = absurd (omega arith)
none_of false false true e = absurd (omega arith)
none_of false false false e = (refl, refl, refl)

-- ---- coordinates within the limits fit 32 bits
near : (z : ℤ) → beyond z ≡ false → mag z < 2147483648
near (pos n) e = omega (arith, ltb-false 8388608 n (neither (ltb 8388608 n) false e).0)
near (negsuc n) e = omega (arith, ltb-false 8388607 n e)

module _ (l : List ℤ) (h : length l % 2 ≡ 0) (e : any_outside (points_in l (length l / 2)) ≡ false) where
  point-near : (i : ℕ) → i < length l / 2 → (mag (get_or l (i * 2) (pos 0)) < 2147483648) × (mag (get_or l (i * 2 + 1) (pos 0)) < 2147483648)
  unfolding outside
  point-near i k =
      let x = get_or l (i * 2) (pos 0) in
      let y = get_or l (i * 2 + 1) (pos 0) in
      let t = is_false (outside (point_in l i))
      (any_none (outside_at l) (length l / 2) (not-of (any (outside_at l) (length l / 2)) (sym (any-outside-is l (length l / 2)) ∙ e)) i k) in
      let u = neither (beyond x) (beyond y) t in
      (near x u.0, near y u.1)

  at_place : (k : ℕ) → Dec (length l ≤ k) → Dec (k % 2 ≤ 0) → mag (get_or l k (pos 0)) < 2147483648
  at_place k (yes p) q = rw (get_or-eq_default l (pos 0) {n = k} p) (omega arith)
  at_place k (no p) (yes q) =
      let d : k / 2 * 2 ≡ k = omega arith in
      let t = (point-near (k / 2) (omega (arith, h, p))).0 in
      rw d at t
  at_place k (no p) (no q) =
      let d : k / 2 * 2 + 1 ≡ k = omega arith in
      let t = (point-near (k / 2) (omega (arith, h, p))).1 in
      rw d at t

  all-wide : (k : ℕ) → mag (get_or l k (pos 0)) < 2147483648
  all-wide k = at_place k (dec_le (length l) k) (dec_le (k % 2) 0)

-- ---- the first that refuses
module _ (ring chain : List ℤ) (size number places : ℕ) where
  -- what the code answers, by its number
  pub agrees : (r : Result (Unit {0}) Refusal) → r ≡ tested ring chain size number places → answer_of r ≡ refusal ring chain size number places
  unfolding tested refusal
  agrees r e = ap answer_of e ∙ go (counts ring chain) (units ring chain size) (destination_out places number)
    where
      go : (a b c : Bool) → answer_of (cond a (Err Counts) (cond b (Err Units) (cond c (Err Destination) (Ok tt)))) ≡ cond a 1 (cond b 2 (cond c 12 0))
      go true b c = refl
      go false true c = refl
      go false false true = refl
      go false false false = refl

  pub none_refuses : Ok tt ≡ tested ring chain size number places → 0 ≡ refusal ring chain size number places
  none_refuses e = agrees (Ok tt) e

  pub one_refuses : (r : Refusal) → Err r ≡ tested ring chain size number places → number_of r ≡ refusal ring chain size number places
  one_refuses r e = agrees (Err r) e

  -- a call that passes
  module _ (z : refusal ring chain size number places ≡ 0) where
    tests : (counts ring chain ≡ false) × (units ring chain size ≡ false) × (destination_out places number ≡ false)
    unfolding refusal
    tests = none_of (counts ring chain) (units ring chain size) (destination_out places number) z

    pub room : 1024 ≤ places
    unfolding destination_out
    room =
        ltb-false places 1024 (neither (ltb places 1024) (not (eqb (number % 2) 0))
        (neither (ltb places 1024 || not (eqb (number % 2) 0)) (ltb 65534 number) tests.2).0).0

    pub even-number : number % 2 ≡ 0
    unfolding destination_out
    even-number =
        eqb-true (number % 2) 0 (is_true (eqb (number % 2) 0)
        (neither (ltb places 1024) (not (eqb (number % 2) 0)) (neither (ltb places 1024 || not (eqb (number % 2) 0)) (ltb 65534 number) tests.2).0).1)

    pub low-number : number ≤ 65534
    unfolding destination_out
    low-number = ltb-false 65534 number (neither (ltb places 1024 || not (eqb (number % 2) 0)) (ltb 65534 number) tests.2).1

    counted : (odd ring || odd chain ≡ false) × (counts_out (length ring / 2) (length chain / 2) ≡ false)
    counted = neither (odd ring || odd chain) (counts_out (length ring / 2) (length chain / 2)) tests.0

    few : (length ring / 2 ≤ 60) × (length chain / 2 ≤ 60)
    unfolding counts_out
    few =
        let r = length ring / 2 in
        let c = length chain / 2 in
        let u = neither (ltb r 3 || ltb 60 r) (ltb 60 c) counted.1 in
        (ltb-false 60 r (neither (ltb r 3) (ltb 60 r) u.0).1, ltb-false 60 c u.1)

    pub few-ring : length ring / 2 ≤ 60
    few-ring = few.0

    pub few-chain : length chain / 2 ≤ 60
    few-chain = few.1

    evens : (length ring % 2 ≡ 0) × (length chain % 2 ≡ 0)
    evens =
        let a = length ring % 2 in
        let b = length chain % 2 in
        let v = neither (odd ring) (odd chain) counted.0 in
        (eqb-true a 0 (is_true (eqb a 0) v.0), eqb-true b 0 (is_true (eqb b 0) v.1))

    unit-tests : (any_outside (points_in ring (length ring / 2)) ≡ false) × (any_outside (points_in chain (length chain / 2)) ≡ false) × (size ≤ 2048)
    unfolding units_out
    unit-tests =
        let r = any_outside (points_in ring (length ring / 2)) in
        let c = any_outside (points_in chain (length chain / 2)) in
        let u = neither (r || c || eqb size 0) (ltb 2048 size) tests.1 in
        let v = neither r c (neither (r || c) (eqb size 0) u.0).0 in
        (v.0, v.1, ltb-false 2048 size u.1)

    pub ring_writable : Writable ring size number
    ring_writable =
        record {
          even = evens.0;
          few = few-ring;
          wide = all-wide ring evens.0 unit-tests.0;
          sizes = omega (arith, unit-tests.2);
          numbers = omega (arith, low-number);
          chain = λ h. absurd (h even-number);
        }

    pub chain_writable : Writable chain 0 (number + 1)
    chain_writable =
        record {
          even = evens.1;
          few = few-chain;
          wide = all-wide chain evens.1 unit-tests.1;
          sizes = omega arith;
          numbers = omega (arith, low-number);
          chain = λ h. refl;
        }

-- ---- the destination
module _ (ring chain : List ℤ) (size number : ℕ) (out : List ℕ) where
  pub left_alone : (k : ℕ) → k ≡ refusal ring chain size number (length out) → 0 < k → out ≡ written ring chain size number out
  unfolding written
  left_alone k e h = rw (ne_eqb (refusal ring chain size number (length out)) 0 (λ d. omega (arith, e, d, h)))

  pub left_refused : (r : Refusal) → Err r ≡ tested ring chain size number (length out) → out ≡ written ring chain size number out
  left_refused r e = left_alone (number_of r) (agrees ring chain size number (length out) (Err r) e) (some r)
    where
      some : (r : Refusal) → 0 < number_of r
      some Counts = omega arith
      some Units = omega arith
      some Destination = omega arith

  module _ (z : refusal ring chain size number (length out) ≡ 0) where
    pub written_is : written ring chain size number out ≡ block_bytes ring size number ++ (block_bytes chain 0 (number + 1) ++ drop 1024 out)
    unfolding written pair_bytes
    written_is =
        rw (eq-eqb (refusal ring chain size number (length out)) 0 z)
        (append_assoc (block_bytes ring size number) (block_bytes chain 0 (number + 1)) (drop 1024 out))

    -- the chain's block, written after the ring's
    pub both : (l r : List ℕ) → l ≡ block_bytes ring size number ++ drop 512 out
        → r ≡ block_bytes chain 0 (number + 1) ++ drop 512 (take (length l - 512) (drop 512 l))
        → put_mid 512 (length l - 512) l r ≡ written ring chain size number out
    both l r d e =
        let b = block_bytes chain 0 (number + 1) in
        let n : length b ≡ 512 = length-block chain 0 (number + 1) in
        let p = part-back l (block_bytes ring size number) b r (drop 512 out) 512 (length-block ring size number) d
        (omega (arith, n, length-drop 512 out, room ring chain size number (length out) z)) (e ∙ rw n) in
        let s : drop 512 (drop 512 out) ≡ drop 1024 out = drop-drop 512 512 out in
        p ∙ rw (n, s) (sym written_is)

    pub as_long : (l : List ℕ) → l ≡ block_bytes ring size number ++ drop 512 out → length l ≡ length out
    as_long l d =
        ap length d ∙ length-append (block_bytes ring size number) (drop 512 out)
        ∙ omega (arith, length-block ring size number, length-drop 512 out, room ring chain size number (length out) z)

pub part-long : (l : List ℕ) → 1024 ≤ length l → 512 ≤ length (take (length l - 512) (drop 512 l))
part-long l h =
    let n : length (drop 512 l) ≡ length l - 512 = length-drop 512 l in
    let t : take (length l - 512) (drop 512 l) ≡ drop 512 l = take_all (length l - 512) (drop 512 l) (omega arith) in
    rw t (omega arith)
