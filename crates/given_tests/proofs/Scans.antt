-- The scans of refusals 13 and 14, place by place: kinds, given points and loops. The sum of the loops stops past 60, where the outline has too few points
-- for it.
use Prim.Native.Nat.{ℕ, ◌+◌, ◌*◌, ◌≤◌, ◌<◌}
use native.Mathlib.Omega.{arith}
use mathlib.Core.Path.{◌≡◌, sym, ap, ◌∙◌}
use mathlib.Core.Bool.{Bool, true, false, not, ◌||◌}
use mathlib.Core.List.{List, []}
use lib.ListN.{length, get_or, take}
use lib.Seq.{take-length}
use lib.Dec.{ltb, eqb}
use lib.Ieee.{Float}
use borrow.Author.Tests.{lt-ltb, ltb-false, ne_eqb, eq-eqb, eqb-true}
use Rattle.laws.specs.Bounded.{any}
use Rattle.laws.proofs.Booleans.{is_true, is_false, not-of, neither, or-true}
use Rattle.laws.proofs.Search.{any_hit, any_none, any_ext, any_listed}
use Rattle.std.specs.List.{list_any, enumerate_from}
use Rattle.std.proofs.lemmas.List.FromFn.{length-enumerate_from, get_or-enumerate_from}
use Rattle.outline.specs.Outline.{total}
use Rattle.outline.proofs.Scan.{total_up, sum_more, loops-few}
use Rattle.nodes.specs.Flat.{node_in_of}
use Rattle.call.specs.Marked.{mark_out, marks_out, loops_out}

abbrev pub out_of : List Float → ℕ × ℕ → Bool
out_of snaps p = mark_out p.1 (node_in_of snaps p.0)

-- the library's search over the kinds and their places, where the counts are right
pub marks_listed : (kinds : List ℕ) (snaps : List Float) (n : ℕ) → length kinds ≡ n → not (eqb (length snaps) (n * 2)) ≡ false
    → list_any (out_of snaps) (enumerate_from 0 kinds) ≡ marks_out kinds snaps n
unfolding marks_out
marks_listed kinds snaps n e h =
    let ps = enumerate_from 0 kinds in
    any_listed (out_of snaps) (0, 0) ps
    ∙ ap (any (λ i. out_of snaps (get_or ps i (0, 0)))) (length-enumerate_from 0 kinds ∙ e)
    ∙ any_ext (λ i. out_of snaps (get_or ps i (0, 0))) (λ i. out_of snaps (i, get_or kinds i 0)) n
    (λ i l. ap (out_of snaps) (get_or-enumerate_from 0 kinds i (0, 0) (omega arith) ∙ ap (λ k. (k, get_or kinds i 0)) (omega arith)))
    ∙ simp (eq-eqb _ _ e, h)

-- ---- loops
abbrev pub short : List ℕ → ℕ → Bool
short ms i = ltb (get_or ms i 0) 3

module _ (ms : List ℕ) (n : ℕ) where
  pub loop_short : (i : ℕ) → i < length ms → get_or ms i 0 < 3 → true ≡ loops_out ms n
  unfolding loops_out
  loop_short i l h = sym (ap (λ (b : Bool). b || not (eqb (total ms) n)) (any_hit (short ms) i (length ms) l (lt-ltb (get_or ms i 0) 3 h)))

  pub sum_next : (i t : ℕ) → i < length ms → t ≡ total (take i ms) → t + get_or ms i 0 ≡ total (take (i + 1) ms)
  sum_next i t l e = omega (arith, e, sum_more [] ms i (length ms) l (omega arith))

  pub loops_over : (i : ℕ) → n ≤ 60 → 60 < total (take i ms) → i ≤ length ms → true ≡ loops_out ms n
  unfolding loops_out
  loops_over i k h l =
      let a = total_up ms i (length ms) l in
      let b : total (take (length ms) ms) ≡ total ms = ap total (take-length ms) in
      sym
      (ap (λ (b : Bool). any (short ms) (length ms) || not b) (ne_eqb (total ms) n (λ e. omega (arith, a, b, h, k, e))) ∙ or-true (any (short ms) (length ms)))

  pub loops_sum : (i t : ℕ) → i ≡ length ms → any (short ms) i ≡ false → t ≡ total (take i ms) → not (eqb t n) ≡ loops_out ms n
  unfolding loops_out
  loops_sum i t e a s =
      let b : t ≡ total ms = s ∙ ap (λ (k : ℕ). total (take k ms)) e ∙ ap total (take-length ms) in
      ap (λ (k : ℕ). not (eqb k n)) b ∙ sym (ap (λ (b : Bool). b || not (eqb (total ms) n)) (ap (any (short ms)) (sym e) ∙ a))

  -- loops that pass: they add up, and have 3 points or more
  pub loops-whole : loops_out ms n ≡ false → (total ms ≡ n) × (3 * length ms ≤ n)
  unfolding loops_out
  loops-whole e =
      let a = neither (any (short ms) (length ms)) (not (eqb (total ms) n)) e in
      let s = eqb-true (total ms) n (is_true (eqb (total ms) n) a.1) in
      let f =
      loops-few ms
      (λ i l. ltb-false (get_or ms i 0) 3 (is_false (short ms i) (any_none (short ms) (length ms) (not-of (any (short ms) (length ms)) a.0) i l))) in
      (s, omega (arith, s, f))
