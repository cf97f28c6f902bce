-- Claim: `printed` of an input is what a loop writes that reads, steps and writes until the run has ended, where each read gives the next 512 bytes or what
-- is left. The run of every input ends, at the latest with the first read that gives less than a block (`ended`) and, of bytes, with read 65,537 (`in_time`);
-- and wherever it has ended, it is the whole run (`settles`), and the text so far is `printed` (`prints`).
use Prim.Native.Nat.{ℕ, zero, suc, ◌+◌, ◌-◌, ◌/◌, ◌≤◌, ◌<◌}
use mathlib.Core.Path.{◌≡◌, refl, sym, ap, ◌∙◌, subst}
use mathlib.Core.Bool.{true, false}
use mathlib.Core.Logic.{◌⊎◌, inl, inr}
use mathlib.Core.List.{List}
use native.Mathlib.Omega.{arith}
use native.Mathlib.Decide.{dec_le}
use native.Mathlib.Numerals.{add-one}
use lib.ListN.{length, length-drop, length-take}
use Rattle.job.specs.Run.{Bytes, RunSoFar, onward, ran, block_at, read_to, whole_run, printed}
use Rattle.job.proofs.Runs.{known, stays, short-ends, numbered, block-bytes}

module _ (l : List ℕ) where
  -- one read more
  pub one_more : (n : ℕ) → ran (read_to l (suc n)) ≡ onward (ran (read_to l n)) (block_at l n)
  unfolding ran read_to
  one_more n = refl

  -- the run of any input ends
  last-short : length (block_at l (length l / 512)) < 512
  last-short = simp (length-take, length-drop) (omega arith)

  pub ended : (ran (read_to l (length l / 512 + 1))).state.ended ≡ true
  ended = rw (add-one (length l / 512), one_more (length l / 512)) (short-ends (ran (read_to l (length l / 512))) (block_at l (length l / 512)) last-short)

  -- and stays as it is
  module _ (n : ℕ) (e : (ran (read_to l n)).state.ended ≡ true) where
    settled : (k : ℕ) → ran (read_to l (k + n)) ≡ ran (read_to l n)
    settled zero = let q : 0 + n ≡ n = omega arith in rw q
    settled (suc k) =
        let q = settled k in
        let a : suc k + n ≡ suc (k + n) = omega arith in
        ap (λ (m : ℕ). ran (read_to l m)) a ∙ one_more (k + n) ∙ ap (λ (r : RunSoFar). onward r (block_at l (k + n))) q
        ∙ stays (ran (read_to l n)) (block_at l (k + n)) e

    later : (m : ℕ) → n ≤ m → ran (read_to l m) ≡ ran (read_to l n)
    later m h = let q : (m - n) + n ≡ m = omega arith in subst (λ (k : ℕ). ran (read_to l k) ≡ ran (read_to l n)) q (settled (m - n))

  -- and wherever it has ended, it is the whole run
  pub settles : (n : ℕ) → (ran (read_to l n)).state.ended ≡ true → ran (read_to l n) ≡ whole_run l
  unfolding whole_run
  settles n e = go (dec_le n (length l / 512 + 1))
    where
      go : Dec (n ≤ length l / 512 + 1) → ran (read_to l n) ≡ ran (read_to l (length l / 512 + 1))
      go (yes h) = sym (later n e (length l / 512 + 1) h)
      go (no h) = later (length l / 512 + 1) ended n (omega arith)

  pub prints : (n : ℕ) → (ran (read_to l n)).state.ended ≡ true → (ran (read_to l n)).text ≡ printed l
  unfolding printed
  prints n e = ap (λ (r : RunSoFar). r.text) (settles n e)

  first-number : (ran (read_to l 0)).state.block ≡ 0
  unfolding ran read_to
  first-number = refl

  -- while it goes on, the number of the next block is that of the reads, and at most 65,536
  pub counted : (n : ℕ) → (ran (read_to l n)).state.ended ≡ false → (ran (read_to l n)).state.block ≡ n
  counted zero e = first-number
  counted (suc n) e =
      rw (one_more n) (numbered (ran (read_to l n)) (block_at l n) n (counted n) (subst (λ (r : RunSoFar). r.state.ended ≡ false) (one_more n) e)).0

  pub in_time : Bytes l → (n : ℕ) → 65537 ≤ n → (ran (read_to l n)).state.ended ≡ true
  in_time f n h = go (known (ran (read_to l n)).state.ended)
    where
      too_far : (k : ℕ) → 65537 ≤ k → (ran (read_to l k)).state.ended ≡ false → ⊥
      too_far zero h e = absurd (omega arith)
      too_far (suc k) h e =
          omega (
            arith,
            (numbered (ran (read_to l k)) (block_at l k) k (counted k) (subst (λ (r : RunSoFar). r.state.ended ≡ false) (one_more k) e)).1 (block-bytes l k f),
          )

      go : ((ran (read_to l n)).state.ended ≡ true) ⊎ ((ran (read_to l n)).state.ended ≡ false) → (ran (read_to l n)).state.ended ≡ true
      go (inl e) = e
      go (inr e) = absurd (too_far n h e)
