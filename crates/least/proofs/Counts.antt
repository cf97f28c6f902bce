-- What `find_map` answers over the counts from one on is what the search by rising count ends at.
use Prim.Native.Nat.{ℕ, zero, suc, ◌+◌, ◌-◌, ◌≤◌, ◌<◌}
use native.Mathlib.Omega.{arith}
use native.Mathlib.Decide.{dec_le}
use mathlib.Core.Path.{◌≡◌, sym, ap, ◌∙◌}
use Rattle.std.specs.Prelude.{Option, None, Some, MatchOption}
use Rattle.choice.specs.Search.{first_of_count, least_of}
use Rattle.choice.proofs.Searching.{counts_hit, counts-pass, counts_end}

-- ---- the search by rising count
module _ (t : ℕ → ℕ) (w n r : ℕ) where
  passed : (d : ℕ) → 3 + d ≤ r + 1 → ((j : ℕ) → 3 ≤ j → j < 3 + d → n ≤ first_of_count t w n j)
      → least_of t w n (r - 2) 3 ≡ least_of t w n (r + 1 - (3 + d)) (3 + d)
  passed zero h m = let e : r + 1 - 3 ≡ r - 2 = omega arith in rw e
  passed (suc d) h m =
      let e : 3 + suc d ≡ 3 + d + 1 = omega arith in
      passed d (omega arith) (λ j p q. m j p (omega arith))
      ∙ counts-pass t w n r (3 + d) (omega arith) (m (3 + d) (omega arith) (omega arith))
      ∙ sym (ap (λ (k : ℕ). least_of t w n (r + 1 - k) k) e)

  ends-at : (k : ℕ) → 3 ≤ k → k ≤ r + 1 → ((j : ℕ) → 3 ≤ j → j < k → n ≤ first_of_count t w n j) → least_of t w n (r - 2) 3 ≡ least_of t w n (r + 1 - k) k
  ends-at k p q m =
      let e : 3 + (k - 3) ≡ k = omega arith in
      passed (k - 3) (omega arith) (λ j a b. m j a (omega arith)) ∙ ap (λ (i : ℕ). least_of t w n (r + 1 - i) i) e

  pub least_found : (o : Option ℕ)
      → MatchOption o ((k : ℕ) → 3 ≤ k → k < r + 1 → first_of_count t w n k ≡ n)
      (λ y. (k : ℕ) × (3 ≤ k) × (k < r + 1) × ((y < n) × (first_of_count t w n k ≡ y)) × ((j : ℕ) → 3 ≤ j → j < k → first_of_count t w n j ≡ n))
      → MatchOption o (least_of t w n (r - 2) 3 ≡ n) (λ c. (c < n) × (least_of t w n (r - 2) 3 ≡ c))
  least_found None h = go (dec_le 3 (r + 1))
    where
      go : Dec (3 ≤ r + 1) → least_of t w n (r - 2) 3 ≡ n
      go (yes p) = ends-at (r + 1) p (omega arith) (λ j a b. omega (arith, h j a b)) ∙ counts_end t w n r (r + 1) (omega arith)
      go (no p) = let e : r - 2 ≡ r + 1 - 3 = omega arith in ap (λ (d : ℕ). least_of t w n d 3) e ∙ counts_end t w n r 3 (omega arith)
  least_found (Some y) h =
      (h.3.0, ends-at h.0 h.1 (omega (arith, h.2)) (λ j p q. omega (arith, h.4 j p q)) ∙ counts_hit t w n r h.0 h.2 (omega (arith, h.3.0, h.3.1)) ∙ h.3.1)
