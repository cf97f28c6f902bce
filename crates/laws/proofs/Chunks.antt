-- A list cut into chunks of n, as `as_chunks` cuts it: chunk i is the n elements from place i * n on (`chunk_is`), so that its element j
-- is element i * n + j (`chunk_at`). A pair is its two elements, among all pairs (`pair_at`) and among the first r (`pair_among`).
use Prim.Native.Nat.{ℕ, zero, suc, ◌+◌, ◌*◌, ◌≤◌, ◌<◌}
use native.Mathlib.Omega.{arith}
use mathlib.Core.Path.{◌≡◌, refl, ap, ◌∙◌}
use mathlib.Core.List.{List, [], ◌∷◌}
use lib.ListN.{length, get_or, take, drop}
use lib.Seq.{get_or-take, get_or-drop, drop-drop, drop-cons}
use Rattle.std.specs.Simd.{first_chunks}

pub chunk_is : {A : Type 0} (n k i : ℕ) (l : List A) → i < k → get_or (first_chunks n k l) i [] ≡ take n (drop (i * n) l)
chunk_is n zero i l h = absurd (omega arith)
chunk_is n (suc k) zero l h = let e : 0 * n ≡ 0 = omega arith in rw e refl
chunk_is n (suc k) (suc i) l h =
    let e : n + i * n ≡ suc i * n = omega arith in
    chunk_is n k i (drop n l) (omega arith) ∙ ap (take n) (drop-drop (i * n) n l ∙ ap (λ (m : ℕ). drop m l) e)

module _ {A : Type 0} (d : A) (l : List A) (n i : ℕ) (h : n * 2 ≤ length l) where
  pub pair_at : i < n → get_or (first_chunks 2 n l) i [] ≡ get_or l (i * 2) d ∷ get_or l (i * 2 + 1) d ∷ []
  pair_at k =
      let e : suc (i * 2) ≡ i * 2 + 1 = omega arith in
      let second = drop-cons l (suc (i * 2)) d (omega (arith, h, k)) in
      chunk_is 2 n i l k
      ∙ ap (take 2) (drop-cons l (i * 2) d (omega (arith, h, k)) ∙ ap (λ (r : List A). get_or l (i * 2) d ∷ r) second)
      ∙ ap (λ (m : ℕ). get_or l (i * 2) d ∷ get_or l m d ∷ []) e

  pub pair_among : (r : ℕ) (ps : List (List A)) → ps ≡ first_chunks 2 n l → r ≤ n → i < r
      → get_or (take r ps) i [] ≡ get_or l (i * 2) d ∷ get_or l (i * 2 + 1) d ∷ []
  pair_among r ps e m k = get_or-take r ps i [] k ∙ ap (λ (qs : List (List A)). get_or qs i []) e ∙ pair_at (omega (arith, m, k))

-- element j of chunk i is element i * n + j of the list
pub chunk_at : {A : Type 0} (n k i j : ℕ) (l : List A) (d : A) → i < k → j < n → get_or (get_or (first_chunks n k l) i []) j d ≡ get_or l (i * n + j) d
chunk_at n k i j l d h m =
    ap (λ r. get_or r j d) (chunk_is n k i l h) ∙ get_or-take n (drop (i * n) l) j d m ∙ get_or-drop (i * n) l j d
