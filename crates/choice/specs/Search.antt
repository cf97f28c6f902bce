-- 02, Card 13, the search over choices, for any trial t of a choice: "Every other choice with that number has at least as many points. Of equal counts the
-- lowest choice number wins".
use Rattle.std.specs.Prelude.{ℕ, zero, suc, ◌≤◌, ◌<◌, ◌≡◌, Bool, false, cond, ltb, eqb}
use Rattle.std.specs.Int.Count.{ones}
use Rattle.laws.specs.Bounded.{first}

-- the choice c has k points, and its trial gives w
abbrev pub hits : (ℕ → ℕ) → ℕ → ℕ → ℕ → Bool
hits t w k c = cond (eqb (ones c) k) (eqb (t c) w) false

-- the first choice below n of k points that gives w; n if none does
unfoldable pub first_of_count : (ℕ → ℕ) → ℕ → ℕ → ℕ → ℕ
first_of_count t w n k = first (hits t w k) n 0

-- the same by rising count: k points, k + 1 points and so on, d counts in all
unfoldable pub least_of : (ℕ → ℕ) → ℕ → ℕ → ℕ → ℕ → ℕ
least_of t w n zero k = n
least_of t w n (suc d) k =
    let c = first_of_count t w n k in
    let r = least_of t w n d (suc k) in
    cond (ltb c n) c r

-- c is the smallest of the choices below n, of k points or more, that give w
pub record IsLeast (t : ℕ → ℕ) (w n k c : ℕ) : Type 0 where
  pub low : c < n
  pub enough : k ≤ ones c
  pub same : t c ≡ w
  pub fewest : (e : ℕ) → e < n → k ≤ ones e → t e ≡ w → ones c ≤ ones e
  pub lowest : (e : ℕ) → e < n → ones e ≡ ones c → t e ≡ w → c ≤ e
