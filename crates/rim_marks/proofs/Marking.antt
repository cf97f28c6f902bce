-- The rim marks: the new places cleared at once (`cleared-paste`), and no fewer or more where those of listed nodes are set.
use Prim.Native.Nat.{ℕ, zero, suc, ◌+◌, ◌≤◌}
use native.Mathlib.Numerals.{add-one}
use native.Mathlib.Omega.{arith}
use mathlib.Core.Path.{◌≡◌, refl, ap, ◌∙◌}
use mathlib.Core.Bool.{Bool, true, false, cond}
use mathlib.Core.List.{List}
use lib.ListN.{length, get_or, set, length-set, replicate}
use lib.Seq.{paste}
use Rattle.std.proofs.lemmas.List.Edits.{paste_none, fill_from_more}
use Rattle.rim_marks.specs.Marking.{cleared, set_at}

-- ---- clearing
pub cleared-paste : (rs : List ℕ) (u d : ℕ) → u + d ≤ length rs → cleared rs u d ≡ paste rs u (replicate d 0) d
unfolding cleared
cleared-paste rs u zero h = paste_none rs u (replicate zero 0)
cleared-paste rs u (suc d) h = ap (λ (ts : List ℕ). set ts (u + d) 0) (cleared-paste rs u d (omega arith)) ∙ fill_from_more rs u d 0 (omega arith) ∙ rw add-one

pub clear-length : (rs : List ℕ) (u d : ℕ) → length (cleared rs u d) ≡ length rs
unfolding cleared
clear-length rs u zero = refl
clear-length rs u (suc d) = length-set (cleared rs u d) (u + d) 0 ∙ clear-length rs u d

-- ---- setting
module _ (rs ks : List ℕ) (bs : List Bool) where
  pub set-length : (i : ℕ) → length (set_at rs ks bs i) ≡ length rs
  unfolding set_at
  set-length zero = refl
  set-length (suc i) = go (get_or bs i false) (set-length i)
    where
      go : (b : Bool) → length (set_at rs ks bs i) ≡ length rs → length (cond b (set (set_at rs ks bs i) (get_or ks i 0) 1) (set_at rs ks bs i)) ≡ length rs
      go true e = length-set (set_at rs ks bs i) (get_or ks i 0) 1 ∙ e
      go false e = e
