-- The points of a ring counted round, and a ring that starts at another of its points.
use Prim.Native.Nat.{ℕ, suc, ◌+◌, ◌-◌, ◌*◌, ◌%◌, ◌<◌}
use native.Mathlib.Nat.{mod-eq_of_lt, mod_self, add-mul-mod_self_left}
use native.Mathlib.Decide.{dec_lt}
use native.Mathlib.Omega.{arith}
use mathlib.Core.Path.{◌≡◌, sym, ap, ◌∙◌}
use mathlib.Core.List.{List, ◌∷◌}
use lib.ListN.{length, take, drop, get_or, get_or-append, length-append, length-take, length-drop}
use lib.Seq.{get_or-take, get_or-drop, get_or-append-add}
use Rattle.laws.specs.All.{All}
use Rattle.laws.proofs.Lists.{all_append, all_take, all_drop}
use Rattle.vector.specs.declared.GridPoint.{GridPoint}
use Rattle.vector.specs.Grid.{at, origin}
use Rattle.parts.specs.Cut.{rotate}

pub at_place : (r : List GridPoint) (i : ℕ) → i < length r → at r i ≡ get_or r i origin
unfolding at
at_place r i h = ap (λ n. get_or r n origin) (mod-eq_of_lt h)

-- past the last point comes the first
pub at-end : (a : GridPoint) (r : List GridPoint) → at (a ∷ r) (suc (length r)) ≡ a
unfolding at
at-end a r = ap (λ n. get_or (a ∷ r) n origin) (mod_self (suc (length r)))

pub length-rotate {ℓ} : {A : Type ℓ} (v : ℕ) (l : List A) → length (rotate v l) ≡ length l
length-rotate v l = omega (arith, length-append (drop v l) (take v l), length-drop v l, length-take v l)

pub all_rotate : (P : GridPoint → Type 0) (v : ℕ) (r : List GridPoint) → All P r → All P (rotate v r)
all_rotate P v r h = all_append P (drop v r) (take v r) (all_drop P v r h) (all_take P v r h)

-- point k of a ring that starts at v
pub rotate_at : (v : ℕ) (r : List GridPoint) (k : ℕ) → v < length r → k < length r → get_or (rotate v r) k origin ≡ at r (v + k)
unfolding at
rotate_at v r k g h = go (dec_lt (v + k) (length r))
  where
    past : ¬ (v + k < length r) → length (drop v r) + (v + k - length r) ≡ k
    past n = omega (arith, length-drop v r)

    wrap : ¬ (v + k < length r) → v + k ≡ v + k - length r + length r * 1
    wrap n = omega arith

    small : ¬ (v + k < length r) → v + k - length r < length r
    small n = omega arith

    go : Dec (v + k < length r) → get_or (rotate v r) k origin ≡ get_or r ((v + k) % length r) origin
    go (yes n) =
        get_or-append (drop v r) (take v r) origin k (omega (arith, length-drop v r)) ∙ get_or-drop v r k origin
        ∙ ap (λ i. get_or r i origin) (sym (mod-eq_of_lt n))
    go (no n) =
        ap (λ i. get_or (rotate v r) i origin) (sym (past n)) ∙ get_or-append-add (drop v r) (take v r) (v + k - length r) origin
        ∙ get_or-take v r (v + k - length r) origin (omega arith)
        ∙ ap (λ i. get_or r i origin) (sym (ap (λ i. i % length r) (wrap n) ∙ add-mul-mod_self_left (v + k - length r) (length r) 1 ∙ mod-eq_of_lt (small n)))
