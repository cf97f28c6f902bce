-- A list of cells, read four numbers at a time: the cell with its nodes looked up, and the corner behind a middle.
use Prim.Native.Nat.{ℕ, zero, suc, ◌+◌, ◌*◌, ◌/◌, ◌≤◌, ◌<◌}
use mathlib.Core.Bool.{Bool, true, false, cond, ◌&&◌}
use mathlib.Core.Path.{◌≡◌, refl, sym, ap, ◌∙◌}
use mathlib.Core.List.{List, [], ◌∷◌, reverse, reverse-append}
use native.Mathlib.Nat.{add-zero}
use native.Mathlib.Omega.{arith}
use denote.Ref.{Bor}
use lib.Dec.{eqb}
use lib.ListN.{length, get_or, take}
use lib.Ieee.{Float}
use Rattle.std.specs.Prelude.{Option, None, Some}
use Rattle.std.specs.Option.{MatchOption, option_map}
use Rattle.std.specs.List.{find}
use Rattle.std.specs.Simd.{first_chunks}
use Rattle.std.proofs.Math.Seq.{take-suc, take-length}
use Rattle.laws.proofs.Chunks.{chunk_at}
use Rattle.scene.specs.Scene.{followed, follows, across, quad_with, quad_of}

-- the corner of a cell that was found
abbrev pub corner_of : Option (List ℕ) → ℕ
corner_of None = 0
corner_of (Some q) = get_or q 2 0

-- a number that is the corner of the cell that was found, if any
pub its-corner : {P : Bor (List ℕ) → Type 0} (n : ℕ) (r : Option (Bor (List ℕ))) → MatchOption r (n ≡ 0) P
    → ((x : Bor (List ℕ)) → P x → n ≡ get_or x.now 2 0) → n ≡ corner_of (option_map (λ (y : Bor (List ℕ)). y.now) r)
its-corner n None h t = h
its-corner n (Some x) h t = t x h

module _ (cs : List ℕ) (qs : List (List ℕ)) (e : qs ≡ first_chunks 4 (length cs / 4) cs) (i : ℕ) (h : i < length cs / 4) where
  number : (j : ℕ) → j < 4 → get_or (get_or qs i []) j 0 ≡ get_or cs (i * 4 + j) 0
  number j l = ap (λ (x : List (List ℕ)). get_or (get_or x i []) j 0) e ∙ chunk_at 4 (length cs / 4) i j cs 0 h l

  first : get_or (get_or qs i []) 0 0 ≡ get_or cs (i * 4) 0
  first = number 0 (omega arith) ∙ ap (λ (m : ℕ). get_or cs m 0) (add-zero (i * 4))

  pub quad-at : (l : List Float) (rs : List ℕ) → quad_with l rs cs (get_or qs i []) ≡ quad_of l rs cs i
  unfolding quad_of quad_with
  quad-at l rs = let a = first in let b = number 1 (omega arith) in let c = number 2 (omega arith) in let d = number 3 (omega arith) in rw (a, b, c, d) refl

  -- the corner of cell i where it follows, else the one that was found before
  module _ (c m found : ℕ) where
    same : followed (get_or qs i []) c m 0 found ≡ followed cs c m i found
    unfolding followed follows
    same = let a = first in let b = number 1 (omega arith) in let d = number 2 (omega arith) in rw (a, b, d) refl

-- the last cell of those that have m before their corner: the first, read from the end of the list
module _ (c m : ℕ) where
  abbrev pub wanted : List ℕ → Bool
  wanted q = eqb (get_or q 0 0) c && eqb (get_or q 1 0) m

  one-more : (q : List ℕ) (qs : List (List ℕ)) → corner_of (find wanted (q ∷ qs)) ≡ followed q c m 0 (corner_of (find wanted qs))
  unfolding followed follows
  one-more q qs = go (wanted q)
    where
      go : (b : Bool) → corner_of (cond b (Some q) (find wanted qs)) ≡ cond b (get_or q 2 0) (corner_of (find wanted qs))
      go true = refl
      go false = refl

  module _ (cs : List ℕ) (qs : List (List ℕ)) (e : qs ≡ first_chunks 4 (length cs / 4) cs) (n : length qs ≡ length cs / 4) where
    last-of : (i : ℕ) → i ≤ length cs / 4 → corner_of (find wanted (reverse (take i qs))) ≡ across cs c m i
    unfolding across
    last-of zero h = refl
    last-of (suc i) h =
        ap (λ (z : List (List ℕ)). corner_of (find wanted (reverse z))) (take-suc qs i [] (omega (arith, n)))
        ∙ ap (λ (z : List (List ℕ)). corner_of (find wanted z)) (reverse-append (take i qs) (get_or qs i [] ∷ []))
        ∙ one-more (get_or qs i []) (reverse (take i qs))
        ∙ ap (followed (get_or qs i []) c m 0) (last-of i (omega arith))
        ∙ same cs qs e i (omega arith) c m (across cs c m i)

    pub across-last : corner_of (find wanted (reverse qs)) ≡ across cs c m (length cs / 4)
    across-last =
        ap (λ (z : List (List ℕ)). corner_of (find wanted (reverse z))) (sym (ap (λ (k : ℕ). take k qs) (sym n) ∙ take-length qs))
        ∙ last-of (length cs / 4) (omega arith)
