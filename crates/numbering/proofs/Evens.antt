-- The x of 16 nodes, taken out of the 32 numbers of two vectors.
use Prim.Native.Nat.{ℕ, ◌+◌, ◌*◌, ◌≤◌, ◌<◌}
use native.Mathlib.Omega.{arith}
use mathlib.Core.Path.{◌≡◌, refl, sym, ap, ◌∙◌}
use mathlib.Core.Bool.{Bool}
use mathlib.Core.List.{List, [], ◌∷◌, ◌++◌}
use lib.ListN.{length, get_or, take, drop}
use lib.Seq.{take-add, drop-drop, get_or-take, get_or-drop}
use lib.Lanes.{pick_l}
use lib.Ieee.{Float, nan}
use Rattle.std.specs.List.{list_any}
use Rattle.std.proofs.lemmas.List.{get_or_default}
use Rattle.laws.specs.Bounded.{any}
use Rattle.laws.specs.Table.{tab}
use Rattle.laws.proofs.Search.{any_listed, any_ext}
use Rattle.laws.proofs.Table.{get_d_tab}

abbrev even_places : List ℕ
even_places = 0 ∷ 2 ∷ 4 ∷ 6 ∷ 8 ∷ 10 ∷ 12 ∷ 14 ∷ 16 ∷ 18 ∷ 20 ∷ 22 ∷ 24 ∷ 26 ∷ 28 ∷ 30 ∷ []

-- of a list they are every other number from place i * 2 on
pub evens : (t : Float → Bool) (d : Float) (l : List Float) (i : ℕ) → i * 2 + 32 ≤ length l → (a b : List Float) → a ≡ take 16 (drop (i * 2) l)
    → b ≡ take 16 (drop (i * 2 + 16) l) → list_any t (pick_l d (a ++ b) even_places) ≡ any (λ j. t (get_or l ((i + j) * 2) nan)) 16
unfolding tab
evens t d l i h a b p q =
    any_listed t nan (pick_l d (a ++ b) even_places)
    ∙ any_ext _ _ 16 (λ j k. ap t (ap (λ (xs : List Float). get_or xs j nan) table ∙ get_d_tab (λ j. get_or (a ++ b) (j * 2) d) 16 j nan k ∙ at j k))
  where
    table : pick_l d (a ++ b) even_places ≡ tab (λ j. get_or (a ++ b) (j * 2) d) 16
    table = refl

    joined : a ++ b ≡ take 32 (drop (i * 2) l)
    joined = (λ j. p j ++ (q ∙ ap (take 16) (sym (drop-drop 16 (i * 2) l))) j) ∙ sym (take-add 16 16 (drop (i * 2) l))

    at : (j : ℕ) → j < 16 → get_or (a ++ b) (j * 2) d ≡ get_or l ((i + j) * 2) nan
    at j k =
        let e : i * 2 + j * 2 ≡ (i + j) * 2 = omega arith in
        let m : (i + j) * 2 < length l = omega arith in
        ap (λ (xs : List Float). get_or xs (j * 2) d) joined ∙ get_or-take 32 (drop (i * 2) l) (j * 2) d (omega arith) ∙ get_or-drop (i * 2) l (j * 2) d
        ∙ ap (λ (n : ℕ). get_or l n d) e ∙ get_or_default l ((i + j) * 2) d nan m
