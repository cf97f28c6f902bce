-- Whether a point of a chain stays, as the code reads it.
use Prim.Native.Nat.{ℕ, suc, ◌+◌, ◌-◌, ◌%◌, ◌<◌}
use native.Mathlib.Nat.{mod-eq_of_lt}
use native.Mathlib.Omega.{arith}
use mathlib.Core.Path.{◌≡◌, refl, sym, ap, ◌∙◌}
use mathlib.Core.Bool.{Bool, true, false, ◌||◌}
use mathlib.Core.List.{List}
use lib.ListN.{length, get_or}
use lib.Dec.{leb, eqb}
use borrow.Author.Tests.{eqb-true, eqb-false, le-leb, lt-leb}
use Rattle.laws.specs.Double.{lit, ◌<f◌}
use Rattle.vector.specs.declared.GridPoint.{GridPoint}
use Rattle.vector.specs.Grid.{origin, sub, same}
use Rattle.cosine.specs.Cosine.{cosine}
use Rattle.arclength.specs.Arclength.{point_at}
use Rattle.chain.specs.Chain as Chain

-- but for the last, by its two steps
abbrev pub turned : GridPoint → GridPoint → GridPoint → Bool → Bool
turned a b c last =
    last || same (sub b a) origin || same (sub c b) origin || (cosine (sub b a) (sub c b) <f lit 9063077870366499 16)

module _ (c : List GridPoint) (n i : ℕ) (h : n ≡ length c) (p : 0 < i) (l : i < n) where
  at_turn : (j : ℕ) → j ≡ (i + 1) % n → (t : Bool) → eqb (i + 1) n ≡ t
      → turned (get_or c (i - 1) origin) (get_or c i origin) (get_or c j origin) t ≡ Chain.stays c (i - 1)
  unfolding Chain.stays
  at_turn j ej true k =
      let z = eqb-true (i + 1) n k in
      let q : leb (length c) (suc (suc (i - 1))) ≡ true = le-leb (length c) (suc (suc (i - 1))) (omega arith) in
      sym (rw q)
  at_turn j ej false k =
      let z : i + 1 < n = let y = eqb-false (i + 1) n k in omega arith in
      let q : leb (length c) (suc (suc (i - 1))) ≡ false = lt-leb (length c) (suc (suc (i - 1))) (omega arith) in
      let f : i ≡ suc (i - 1) = omega arith in
      let g : i + 1 ≡ suc (suc (i - 1)) = omega arith in
      let b = ap (point_at c) f in
      let d = ap (point_at c) (ej ∙ mod-eq_of_lt z ∙ g) in
      (λ k. turned (point_at c (i - 1)) (b k) (d k) (sym q k))

  pub stays_in : (j : ℕ) → j ≡ (i + 1) % n → (r : Bool) → r ≡ turned (get_or c (i - 1) origin) (get_or c i origin) (get_or c j origin) (eqb (i + 1) n)
      → r ≡ Chain.stays c (i - 1)
  stays_in j ej r er = er ∙ at_turn j ej (eqb (i + 1) n) refl
