-- The laws of `first_of`, by which every list of tests is taken apart. `first`: either a test of the list holds, and the
-- result is its number; or none does, and the result is 0. `all_pass`: where each number of the list is a refusal's,
-- the result is 0 only if none holds. `away`: then a result that is not 0 is a refusal's number. And the order of all
-- entries, by its numbers (`order`) and by the names of its tests (`passes_all`).
use Prim.Native.Nat.{ℕ}
use mathlib.Core.Path.{◌≡◌, refl, sym, ap, ◌∙◌, subst}
use mathlib.Core.Bool.{Bool, true, false, not, cond}
use mathlib.Core.List.{List, [], ◌∷◌, map, Memᴰ}
use lib.Dec.{T, eqb}
use lib.Ieee.Fits.{and_l, and_r}
use borrow.Author.Tests.{eq-eqb}
use Rattle.table.specs.Refusals.{Refusal, first_of, Tests, in_order, Passes, PassesAll, turns_away, numbered, First, holds, passes}

-- with a first test r
module _ (r : Refusal) (rs : List Refusal) where
  here : r.test ≡ true → first_of (r ∷ rs) ≡ r.number
  here e = ap (λ (b : Bool). cond b r.number (first_of rs)) e

  there : r.test ≡ false → first_of (r ∷ rs) ≡ first_of rs
  there e = ap (λ (b : Bool). cond b r.number (first_of rs)) e

pub first : (rs : List Refusal) → First rs
first [] = passes tt refl
first (r ∷ rs) = go r.test refl (first rs)
  where
    go : (b : Bool) → r.test ≡ b → First rs → First (r ∷ rs)
    go true e f = holds r (Memᴰ.head refl) e (here r rs e)
    go false e (holds q m t n) = holds q (Memᴰ.tail m) t (there r rs e ∙ n)
    go false e (passes p z) = passes (e, p) (there r rs e ∙ z)

-- ---- numbers that turn a call away
not-of : (n k : ℕ) → T (not (eqb n k)) → n ≡ k → ⊥
not-of n k t e = subst (λ (b : Bool). T (not b)) (eq-eqb n k e) t

pub not_0 : (n : ℕ) → T (turns_away n) → n ≡ 0 → ⊥
not_0 n t = not-of n 0 (and_l (not (eqb n 0)) (not (eqb n 8)) t)

pub not_8 : (n : ℕ) → T (turns_away n) → n ≡ 8 → ⊥
not_8 n t = not-of n 8 (and_r (not (eqb n 0)) (not (eqb n 8)) t)

pub member_away : (rs : List Refusal) (r : Refusal) → T (numbered rs) → Memᴰ r rs → T (turns_away r.number)
member_away (q ∷ rs) r n (Memᴰ.head e) = subst (λ (r : Refusal). T (turns_away r.number)) (sym e) (and_l (turns_away q.number) (numbered rs) n)
member_away (q ∷ rs) r n (Memᴰ.tail m) = member_away rs r (and_r (turns_away q.number) (numbered rs) n) m
member_away [] r n x'' = elim x'' [ ]

pub all_pass : (rs : List Refusal) → T (numbered rs) → first_of rs ≡ 0 → Passes rs
all_pass rs n z = go (first rs)
  where
    go : First rs → Passes rs
    go (holds r m t e) = absurd (not_0 r.number (member_away rs r n m) (sym e ∙ z))
    go (passes p e) = p

pub away : (rs : List Refusal) → T (numbered rs) → (first_of rs ≡ 0 → ⊥) → T (turns_away (first_of rs))
away rs n z = go (first rs)
  where
    go : First rs → T (turns_away (first_of rs))
    go (holds r m t e) = subst (λ (k : ℕ). T (turns_away k)) (sym e) (member_away rs r n m)
    go (passes p e) = absurd (z e)

-- ---- "tested in rising order"
pub order : (t : Tests) → map (λ (r : Refusal). r.number) (in_order t) ≡ 1 ∷ 16 ∷ 2 ∷ 13 ∷ 14 ∷ 15 ∷ 3 ∷ 4 ∷ []
order t = refl

-- ---- where none holds, by their names
pub passes_all : (t : Tests) → Passes (in_order t) → PassesAll t
passes_all t h =
    record {
      counts = h.0;
      practice = h.1.0;
      units = h.1.1.0;
      marks = h.1.1.1.0;
      outline = h.1.1.1.1.0;
      limits = h.1.1.1.1.1.0;
      lists = h.1.1.1.1.1.1.0;
      room = h.1.1.1.1.1.1.1.0;
    }
