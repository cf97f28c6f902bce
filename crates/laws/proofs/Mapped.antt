-- What `find_map` answers over numbers that count up: the first number at which its closure gives something, and what that is.
use Prim.Native.Nat.{ℕ, ◌+◌, ◌-◌, ◌≤◌, ◌<◌}
use native.Mathlib.Omega.{arith}
use mathlib.Core.Path.{◌≡◌, subst}
use mathlib.Core.Bool.{true}
use denote.Param.Members.{Mut, Called}
use Rattle.std.specs.Prelude.{Option, None, Some, MatchOption, IfSome, IsSomeAnd}
use Rattle.std.specs.Option.{option_map}
use Rattle.std.specs.Iterator.Runs.{Run, AllItemsGive, IsFirstToGive, CallKeepsClosure, ItemsCountUp}

the_item : (o : Option ℕ) (x : ℕ) → option_map (λ y. y) o ≡ Some x → o ≡ Some x
the_item None x e = cc
the_item (Some y) x e = e

module _ {S F : Type 0} {steps : S → Option ℕ → S → Type 0}
    {g : Mut F (ℕ × Unit {0}) (Option ℕ)} (f : F) (u : Run steps) (Hit : ℕ → ℕ → Type 0) (Miss : ℕ → Type 0)
    (hit : (x y : ℕ) → Called g f (x, tt) (Some y) f → Hit x y) (miss : (x : ℕ) → Called g f (x, tt) None f → Miss x) (keeps : CallKeepsClosure g f)
    (a b : ℕ) (w : ItemsCountUp u a b) where
  at : (i : ℕ) → i < u.len → u.at i ≡ Some (a + i)
  at i l = the_item (u.at i) (a + i) (w.3 i l)

  pub first_mapped : (r : Option ℕ)
      → MatchOption r ((u.whole ≡ true) × AllItemsGive u g f None) (λ y. (i : ℕ) × (i < u.len) × (u.len ≡ i + 1) × IsFirstToGive u g f (Some y) None i)
      → MatchOption r ((k : ℕ) → a ≤ k → k < b → Miss k) (λ y. (k : ℕ) × (a ≤ k) × (k < b) × Hit k y × ((j : ℕ) → a ≤ j → j < k → Miss j))
  first_mapped None h = λ k p q.
      let l : k - a < u.len = omega (arith, w.1 h.0) in
      let m : Miss (a + (k - a)) = miss _ (subst (λ (o : Option ℕ). IfSome o (λ x. Called g f (x, tt) None f)) (at (k - a) l) (h.1 keeps (k - a))) in
      let e : a + (k - a) ≡ k = omega arith in
      subst Miss e m
  first_mapped (Some y) h =
      let i = h.0 in
      let t = h.3 keeps in
      let c = subst (λ (o : Option ℕ). IsSomeAnd o (λ x. Called g f (x, tt) (Some y) f)) (at i h.1) t.0 in (
        a + i,
        omega arith,
        omega (arith, w.0, h.1),
        hit (a + i) y c,
        λ j p q.
            let l : j - a < i = omega arith in
            let d = subst (λ (o : Option ℕ). IsSomeAnd o (λ x. Called g f (x, tt) None f)) (at (j - a) (omega (arith, h.1))) (t.1 (j - a) l) in
            let e : a + (j - a) ≡ j = omega arith in
            subst Miss e (miss _ d),
      )
