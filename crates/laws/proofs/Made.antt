-- Arrays that std's `from_fn` made, of a closure that keeps what it holds: each place has what the closure computes of its number.
use Prim.Native.Nat.{ℕ, zero, suc, ◌+◌, ◌≤◌, ◌<◌}
use native.Mathlib.Nat.{eq-or-lt_of_le}
use native.Mathlib.Omega.{arith}
use mathlib.Core.Path.{◌≡◌, sym, ap, ◌∙◌, subst}
use mathlib.Core.Logic.{⊎_elim}
use mathlib.Core.List.{List}
use lib.ListN.{get_or}
use denote.Param.Members.{Mut, Called}
use Rattle.std.specs.Array.{IsFromFnResultFrom, IsFromFnResult}

module _ {F B : Type 0} {g : Mut F (ℕ × Unit {0}) B} {f : F} (ys : List B) (h : ℕ → B)
    (c : (i : ℕ) (y : B) (q : F) → Called g f (i, tt) y q → (q ≡ f) × (y ≡ h i)) where
  made_from : (n i : ℕ) → IsFromFnResultFrom g f ys i n → (k : ℕ) (d : B) → i ≤ k → k < i + n → get_or ys k d ≡ h k
  made_from zero i y k d l m = absurd (omega (arith, l, m))
  made_from (suc n) i y k d l m =
      let a = c i y.1 y.0 y.3 in
      ⊎_elim
      (λ (e : i ≡ k). ap (λ (j : ℕ). get_or ys j d) (sym e) ∙ y.2.1 d ∙ a.1 ∙ ap h e)
      (λ (b : i < k). made_from n (i + 1) (subst (λ (q : F). IsFromFnResultFrom g q ys (i + 1) n) a.0 y.4) k d (omega arith) (omega arith))
      (eq-or-lt_of_le l)

  pub made_of : (n : ℕ) → IsFromFnResult g f ys n → (k : ℕ) (d : B) → k < n → get_or ys k d ≡ h k
  made_of n y k d l = made_from n 0 y.each k d (omega arith) (omega arith)
