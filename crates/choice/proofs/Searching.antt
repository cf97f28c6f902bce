-- The search by rising count and rising number finds the least choice, for any trial t: where it ends below n, and that it does where some choice gives w.
use Prim.Native.Nat.{ℕ, zero, suc, ◌+◌, ◌-◌, ◌≤◌, ◌<◌}
use native.Mathlib.Nat.{eq-or-lt_of_le}
use native.Mathlib.Numerals.{add-one}
use native.Mathlib.Omega.{arith}
use mathlib.Core.Path.{◌≡◌, refl, sym, ◌∙◌, subst}
use mathlib.Core.Logic.{⊎_elim}
use mathlib.Core.Bool.{Bool, true, false, cond}
use lib.Dec.{T, ltb, eqb}
use lib.Count.{ones}
use borrow.Author.Tests.{ltb-true, ltb-false, lt-ltb, le-ltb, eq-eqb, eqb-true}
use Rattle.laws.specs.Bounded.{first}
use Rattle.laws.proofs.Search.{first-at, first-least}
use Rattle.choice.specs.Search.{hits, first_of_count, least_of, IsLeast}

-- ---- one choice
is_hit : (t : ℕ → ℕ) (w k c : ℕ) → ones c ≡ k → t c ≡ w → T (hits t w k c)
is_hit t w k c e f = rw (eq-eqb (ones c) k e, eq-eqb (t c) w f) tt

hit_is : (t : ℕ → ℕ) (w k c : ℕ) → T (hits t w k c) → (ones c ≡ k) × (t c ≡ w)
hit_is t w k c h = go (eqb (ones c) k) (eqb (t c) w) refl refl h
  where
    go : (a b : Bool) → eqb (ones c) k ≡ a → eqb (t c) w ≡ b → T (cond a b false) → (ones c ≡ k) × (t c ≡ w)
    go true true e f h = (eqb-true (ones c) k e, eqb-true (t c) w f)
    go true false e f h = absurd h
    go false b e f h = absurd h

module _ (t : ℕ → ℕ) (w n : ℕ) where
  -- ---- the choices of k points
  first_hit : (k : ℕ) → first_of_count t w n k < n → (ones (first_of_count t w n k) ≡ k) × (t (first_of_count t w n k) ≡ w)
  unfolding first_of_count
  first_hit k h = hit_is t w k (first (hits t w k) n 0) (first-at (hits t w k) n 0 (omega (arith, h)))

  first-low : (k e : ℕ) → e < n → ones e ≡ k → t e ≡ w → first_of_count t w n k ≤ e
  unfolding first_of_count
  first-low k e h p q = first-least (hits t w k) n 0 e (omega arith) (omega arith) (is_hit t w k e p q)

  -- ---- a turn of the search
  pub least_hit : (d k : ℕ) → first_of_count t w n k < n → least_of t w n (suc d) k ≡ first_of_count t w n k
  unfolding least_of
  least_hit d k h = rw (lt-ltb (first_of_count t w n k) n h)

  pub least-pass : (d k : ℕ) → n ≤ first_of_count t w n k → least_of t w n (suc d) k ≡ least_of t w n d (suc k)
  unfolding least_of
  least-pass d k h = rw (le-ltb (first_of_count t w n k) n h)

  pub least-end : (k : ℕ) → least_of t w n 0 k ≡ n
  unfolding least_of
  least-end k = refl

  -- ---- the counts from k to r
  pub counts_hit : (r k : ℕ) → k < r + 1 → first_of_count t w n k < n → least_of t w n (r + 1 - k) k ≡ first_of_count t w n k
  counts_hit r k h l = let e : r + 1 - k ≡ suc (r + 1 - (k + 1)) = omega arith in rw e (least_hit (r + 1 - (k + 1)) k l)

  pub counts-pass : (r k : ℕ) → k < r + 1 → n ≤ first_of_count t w n k → least_of t w n (r + 1 - k) k ≡ least_of t w n (r + 1 - (k + 1)) (k + 1)
  counts-pass r k h l = let e : r + 1 - k ≡ suc (r + 1 - (k + 1)) = omega arith in rw (e, add-one k) (least-pass (r + 1 - suc k) k l)

  pub counts_end : (r k : ℕ) → r + 1 ≤ k → least_of t w n (r + 1 - k) k ≡ n
  counts_end r k h = let e : r + 1 - k ≡ 0 = omega arith in rw e (least-end k)

  -- ---- where it ends below n, it is the least
  here : (k : ℕ) → first_of_count t w n k < n → IsLeast t w n k (first_of_count t w n k)
  here k h =
      let p = first_hit k h in
      record {
        low = h;
        enough = omega (arith, p.0);
        same = p.1;
        fewest = λ e l m s. omega (arith, p.0, m);
        lowest = λ e l m s. first-low k e l (m ∙ p.0) s;
      }

  beyond : (k c : ℕ) → n ≤ first_of_count t w n k → IsLeast t w n (suc k) c → IsLeast t w n k c
  beyond k c h s =
      record {
        low = s.low;
        enough = omega (arith, s.enough);
        same = s.same;
        fewest =
            λ e l m q.
            ⊎_elim (λ (u : k ≡ ones e). absurd (omega (arith, h, first-low k e l (sym u) q, l))) (λ (u : k < ones e). s.fewest e l u q) (eq-or-lt_of_le m);
        lowest = s.lowest;
      }

  pub is-least : (d k : ℕ) → least_of t w n d k < n → IsLeast t w n k (least_of t w n d k)
  is-least zero k h = absurd (omega (arith, h, least-end k))
  is-least (suc d) k h = go (ltb (first_of_count t w n k) n) refl (is-least d (suc k))
    where
      go : (b : Bool) → ltb (first_of_count t w n k) n ≡ b → (least_of t w n d (suc k) < n → IsLeast t w n (suc k) (least_of t w n d (suc k)))
          → IsLeast t w n k (least_of t w n (suc d) k)
      go true e f = let l = ltb-true (first_of_count t w n k) n e in subst (IsLeast t w n k) (sym (least_hit d k l)) (here k l)
      go false e f =
          let l = ltb-false (first_of_count t w n k) n e in
          let q = least-pass d k l in
          subst (IsLeast t w n k) (sym q) (beyond k (least_of t w n d (suc k)) l (f (rw q at h)))

  -- ---- it does end below n where a choice of k to k + d - 1 points gives w
  pub ends : (d k e : ℕ) → e < n → k ≤ ones e → ones e < k + d → t e ≡ w → least_of t w n d k < n
  ends zero k e l m o s = absurd (omega (arith, m, o))
  ends (suc d) k e l m o s = go (ltb (first_of_count t w n k) n) refl (ends d (suc k) e l)
    where
      go : (b : Bool) → ltb (first_of_count t w n k) n ≡ b → (suc k ≤ ones e → ones e < suc k + d → t e ≡ w → least_of t w n d (suc k) < n)
          → least_of t w n (suc d) k < n
      go true b f = let h = ltb-true (first_of_count t w n k) n b in rw (least_hit d k h) h
      go false b f =
          let h = ltb-false (first_of_count t w n k) n b in
          rw (least-pass d k h)
          (⊎_elim (λ (u : k ≡ ones e). absurd (omega (arith, h, first-low k e l (sym u) s, l))) (λ (u : k < ones e). f u (omega (arith, o)) s)
          (eq-or-lt_of_le m))

  -- ---- no two choices are the least
  pub only : (k c e : ℕ) → IsLeast t w n k c → IsLeast t w n k e → c ≡ e
  only k c e p q =
      let a = p.fewest e q.low q.enough q.same in
      let b = q.fewest c p.low p.enough p.same in
      let u : ones e ≡ ones c = omega (arith, a, b) in
      omega (arith, p.lowest e q.low u q.same, q.lowest c p.low (sym u) p.same)
