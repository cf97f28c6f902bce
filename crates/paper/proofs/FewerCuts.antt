-- THEOREM `same-split`, on which Card 8 rests. For every set of limits L, every ring p with its marks, and every number k of cuts, at most that of L: where
-- the split of p under L makes k cuts or fewer, the split of p under L with k cuts for its number is the same: parts, pieces, cuts, turned area and log. The
-- number of cuts is looked at in one place, the test before a diagonal is sought. Under L it can be passed and under k refused only after k cuts, and a
-- diagonal found then is one cut more.
use Prim.Native.Nat.{ℕ, zero, suc, ◌+◌, ◌-◌, ◌*◌, ◌≤◌, ◌<◌}
use native.Mathlib.Nat.{zero-add, suc-add}
use native.Mathlib.Omega.{arith}
use mathlib.Core.Path.{◌≡◌, refl, sym, ap, ◌∙◌, subst}
use mathlib.Core.Bool.{Bool, true, false, cond, ◌&&◌}
use mathlib.Core.Option.{Option, none, some}
use mathlib.Core.List.{List, [], ◌∷◌}
use lib.ListN.{length}
use lib.Dec.{ltb}
use borrow.Author.Tests.{ltb-false, lt-ltb, le-ltb}
use Rattle.vector.specs.declared.GridPoint.{GridPoint}
use Rattle.marks.specs.Part.{Part}
use Rattle.limits.specs.declared.Limits.{Limits}
use Rattle.corner.specs.Corner.{bad, measure_at, worst}
use Rattle.judge.specs.Judge.{in_range}
use Rattle.diagonal.specs.Diagonal.{meets_rule, better, best_to}
use Rattle.parts.specs.Cut.{rotate}
use Rattle.split.specs.Split.{Stack, split_polygon_at, cut_at, pop, pops, start, split_bad_vertices}
use Rattle.cuts.proofs.Machine.{emptied}
use Rattle.limits.specs.Sets.{with_cuts}

-- ---- the best diagonal does not look at the number of cuts
best-same : (L : Limits) (k : ℕ) (r : List GridPoint) (i : ℕ) → best_to (with_cuts k L) r i ≡ best_to L r i
unfolding best_to meets_rule in_range
best-same L k r zero = refl
best-same L k r (suc i) = ap (λ (b : Option ℕ). cond (meets_rule L r (suc (suc i))) (better r (suc (suc i)) b) b) (best-same L k r i)

-- ---- the test before it, after c cuts: b says whether the corner is bad, x is the best diagonal. Where one that is found leaves c below k, k and n decide
-- alike
either : (l : Bool) → ◌≡◌ {A = Option ℕ} (cond l none none) none
either true = refl
either false = refl

decide : (x : Option ℕ) (c k n : ℕ) → k ≤ n → (l : Bool) → ltb c n ≡ l → ((j : ℕ) → cond l x none ≡ some j → c < k) → cond (ltb c k) x none ≡ cond l x none
decide none c k n h true e f = either (ltb c k)
decide (some j) c k n h true e f = ap (λ (l : Bool). cond l (some j) none) (lt-ltb c k (f j refl))
decide x c k n h false e f = ap (λ (l : Bool). cond l x none) (le-ltb c k (omega (arith, h, ltb-false c n e)))

agree : (b : Bool) (x : Option ℕ) (c k n : ℕ) → k ≤ n → ((j : ℕ) → cond (b && ltb c n) x none ≡ some j → c < k)
    → cond (b && ltb c k) x none ≡ cond (b && ltb c n) x none
agree false x c k n h f = refl
agree true x c k n h f = decide x c k n h (ltb c n) refl f

module _ (L : Limits) (k : ℕ) (h : k ≤ L.cuts) where
  at_same : (r : List GridPoint) (c v : ℕ) → ((j : ℕ) → split_polygon_at L r c v ≡ some j → c < k)
      → split_polygon_at (with_cuts k L) r c v ≡ split_polygon_at L r c v
  unfolding split_polygon_at bad
  at_same r c v f =
      ap (λ (x : Option ℕ). cond (bad L (measure_at r v) && ltb c k) x none) (best-same L k (rotate v r) (length r - 3))
      ∙ agree (bad L (measure_at r v)) (best_to L (rotate v r) (length r - 3)) c k L.cuts h f

  -- ---- no pop takes a cut back
  cut-more : (p : Part) (ps : List Part) (s : Stack) (v : ℕ) (x : Option ℕ) → s.cuts ≤ (cut_at p ps s v x).cuts
  unfolding cut_at
  cut-more p ps s v none = omega arith
  cut-more p ps s v (some j) = omega arith

  pop-more : (ps : List Part) (s : Stack) → s.cuts ≤ (pop L ps s).cuts
  unfolding pop
  pop-more [] s = omega arith
  pop-more (p ∷ ps) s = cut-more p ps s (worst p.points) (split_polygon_at L p.points s.cuts (worst p.points))

  pops-more : (d : ℕ) (s : Stack) → s.cuts ≤ (pops L d s).cuts
  unfolding pops
  pops-more zero s = omega arith
  pops-more (suc d) s = omega (arith, pop-more s.parts s, pops-more d (pop L s.parts s))

  -- ---- a pop that leaves k cuts or fewer
  one-cut : (p : Part) (ps : List Part) (s : Stack) (v : ℕ) (x : Option ℕ) (j : ℕ) → x ≡ some j → (cut_at p ps s v x).cuts ≤ k → s.cuts < k
  unfolding cut_at
  one-cut p ps s v x j e g = subst (λ (y : Option ℕ). (cut_at p ps s v y).cuts ≤ k) e g

  pop-same : (ps : List Part) (s : Stack) → (pop L ps s).cuts ≤ k → pop (with_cuts k L) ps s ≡ pop L ps s
  unfolding pop
  pop-same [] s g = refl
  pop-same (p ∷ ps) s g =
      let v = worst p.points in
      ap (cut_at p ps s v) (at_same p.points s.cuts v (λ j e. one-cut p ps s v (split_polygon_at L p.points s.cuts v) j e g))

  pops_same : (d : ℕ) (s : Stack) → (pops L d s).cuts ≤ k → pops (with_cuts k L) d s ≡ pops L d s
  unfolding pops
  pops_same zero s g = refl
  pops_same (suc d) s g =
      let t = pop L s.parts s in
      ap (pops (with_cuts k L) d) (pop-same s.parts s (omega (arith, pops-more d t, g))) ∙ pops_same d t g

-- ---- pops of an empty stack
pop-empty : (L : Limits) (ps : List Part) (s : Stack) → ps ≡ [] → pop L ps s ≡ s
unfolding pop
pop-empty L ps s e = ap (λ (l : List Part). pop L l s) e

pops-empty : (L : Limits) (d : ℕ) (s : Stack) → s.parts ≡ [] → pops L d s ≡ s
unfolding pops
pops-empty L zero s e = refl
pops-empty L (suc d) s e = ap (pops L d) (pop-empty L s.parts s e) ∙ pops-empty L d s e

pops_on : (L : Limits) (d e : ℕ) (s : Stack) → pops L (d + e) s ≡ pops L e (pops L d s)
unfolding pops
pops_on L zero e s = ap (λ (n : ℕ). pops L n s) (zero-add e)
pops_on L (suc d) e s = ap (λ (n : ℕ). pops L n s) (suc-add d e) ∙ pops_on L d e (pop L s.parts s)

-- twice k and one pops empty the stack, and more pops change nothing
enough : (M : Limits) (p : Part) (n : ℕ) → M.cuts ≤ n → split_bad_vertices M p ≡ pops M (2 * n + 1) (start p)
unfolding split_bad_vertices
enough M p n h =
    let e : 2 * M.cuts + 1 + 2 * (n - M.cuts) ≡ 2 * n + 1 = omega (arith, h) in
    sym (pops-empty M (2 * (n - M.cuts)) (split_bad_vertices M p) (emptied M p))
    ∙ sym (pops_on M (2 * M.cuts + 1) (2 * (n - M.cuts)) (start p))
    ∙ ap (λ (d : ℕ). pops M d (start p)) e

-- ---- the theorem
pub same-split : (L : Limits) (k : ℕ) (p : Part)
    → k ≤ L.cuts → (split_bad_vertices L p).cuts ≤ k → split_bad_vertices (with_cuts k L) p ≡ split_bad_vertices L p
unfolding split_bad_vertices
same-split L k p h g = enough (with_cuts k L) p L.cuts h ∙ pops_same L k h (2 * L.cuts + 1) (start p) g
