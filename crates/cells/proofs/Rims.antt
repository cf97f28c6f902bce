-- The rim marks that asks leave. What one stage leaves and then another leaves is what both leave (`rims_then`), and nothing asked for changes nothing
-- (`rims-none`); the list keeps its length. A set mark stays set (`rims-stay`), those past the nodes are as found (`rims-past`), and from an empty node list
-- the marks tell exactly what was asked for (`rims-told`).
use Prim.Native.Nat.{ℕ, zero, suc, ◌≤◌, ◌<◌}
use native.Mathlib.Decide.{dec_lt}
use native.Mathlib.Omega.{arith}
use mathlib.Core.Path.{◌≡◌, refl, sym, ap, ◌∙◌, subst}
use mathlib.Core.Logic.{◌⊎◌, inl, inr}
use mathlib.Core.Bool.{Bool, true, false, ◌&&◌, ◌||◌, not, cond}
use mathlib.Core.List.Memᴰ
use mathlib.Core.List.{List, [], ◌∷◌, ◌++◌, Memᴰ}
use borrow.Author.Tests.{lt-ltb, le-ltb, eqb-true, eq-eqb}
use lib.ListN.{length, get_or, get_or-eq_default}
use lib.Seq.{ext_get_or}
use lib.Dec.{T, eqb, ltb}
use Rattle.laws.specs.All.{All}
use Rattle.laws.specs.Bounded.{any}
use Rattle.laws.specs.Table.{tab}
use Rattle.laws.proofs.Booleans.{or-true}
use Rattle.laws.proofs.Table.{length_tab, get_d_tab}
use Rattle.cells.specs.Asks.{Ask, on_rim_of}
use Rattle.cells.specs.Rims.{on_rim_at, rim_at, rims_by, AskedOnRim, RimMark, rim, inside}
use Rattle.std.proofs.Math.Bool.{or-false, or_assoc}

-- ---- who asked, of asks and then of more
pub on_append : (a b : List Ask) (k : ℕ) → on_rim_at (a ++ b) k ≡ (on_rim_at a k || on_rim_at b k)
unfolding on_rim_at
on_append [] b k = refl
on_append (q ∷ a) b k =
    ap (λ (x : Bool). (on_rim_of q.role && eqb q.node k) || x) (on_append a b k)
    ∙ sym (or_assoc (on_rim_of q.role && eqb q.node k) (on_rim_at a k) (on_rim_at b k))

pub on_one : (q : Ask) (k : ℕ) → on_rim_at (q ∷ []) k ≡ (on_rim_of q.role && eqb q.node k)
unfolding on_rim_at
on_one q k = or-false (on_rim_of q.role && eqb q.node k)

pub on_tab : (f : ℕ → Ask) (n k : ℕ) → on_rim_at (tab f n) k ≡ any (λ i. on_rim_of (f i).role && eqb (f i).node k) n
unfolding tab any
on_tab f zero k = unfold on_rim_at in refl
on_tab f (suc n) k = on_append (tab f n) (f n ∷ []) k ∙ (λ j. on_tab f n k j || on_one (f n) k j)

-- a node that is asked for on the rim is listed where all that are asked for are
on_listed : (v : ℕ) (qs : List Ask) (k : ℕ) → All (λ (q : Ask). q.node < v) qs → v ≤ k → on_rim_at qs k ≡ false
unfolding on_rim_at
on_listed v [] k h l = refl
on_listed v (q ∷ qs) k h l = (λ j. (on_rim_of q.role && other j) || on_listed v qs k h.1 l j) ∙ no (on_rim_of q.role)
  where
    other : eqb q.node k ≡ false
    other = go (eqb q.node k) refl
      where
        go : (b : Bool) → eqb q.node k ≡ b → eqb q.node k ≡ false
        go true e = absurd (omega (arith, eqb-true q.node k e, h.0, l))
        go false e = e

    no : (b : Bool) → (b && false || false) ≡ false
    no true = refl
    no false = refl

-- ---- the mark of a place that none asked for
module _ (u v : ℕ) (k a : ℕ) where
  abbrev pub kept : ℕ
  kept = cond (ltb k u || not (ltb k v)) a 0

  pub old : k < u → kept ≡ a
  old h = ap (λ (b : Bool). cond (b || not (ltb k v)) a 0) (lt-ltb k u h)

  pub past : v ≤ k → kept ≡ a
  past h = ap (λ (b : Bool). cond (ltb k u || not b) a 0) (le-ltb k v h) ∙ ap (λ (b : Bool). cond b a 0) (or-true (ltb k u))

  pub new : u ≤ k → k < v → kept ≡ 0
  new h l = λ j. cond (le-ltb k u h j || not (lt-ltb k v l j)) a 0

-- ---- the marks
pub rims_length : (u v : ℕ) (qs : List Ask) (rs : List ℕ) → length (rims_by u v qs rs) ≡ length rs
unfolding rims_by
rims_length u v qs rs = length_tab (rim_at u v qs rs) (length rs)

pub rims-at : (u v : ℕ) (qs : List Ask) (rs : List ℕ) (k : ℕ) → k < length rs → get_or (rims_by u v qs rs) k 0 ≡ rim_at u v qs rs k
unfolding rims_by
rims-at u v qs rs k h = get_d_tab (rim_at u v qs rs) (length rs) k 0 h

-- a list of that length, place by place
pub is-rims : (u v : ℕ) (qs : List Ask) (rs ts : List ℕ) → length ts ≡ length rs → ((k : ℕ) → k < length rs → get_or ts k 0 ≡ rim_at u v qs rs k)
    → ts ≡ rims_by u v qs rs
is-rims u v qs rs ts e h =
    ext_get_or 0 ts (rims_by u v qs rs) (e ∙ sym (rims_length u v qs rs))
    (λ k l. let g : k < length rs = omega (arith, l, e) in h k g ∙ sym (rims-at u v qs rs k g))

rim-none : (u : ℕ) (rs : List ℕ) (k : ℕ) → get_or rs k 0 ≡ rim_at u u [] rs k
unfolding rim_at on_rim_at
rim-none u rs k = go (dec_lt k u)
  where
    go : Dec (k < u) → get_or rs k 0 ≡ kept u u k (get_or rs k 0)
    go (yes h) = sym (old u u k (get_or rs k 0) h)
    go (no h) = sym (past u u k (get_or rs k 0) (omega arith))

pub rims-none : (u : ℕ) (rs : List ℕ) → rims_by u u [] rs ≡ rs
rims-none u rs = sym (is-rims u u [] rs rs refl (λ k h. rim-none u rs k))

module _ (u v w : ℕ) (qs bs : List Ask) (rs : List ℕ) (h : u ≤ v) (l : v ≤ w) (low : All (λ (q : Ask). q.node < v) qs) where
  value : (k : ℕ) → (a b : Bool) → on_rim_at qs k ≡ a
      → cond b 1 (kept v w k (cond a 1 (kept u v k (get_or rs k 0)))) ≡ cond (a || b) 1 (kept u w k (get_or rs k 0))
  value k a b e = go (dec_lt k u) (dec_lt k v) (dec_lt k w) a b e
    where
      x : ℕ
      x = get_or rs k 0

      both : (a b : Bool) (m n : ℕ) → m ≡ cond a 1 n → cond b 1 m ≡ cond (a || b) 1 n
      both true true m n e = refl
      both true false m n e = e
      both false true m n e = refl
      both false false m n e = e

      go : Dec (k < u) → Dec (k < v) → Dec (k < w) → (a b : Bool) → on_rim_at qs k ≡ a
          → cond b 1 (kept v w k (cond a 1 (kept u v k x))) ≡ cond (a || b) 1 (kept u w k x)
      go (yes f) g i a b e =
          both a b _ _ (old v w k (cond a 1 (kept u v k x)) (omega (arith, f, h)) ∙ ap (cond a 1) (old u v k x f ∙ sym (old u w k x f)))
      go (no f) (yes g) i a b e =
          both a b _ _
          (old v w k (cond a 1 (kept u v k x)) g ∙ ap (cond a 1) (new u v k x (omega arith) g ∙ sym (new u w k x (omega arith) (omega (arith, g, l)))))
      go (no f) (no g) (yes i) true b e =
          let z : true ≡ false = sym e ∙ on_listed v qs k low (omega arith) in let y : ◌≡◌ {A = ℕ} 0 1 = cc in absurd (omega arith)
      go (no f) (no g) (yes i) false b e = both false b _ _ (new v w k (kept u v k x) (omega arith) i ∙ sym (new u w k x (omega arith) i))
      go (no f) (no g) (no i) a b e =
          both a b _ _ (past v w k (cond a 1 (kept u v k x)) (omega arith) ∙ ap (cond a 1) (past u v k x (omega arith) ∙ sym (past u w k x (omega arith))))

  rim_then : (k : ℕ) → k < length rs → rim_at v w bs (rims_by u v qs rs) k ≡ rim_at u w (qs ++ bs) rs k
  unfolding rim_at
  rim_then k g =
      ap (λ (x : ℕ). cond (on_rim_at bs k) 1 (kept v w k x)) (rims-at u v qs rs k g)
      ∙ value k (on_rim_at qs k) (on_rim_at bs k) refl
      ∙ ap (λ (b : Bool). cond b 1 (kept u w k (get_or rs k 0))) (sym (on_append qs bs k))

  pub rims_then : rims_by v w bs (rims_by u v qs rs) ≡ rims_by u w (qs ++ bs) rs
  rims_then =
      let e = rims_length u v qs rs in
      is-rims u w (qs ++ bs) rs (rims_by v w bs (rims_by u v qs rs)) (rims_length v w bs (rims_by u v qs rs) ∙ e)
      (λ k g. rims-at v w bs (rims_by u v qs rs) k (omega (arith, g, e)) ∙ rim_then k g)

-- ---- what is claimed of them
pub rims-stay : (u v : ℕ) (qs : List Ask) (rs : List ℕ) (k : ℕ) → k < u → k < length rs → get_or rs k 0 ≡ 1 → get_or (rims_by u v qs rs) k 0 ≡ 1
unfolding rim_at
rims-stay u v qs rs k h l e = rims-at u v qs rs k l ∙ ap (cond (on_rim_at qs k) 1) (old u v k (get_or rs k 0) h ∙ e) ∙ go (on_rim_at qs k)
  where
    go : (b : Bool) → ◌≡◌ {A = ℕ} (cond b 1 1) 1
    go true = refl
    go false = refl

pub rims-past : (u v : ℕ) (qs : List Ask) (rs : List ℕ) (k : ℕ) → All (λ (q : Ask). q.node < v) qs → v ≤ k → get_or (rims_by u v qs rs) k 0 ≡ get_or rs k 0
unfolding rim_at
rims-past u v qs rs k a h = go (dec_lt k (length rs))
  where
    go : Dec (k < length rs) → get_or (rims_by u v qs rs) k 0 ≡ get_or rs k 0
    go (yes l) = rims-at u v qs rs k l ∙ (λ j. cond (on_listed v qs k a h j) 1 (past u v k (get_or rs k 0) h j))
    go (no l) =
        get_or-eq_default (rims_by u v qs rs) 0 (omega (arith, l, rims_length u v qs rs)) ∙ sym (get_or-eq_default rs 0 (omega arith))

-- the test is the claim
asked : (qs : List Ask) (k : ℕ) → on_rim_at qs k ≡ true → AskedOnRim qs k
unfolding on_rim_at
asked [] k e = let z : ◌≡◌ {A = ℕ} 0 1 = cc in absurd (omega arith)
asked (q ∷ qs) k e = go (on_rim_of q.role) refl (eqb q.node k) refl (asked qs k) e
  where
    later : AskedOnRim qs k → AskedOnRim (q ∷ qs) k
    later w = record { ask = w.ask; one = Memᴰ.tail w.one; on_rim = w.on_rim; for = w.for }

    go : (a : Bool) → on_rim_of q.role ≡ a → (b : Bool) → eqb q.node k ≡ b → (on_rim_at qs k ≡ true → AskedOnRim qs k) → (a && b || on_rim_at qs k) ≡ true
        → AskedOnRim (q ∷ qs) k
    go true f true g r e = record { ask = q; one = Memᴰ.head refl; on_rim = subst T (sym f) tt; for = eqb-true q.node k g }
    go true f false g r e = later (r e)
    go false f b g r e = later (r e)

not-asked : (qs : List Ask) (k : ℕ) → on_rim_at qs k ≡ false → AskedOnRim qs k → ⊥
unfolding on_rim_at
not-asked [] k e w = Memᴰ.not-nil w.one
not-asked (q ∷ qs) k e w = go (Memᴰ.cases_cons w.one) (on_rim_of q.role && eqb q.node k) refl e (not-asked qs k)
  where
    both : (a b : Bool) → T a → b ≡ true → (a && b) ≡ true
    both true b t e = e
    both false b t e = absurd t

    go : (w.ask ≡ q) ⊎ Memᴰ w.ask qs → (a : Bool) → (on_rim_of q.role && eqb q.node k) ≡ a → (a || on_rim_at qs k) ≡ false
        → (on_rim_at qs k ≡ false → AskedOnRim qs k → ⊥) → ⊥
    go s true f e r = let z : ◌≡◌ {A = ℕ} 0 1 = cc in absurd (omega arith)
    go (inl d) false f e r =
        let z : true ≡ false =
        sym
        (both (on_rim_of q.role) (eqb q.node k) (subst (λ (x : Ask). T (on_rim_of x.role)) d w.on_rim)
        (eq-eqb q.node k (ap (λ (x : Ask). x.node) (sym d) ∙ w.for)))
        ∙ f in
        let y : ◌≡◌ {A = ℕ} 0 1 = cc in
        absurd (omega arith)
    go (inr m) false f e r = r e (record { ask = w.ask; one = m; on_rim = w.on_rim; for = w.for })

pub rims-told : (v : ℕ) (qs : List Ask) (rs : List ℕ) (k : ℕ) → k < v → v ≤ length rs → RimMark qs k (get_or (rims_by 0 v qs rs) k 0)
unfolding rim_at
rims-told v qs rs k h l =
    subst (RimMark qs k) (sym (rims-at 0 v qs rs k (omega (arith, h, l)) ∙ ap (cond (on_rim_at qs k) 1) (new 0 v k (get_or rs k 0) (omega arith) h)))
    (go (on_rim_at qs k) refl)
  where
    go : (b : Bool) → on_rim_at qs k ≡ b → RimMark qs k (cond b 1 0)
    go true e = rim (asked qs k e)
    go false e = inside (not-asked qs k e)
