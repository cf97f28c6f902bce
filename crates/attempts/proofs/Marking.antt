-- The rim marks as the code sets them, the new places cleared, then those of the corners set and those of the middles of ring edges, are what an attempt's
-- asks leave (`marked`).
use Prim.Native.Nat.{ℕ, zero, suc, ◌+◌, ◌-◌, ◌≤◌, ◌<◌}
use native.Mathlib.Decide.{dec_lt, ℕ_discrete}
use native.Mathlib.Omega.{arith}
use mathlib.Core.Path.{◌≡◌, refl, sym, ap, ◌∙◌}
use mathlib.Core.Bool.{Bool, true, false, ◌&&◌, ◌||◌, cond}
use mathlib.Core.List.{List, [], ◌∷◌, ◌++◌}
use borrow.Author.Tests.{eq-eqb, ne_eqb}
use lib.ListN.{length, get_or, set, take, replicate, get_or-replicate}
use lib.Seq.{get_or-set_same, get_or-set_other, get_or-take}
use lib.Dec.{eqb}
use Rattle.laws.specs.Bounded.{any}
use Rattle.laws.specs.Table.{tab}
use Rattle.laws.proofs.Search.{any_ext}
use Rattle.cells.specs.Asks.{Ask, ask, as_corner, as_centre, as_middle, on_rim_of, asks_for}
use Rattle.cells.specs.Rims.{on_rim_at, rim_at, rims_by}
use Rattle.cells.specs.Flat.{side_at}
use Rattle.rim_marks.specs.Marking.{cleared, set_at, rim_marks}
use Rattle.rim_marks.proofs.Marking.{clear-length, set-length}
use Rattle.cells.proofs.Rims.{on_append, on_one, on_tab, kept, old, new, past, is-rims}
use Rattle.std.proofs.Math.Bool.{or-false, or-true}

-- ---- clearing
clear_at : (rs : List ℕ) (u d k : ℕ) → k < length rs → get_or (cleared rs u d) k 0 ≡ kept u (u + d) k (get_or rs k 0)
unfolding cleared
clear_at rs u zero k h = go (dec_lt k u)
  where
    go : Dec (k < u) → get_or rs k 0 ≡ kept u (u + 0) k (get_or rs k 0)
    go (yes l) = sym (old u (u + 0) k (get_or rs k 0) l)
    go (no l) = sym (past u (u + 0) k (get_or rs k 0) (omega arith))
clear_at rs u (suc d) k h = go (dec_lt k (u + d)) (dec_lt (u + d) k) (dec_lt k u) (clear_at rs u d k h)
  where
    x : ℕ
    x = get_or rs k 0

    ts : List ℕ
    ts = cleared rs u d

    go : Dec (k < u + d) → Dec (u + d < k) → Dec (k < u) → get_or ts k 0 ≡ kept u (u + d) k x → get_or (set ts (u + d) 0) k 0 ≡ kept u (u + suc d) k x
    go (yes a) b (yes l) e = get_or-set_other ts (u + d) k 0 0 (λ f. omega (arith, f, a)) ∙ e ∙ old u (u + d) k x l ∙ sym (old u (u + suc d) k x l)
    go (yes a) b (no l) e =
        get_or-set_other ts (u + d) k 0 0 (λ f. omega (arith, f, a)) ∙ e ∙ new u (u + d) k x (omega arith) a
        ∙ sym (new u (u + suc d) k x (omega arith) (omega (arith, a)))
    go (no a) (yes b) l e =
        get_or-set_other ts (u + d) k 0 0 (λ f. omega (arith, f, b)) ∙ e ∙ past u (u + d) k x (omega arith) ∙ sym (past u (u + suc d) k x (omega (arith, b)))
    go (no a) (no b) l e =
        let f : u + d ≡ k = omega arith in
        ap (λ (i : ℕ). get_or (set ts i 0) k 0) f ∙ get_or-set_same ts k 0 0 (omega (arith, h, clear-length rs u d))
        ∙ sym (new u (u + suc d) k x (omega (arith, f)) (omega (arith, f)))

-- ---- setting
module _ (rs ks : List ℕ) (bs : List Bool) where
  -- node k is one of the first n that are set
  abbrev hits : ℕ → ℕ → Bool
  hits k i = get_or bs i false && eqb (get_or ks i 0) k

  set-at : (n k : ℕ) → k < length rs → get_or (set_at rs ks bs n) k 0 ≡ cond (any (hits k) n) 1 (get_or rs k 0)
  unfolding set_at any
  set-at zero k h = refl
  set-at (suc n) k h = go (get_or bs n false) (ℕ_discrete (get_or ks n 0) k) (any (hits k) n) (set-at n k h)
    where
      ts : List ℕ
      ts = set_at rs ks bs n

      x : ℕ
      x = get_or rs k 0

      go : (b : Bool) → Dec (get_or ks n 0 ≡ k) → (a : Bool) → get_or ts k 0 ≡ cond a 1 x
          → get_or (cond b (set ts (get_or ks n 0) 1) ts) k 0 ≡ cond (a || (b && eqb (get_or ks n 0) k)) 1 x
      go true (yes f) a e =
          ap (λ (i : ℕ). get_or (set ts i 1) k 0) f ∙ get_or-set_same ts k 1 0 (omega (arith, h, set-length rs ks bs n))
          ∙ ap (λ (c : Bool). cond c 1 x) (sym (or-true a))
          ∙ ap (λ (c : Bool). cond (a || c) 1 x) (sym (eq-eqb (get_or ks n 0) k f))
      go true (no f) a e =
          get_or-set_other ts (get_or ks n 0) k 1 0 (λ g. f (sym g)) ∙ e ∙ ap (λ (c : Bool). cond c 1 x) (sym (or-false a))
          ∙ ap (λ (c : Bool). cond (a || c) 1 x) (sym (ne_eqb (get_or ks n 0) k f))
      go false f a e = e ∙ ap (λ (c : Bool). cond c 1 x) (sym (or-false a))

-- ---- an attempt
role-is : (b : Bool) → on_rim_of (as_middle b) ≡ b
role-is true = refl
role-is false = refl

asked-at : (vs ms : List ℕ) (c : ℕ) (o : ℕ → Bool) (n k : ℕ)
    → on_rim_at (asks_for vs ms c o n) k ≡ (any (λ i. eqb (get_or vs i 0) k) n || any (λ i. o i && eqb (get_or ms i 0) k) n)
unfolding asks_for
asked-at vs ms c o n k =
    on_append (v_a ++ m_a) (ask c as_centre ∷ []) k
    ∙ (λ j. on_append v_a m_a k j || on_one (ask c as_centre) k j)
    ∙ or-false (on_rim_at v_a k || on_rim_at m_a k)
    ∙ (λ j. on_tab (λ i. ask (get_or vs i 0) as_corner) n k j || on_tab (λ i. ask (get_or ms i 0) (as_middle (o i))) n k j)
    ∙ ap (λ (b : Bool). any (λ i. eqb (get_or vs i 0) k) n || b)
    (any_ext (λ i. on_rim_of (as_middle (o i)) && eqb (get_or ms i 0) k) (λ i. o i && eqb (get_or ms i 0) k) n
    (λ i l. ap (λ (b : Bool). b && eqb (get_or ms i 0) k) (role-is (o i))))
  where
    v_a : List Ask
    v_a = tab (λ i. ask (get_or vs i 0) as_corner) n

    m_a : List Ask
    m_a = tab (λ i. ask (get_or ms i 0) (as_middle (o i))) n

-- u nodes were listed, v are; the code cleared, and set twice
pub marked : (rs ys : List ℕ) (u v n : ℕ) (vs ms : List ℕ) (bs : List Bool) (c : ℕ) → u ≤ v → n ≤ 60 → ys ≡ rim_marks rs u v vs ms bs n
    → ys ≡ rims_by u v (asks_for (take n vs) (take n ms) c (side_at bs) n) rs
unfolding rim_at
marked rs ys u v n vs ms bs c h few g = is-rims u v (asks_for (take n vs) (take n ms) c (side_at bs) n) rs ys long at
  where
    -- cleared, and then the corners set
    ts : List ℕ
    ts = cleared rs u (v - u)

    xs : List ℕ
    xs = set_at ts vs (replicate 60 true) n

    t-long : length ts ≡ length rs
    t-long = clear-length rs u (v - u)

    x-long : length xs ≡ length rs
    x-long = set-length ts vs (replicate 60 true) n ∙ t-long

    long : length ys ≡ length rs
    long = ap length g ∙ set-length xs ms bs n ∙ x-long

    corners : (k : ℕ) → any (hits ts vs (replicate 60 true) k) n ≡ any (λ i. eqb (get_or (take n vs) i 0) k) n
    corners k =
        any_ext (hits ts vs (replicate 60 true) k) (λ i. eqb (get_or (take n vs) i 0) k) n
        (λ i l. λ j. get_or-replicate 60 i true false (omega (arith, l, few)) j && eqb (sym (get_or-take n vs i 0 l) j) k)

    middles : (k : ℕ) → any (hits xs ms bs k) n ≡ any (λ i. side_at bs i && eqb (get_or (take n ms) i 0) k) n
    middles k =
        any_ext (hits xs ms bs k) (λ i. side_at bs i && eqb (get_or (take n ms) i 0) k) n (λ i l. λ j. side_at bs i && eqb (sym (get_or-take n ms i 0 l) j) k)

    both : (a b : Bool) (x : ℕ) → cond b 1 (cond a 1 x) ≡ cond (a || b) 1 x
    both true true x = refl
    both true false x = refl
    both false true x = refl
    both false false x = refl

    at : (k : ℕ) → k < length rs → get_or ys k 0 ≡ rim_at u v (asks_for (take n vs) (take n ms) c (side_at bs) n) rs k
    at k l =
        let w : u + (v - u) ≡ v = omega arith in
        ap (λ (y : List ℕ). get_or y k 0) g ∙ set-at xs ms bs n k (omega (arith, l, x-long))
        ∙ (λ j. cond (middles k j) 1 (set-at ts vs (replicate 60 true) n k (omega (arith, l, t-long)) j))
        ∙ (λ j. cond (any (λ i. side_at bs i && eqb (get_or (take n ms) i 0) k) n) 1
        (cond (corners k j) 1 (clear_at rs u (v - u) k l j)))
        ∙ ap
        (λ (w : ℕ).
        cond (any (λ i. side_at bs i && eqb (get_or (take n ms) i 0) k) n) 1
        (cond (any (λ i. eqb (get_or (take n vs) i 0) k) n) 1 (kept u w k (get_or rs k 0))))
        w
        ∙ both (any (λ i. eqb (get_or (take n vs) i 0) k) n) (any (λ i. side_at bs i && eqb (get_or (take n ms) i 0) k) n) (kept u v k (get_or rs k 0))
        ∙ ap (λ (b : Bool). cond b 1 (kept u v k (get_or rs k 0))) (sym (asked-at (take n vs) (take n ms) c (side_at bs) n k))
