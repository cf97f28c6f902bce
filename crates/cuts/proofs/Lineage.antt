-- The diagonal of a cut through all later cuts: at any time, of the parts that stand and the pieces, two have it as a side, in two places: one that comes of
-- either part beside it.
use Prim.Native.Nat.{ℕ, zero, suc, ◌≤◌, ◌<◌}
use native.Mathlib.Decide.{dec_lt}
use native.Mathlib.Omega.{arith}
use mathlib.Core.Path.{◌≡◌, refl, sym, ap, ◌∙◌, subst}
use mathlib.Core.Logic.{◌⊎◌, inl, inr}
use mathlib.Core.List.{List, [], ◌∷◌, ◌++◌, append_assoc, Memᴰ}
use lib.ListN.{length, get_or, length-append, get_or-append}
use lib.Seq.{get_or-append_seam}
use Rattle.laws.specs.All.{All}
use Rattle.laws.proofs.Lists.{all_append, all-weaken, all_mem}
use Rattle.marks.specs.Part.{Part, no_part}
use Rattle.limits.specs.declared.Limits.{Limits}
use Rattle.split.specs.Split.{Cut, Stack, split_bad_vertices}
use Rattle.cuts.specs.Counts.{Sound}
use Rattle.cuts.specs.Provenance.{first_part_of, second_part_of, Side, sides, diagonal, SameSide, SidesShared, Deals, Among, Under, itself}
use Rattle.cuts.specs.Provenance.{by_first, by_second, Carries, Beside}
use Rattle.cuts.proofs.Machine.{cut}
use Rattle.cuts.proofs.Parts.{keep}
use Rattle.cuts.proofs.Match.{all_match, match_back, alike-back, among-alike, among_match}
use Rattle.cuts.proofs.Tracing.{cut-deals}

under_more : (c : Cut) (l : List Cut) (p : Part) (q : Part) → Under l p q → Under (c ∷ l) p q
under_more c l p q itself = itself
under_more c l p q (by_first d m u e) = by_first d (Memᴰ.tail m) (under_more c l p d.part u) e
under_more c l p q (by_second d m u e) = by_second d (Memᴰ.tail m) (under_more c l p d.part u) e

-- ---- a side of the part that is cut is a side of one of the two
Shared : List Side → List Side → Side → Type 0
Shared a b s = Among a s ⊎ Among b s

shared_alike : (a b : List Side) (s t : Side) → SameSide s t → Shared a b t → Shared a b s
unfolding Shared
shared_alike a b s t r (inl k) = inl (among-alike a s t r k)
shared_alike a b s t r (inr k) = inr (among-alike b s t r k)

shared : (a b w : List Side) (d : Side) → SidesShared a b w d → (s : Side) → Among w s → Shared a b s
unfolding Shared
shared a b w d e s k =
    shared_alike a b s k.like k.alike
    (all_mem (Shared a b) w
    (all_match (Shared a b) (shared_alike a b) (match_back alike-back e.both)
    (all_append (Shared a b) e.one e.two
    (all-weaken (Among a) (Shared a b) (λ x h. inl h) e.one (among_match (match_back alike-back e.first_has)).1)
    (all-weaken (Among b) (Shared a b) (λ x h. inr h) e.two (among_match (match_back alike-back e.second_has)).1)))
    k.like k.source)

-- ---- the same part in another place
placed : (l : List Cut) (qs rs : List Part) (d : Side) (p : Part) (i j : ℕ) → j < length rs → get_or qs i no_part ≡ get_or rs j no_part → Carries l qs d p i
    → Carries l rs d p j
placed l qs rs d p i j h e k = record { low = h; under = subst (Under l p) e k.under; has = subst (λ (q : Part). Among (sides q) d) e k.has }

-- ---- the part p goes out, from the first place to the last
goes_to : ℕ → ℕ → ℕ
goes_to n zero = n
goes_to n (suc i) = i

goes-apart : (n i j : ℕ) → i < suc n → j < suc n → ¬ (i ≡ j) → ¬ (goes_to n i ≡ goes_to n j)
unfolding goes_to
goes-apart n zero zero g h a e = a refl
goes-apart n zero (suc j) g h a e = omega (arith, g, h, e)
goes-apart n (suc i) zero g h a e = omega (arith, g, h, e)
goes-apart n (suc i) (suc j) g h a e = a (ap suc e)

longer : (p : Part) (w : List Part) → length (w ++ (p ∷ [])) ≡ suc (length w)
longer p w = omega (arith, length-append w (p ∷ []))

gone : (l : List Cut) (p : Part) (w : List Part) (d : Side) (r : Part) (i : ℕ) → Carries l (p ∷ w) d r i → Carries l (w ++ (p ∷ [])) d r (goes_to (length w) i)
unfolding goes_to
gone l p w d r zero k = placed l (p ∷ w) (w ++ (p ∷ [])) d r zero (length w) (omega (arith, longer p w)) (sym (get_or-append_seam w p [] no_part)) k
gone l p w d r (suc i) k =
    let h : i < length w = omega (arith, k.low) in
    placed l (p ∷ w) (w ++ (p ∷ [])) d r (suc i) i (omega (arith, longer p w)) (sym (get_or-append w (p ∷ []) no_part i h)) k

beside-out : (l : List Cut) (p : Part) (w : List Part) (c : Cut) → Beside l (p ∷ w) c → Beside l (w ++ (p ∷ [])) c
beside-out l p w c b =
    record {
      i = goes_to (length w) b.i;
      j = goes_to (length w) b.j;
      apart = goes-apart (length w) b.i b.j b.first.low b.second.low b.apart;
      first = gone l p w (diagonal c) (first_part_of c) b.i b.first;
      second = gone l p w (diagonal c) (second_part_of c) b.j b.second;
    }

-- ---- the part of the cut c is cut: what it carried one of the two carries, in the first place or the next; the others stand one place further
record Passed (l : List Cut) (qs : List Part) (d : Side) (p : Part) (i : ℕ) : Type 0 where
  pub place : ℕ
  pub near : place < 2 → i ≡ 0
  pub far : 2 ≤ place → place ≡ suc i
  pub carries : Carries l qs d p place

child : (l : List Cut) (c : Cut) (w : List Part) (d : Side) (r : Part) → Under l r c.part → Shared (sides (first_part_of c)) (sides (second_part_of c)) d
    → Passed (c ∷ l) (second_part_of c ∷ first_part_of c ∷ w) d r 0
unfolding Shared
child l c w d r u (inl k) =
    record {
      place = 1;
      near = λ h. refl;
      far = λ h. absurd (omega (arith, h));
      carries = record { low = omega arith; under = by_first c (Memᴰ.head refl) (under_more c l r c.part u) refl; has = k };
    }
child l c w d r u (inr k) =
    record {
      place = 0;
      near = λ h. refl;
      far = λ h. absurd (omega (arith, h));
      carries = record { low = omega arith; under = by_second c (Memᴰ.head refl) (under_more c l r c.part u) refl; has = k };
    }

passed_on : (l : List Cut) (c : Cut) (w : List Part) → Deals c → (d : Side) (r : Part) (i : ℕ) → Carries l (c.part ∷ w) d r i
    → Passed (c ∷ l) (second_part_of c ∷ first_part_of c ∷ w) d r i
passed_on l c w e d r zero k = child l c w d r k.under (shared (sides (first_part_of c)) (sides (second_part_of c)) (sides c.part) (diagonal c) e d k.has)
passed_on l c w e d r (suc i) k =
    record {
      place = suc (suc i);
      near = λ h. absurd (omega (arith, h));
      far = λ h. refl;
      carries = record { low = omega (arith, k.low); under = under_more c l r (get_or w i no_part) k.under; has = k.has };
    }

passed_apart : {l : List Cut} {qs : List Part} {d e : Side} {p q : Part} {i j : ℕ} (a : Passed l qs d p i) (b : Passed l qs e q j) → ¬ (i ≡ j)
    → ¬ (a.place ≡ b.place)
passed_apart {i = i} {j = j} a b n e = go (dec_lt a.place 2)
  where
    go : Dec (a.place < 2) → ⊥
    go (yes h) = n (a.near h ∙ sym (b.near (subst (λ (k : ℕ). k < 2) e h)))
    go (no h) =
        let f : 2 ≤ a.place = omega arith in
        let x : suc i ≡ suc j = sym (a.far f) ∙ e ∙ b.far (subst (λ (k : ℕ). 2 ≤ k) e f) in
        n (omega (arith, x))

beside-cut : (l : List Cut) (c : Cut) (w : List Part)
    → Deals c → (x : Cut) → Beside l (c.part ∷ w) x → Beside (c ∷ l) (second_part_of c ∷ first_part_of c ∷ w) x
beside-cut l c w e x b =
    let f = passed_on l c w e (diagonal x) (first_part_of x) b.i b.first in
    let s = passed_on l c w e (diagonal x) (second_part_of x) b.j b.second in
    record { i = f.place; j = s.place; apart = passed_apart f s b.apart; first = f.carries; second = s.carries }

-- ---- the diagonal of the cut just made
own : (l : List Cut) (c : Cut) (w : List Part) → Deals c → Beside (c ∷ l) (second_part_of c ∷ first_part_of c ∷ w) c
own l c w e =
    record {
      i = 1;
      j = 0;
      apart = λ h. omega (arith, h);
      first = record { low = omega arith; under = itself; has = (among_match (match_back alike-back e.first_has)).0 };
      second = record { low = omega arith; under = itself; has = (among_match (match_back alike-back e.second_has)).0 };
    }

-- ---- at any time
abbrev pub Following : Stack → Type 0
Following s = All (Beside s.log (s.parts ++ s.pieces)) s.log

pub following : (L : Limits) (ring : Part) → Sound ring → Following (split_bad_vertices L ring)
following L ring s =
    keep L Following
    (λ p ps o c t l s g i.
    all-weaken (Beside l (p ∷ (ps ++ o))) (Beside l (ps ++ (o ++ (p ∷ []))))
    (λ x b. subst (λ (w : List Part). Beside l w x) (append_assoc ps o (p ∷ [])) (beside-out l p (ps ++ o) x b)) l i)
    (λ p ps o c t l k f h i.
    let d = cut-deals f in
    let e = cut p k in (
      own l e (ps ++ o) d,
      all-weaken (Beside l (p ∷ (ps ++ o))) (Beside (e ∷ l) (second_part_of e ∷ first_part_of e ∷ (ps ++ o))) (beside-cut l e (ps ++ o) d) l i,
    ))
    ring s tt
