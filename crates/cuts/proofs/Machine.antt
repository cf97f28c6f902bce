-- The stack of the split has two steps: a part goes out, or is cut. What holds at the start and is kept by both holds at the end, and at the end no part is
-- left.
use Prim.Native.Nat.{ℕ, zero, suc, ◌+◌, ◌-◌, ◌*◌, ◌≤◌, ◌<◌}
use native.Mathlib.Omega.{arith}
use mathlib.Core.Path.{◌≡◌, refl}
use mathlib.Core.Logic.{◌⊎◌, inl, inr}
use mathlib.Core.Bool.{Bool, true, false, not, cond, ◌&&◌}
use mathlib.Core.Option.{Option, none, some}
use mathlib.Core.List.{List, [], ◌∷◌, ◌++◌}
use lib.ListN.{length}
use lib.Dec.{T, ltb, ltb→lt, nltb→le}
use Rattle.marks.specs.Part.{Part}
use Rattle.limits.specs.declared.Limits.{Limits}
use Rattle.corner.specs.Corner.{bad, measure_at, worst}
use Rattle.diagonal.specs.Diagonal.{best_to}
use Rattle.parts.specs.Cut.{rotate, first_part, second_part, turned_in}
use Rattle.split.specs.Split.{Cut, Stack, split_polygon_at, cut_at, pop, pops, start, split_bad_vertices}

abbrev pub stack : List Part → List Part → ℕ → ℕ → List Cut → Stack
stack ps o c t l = record { parts = ps; pieces = o; cuts = c; turned = t; log = l }

-- the worst corner of a part, whether it is bad, the best diagonal from it, and the cut along the diagonal to the place k after it
abbrev pub worst_of : Part → ℕ
worst_of p = worst p.points

abbrev pub is_bad : Limits → Part → Bool
is_bad L p = bad L (measure_at p.points (worst_of p))

abbrev pub choice : Limits → Part → Option ℕ
choice L p = best_to L (rotate (worst_of p) p.points) (length p.points - 3)

abbrev pub cut : Part → ℕ → Cut
cut p k = record { part = p; v = worst_of p; k = k }

-- p goes out after c cuts: its worst corner is not bad, the cuts are spent, or no diagonal meets the rule
pub record GoesOut (L : Limits) (p : Part) (c : ℕ) : Type 0 where
  pub why : T (is_bad L p) → (L.cuts ≤ c) ⊎ (choice L p ≡ none)

-- p is cut after c cuts, by the diagonal to the place k after its worst corner
pub record IsCut (L : Limits) (p : Part) (c k : ℕ) : Type 0 where
  pub left : c < L.cuts
  pub bad : T (is_bad L p)
  pub chosen : choice L p ≡ some k

goes : (L : Limits) (b l : Bool) (x : Option ℕ) (c : ℕ) → (T (not l) → L.cuts ≤ c) → cond (b && l) x none ≡ none → T b → (L.cuts ≤ c) ⊎ (x ≡ none)
goes L true true x c f e t = inr e
goes L true false x c f e t = inl (f tt)
goes L false l x c f e t = absurd t

parts : (b l : Bool) (x : Option ℕ) (k : ℕ) → cond (b && l) x none ≡ some k → T b × T l × (x ≡ some k)
parts true true x k e = (tt, tt, e)
parts true false x k e = let z : ◌≡◌ {A = ℕ} 0 1 = cc in absurd (omega arith)
parts false l x k e = let z : ◌≡◌ {A = ℕ} 0 1 = cc in absurd (omega arith)

-- I before each of the two steps gives J after it
abbrev pub KeptOut : Limits → (Stack → Type 0) → (Stack → Type 0) → Type 0
KeptOut L I J = (p : Part) (ps o : List Part) (c t : ℕ) (l : List Cut) → GoesOut L p c → I (stack (p ∷ ps) o c t l) → J (stack ps (o ++ (p ∷ [])) c t l)

abbrev pub KeptCut : Limits → (Stack → Type 0) → (Stack → Type 0) → Type 0
KeptCut L I J =
    (p : Part) (ps o : List Part) (c t : ℕ) (l : List Cut) (k : ℕ) → IsCut L p c k → I (stack (p ∷ ps) o c t l)
    → J (stack (second_part p (worst_of p) k ∷ first_part p (worst_of p) k ∷ ps) o (suc c) (t + turned_in p (worst_of p) k) (cut p k ∷ l))

-- ---- by the pops that are left
module _ (L : Limits)
    (I : ℕ → Stack → Type 0)
    (rest : (o : List Part) (c t : ℕ) (l : List Cut) (d : ℕ) → I (suc d) (stack [] o c t l) → I d (stack [] o c t l))
    (go : (d : ℕ) → KeptOut L (I (suc d)) (I d))
    (part : (d : ℕ) → KeptCut L (I (suc d)) (I d))
  where
    keep-cut : (p : Part) (ps o : List Part) (c t : ℕ) (l : List Cut) (d : ℕ) (x : Option ℕ) → split_polygon_at L p.points c (worst_of p) ≡ x
        → I (suc d) (stack (p ∷ ps) o c t l)
        → I d (cut_at p ps (stack (p ∷ ps) o c t l) (worst_of p) x)
    unfolding cut_at split_polygon_at
    keep-cut p ps o c t l d none e i =
        go d p ps o c t l (record { why = goes L (is_bad L p) (ltb c L.cuts) (choice L p) c (nltb→le c L.cuts) e }) i
    keep-cut p ps o c t l d (some k) e i =
        let h = parts (is_bad L p) (ltb c L.cuts) (choice L p) k e in
        part d p ps o c t l k (record { left = ltb→lt c L.cuts h.1; bad = h.0; chosen = h.2 }) i

    keep-pop : (ps o : List Part) (c t : ℕ) (l : List Cut) (d : ℕ) → I (suc d) (stack ps o c t l) → I d (pop L ps (stack ps o c t l))
    unfolding pop
    keep-pop [] o c t l d i = rest o c t l d i
    keep-pop (p ∷ ps) o c t l d i = keep-cut p ps o c t l d _ refl i

    keep-pops : (d : ℕ) (s : Stack) → I d s → I 0 (pops L d s)
    unfolding pops
    keep-pops zero s i = i
    keep-pops (suc d) s i = keep-pops d (pop L s.parts s) (keep-pop s.parts s.pieces s.cuts s.turned s.log d i)

    pub keep-counted : (p : Part) → I (2 * L.cuts + 1) (start p) → I 0 (split_bad_vertices L p)
    unfolding split_bad_vertices
    keep-counted p i = keep-pops (2 * L.cuts + 1) (start p) i

-- ---- the same whatever is left
pub keep_all : (L : Limits) (I : Stack → Type 0) → KeptOut L I I → KeptCut L I I → (p : Part) → I (start p) → I (split_bad_vertices L p)
keep_all L I go part p i = keep-counted L (λ d. I) (λ o c t l d j. j) (λ d. go) (λ d. part) p i

-- ---- the pops empty the stack: while parts stand, twice the cuts left and the parts are no more than the pops left
record Room (L : Limits) (d : ℕ) (s : Stack) : Type 0 where
  pub most : s.cuts ≤ L.cuts
  pub room : 0 < length s.parts → 2 * (L.cuts - s.cuts) + length s.parts ≤ d

room_cut : (L : Limits) (d c n : ℕ) → c < L.cuts → (0 < suc n → 2 * (L.cuts - c) + suc n ≤ suc d) → 2 * (L.cuts - suc c) + suc (suc n) ≤ d
room_cut L d c n h f = omega (arith, f (omega arith))

room_out : (L : Limits) (d c n : ℕ) → (0 < suc n → 2 * (L.cuts - c) + suc n ≤ suc d) → 2 * (L.cuts - c) + n ≤ d
room_out L d c n f = omega (arith, f (omega arith))

room : (L : Limits) (p : Part) → Room L 0 (split_bad_vertices L p)
room L p =
    keep-counted L (Room L)
    (λ o c t l d r. record { most = r.most; room = λ g. absurd (omega (arith, g)) })
    (λ d p ps o c t l g r. record { most = r.most; room = λ h. room_out L d c (length ps) r.room })
    (λ d p ps o c t l k h r. record { most = h.left; room = λ g. room_cut L d c (length ps) h.left r.room })
    p (record { most = omega arith; room = λ g. omega arith })

none_left : (m : ℕ) (l : List Part) → (0 < length l → m + length l ≤ 0) → l ≡ []
none_left m [] f = refl
none_left m (x ∷ l) f = absurd (omega (arith, f (omega arith)))

pub emptied : (L : Limits) (p : Part) → (split_bad_vertices L p).parts ≡ []
emptied L p = none_left (2 * (L.cuts - (split_bad_vertices L p).cuts)) (split_bad_vertices L p).parts (room L p).room
