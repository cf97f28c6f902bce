-- Whether all numbers of a list are on the sheet, as a scan finds it out; and the same said of nodes, two numbers each.
use Prim.Native.Nat.{ℕ, zero, suc, ◌+◌, ◌*◌, ◌≤◌}
use native.Mathlib.Omega.{arith}
use mathlib.Core.Path.{◌≡◌, refl, sym, ap, ◌∙◌, subst}
use mathlib.Core.Bool.{Bool, true, false, not, ◌&&◌, ◌||◌}
use mathlib.Core.List.{List, [], ◌∷◌}
use lib.IntN.{pos}
use lib.Dec.{T}
use lib.ListN.{length, get_or, take, drop}
use Rattle.std.specs.List.{fold, list_any}
use Rattle.std.proofs.Math.Bool.{or-false, or_assoc}
use Rattle.std.proofs.Common.{length-take, length-drop, get_or-take, get_or-drop}
use lib.Ieee.{Float, nan, fin, le}
use lib.Ieee.Fits.{and_l, and_r}
use Rattle.laws.specs.Bounded.{any}
use Rattle.laws.specs.Within.{Within}
use Rattle.laws.proofs.Between.{tested_1024}
use Rattle.laws.proofs.Constants.{least_1024, most_1024}
use Rattle.laws.proofs.Search.{any_ext, any_listed}
use Rattle.nodes.specs.Flat.{node_in_of, on_sheet, all_on_sheet}

pub on_sheet-is : (x : Float) → (le (fin true 1 (pos 10)) x && le x (fin false 1 (pos 10))) ≡ on_sheet x
unfolding on_sheet
on_sheet-is x = sym (λ j. le (least_1024 j) x && le x (most_1024 j))

-- a number that is on the sheet is finite and within 1,024 mm
pub on_sheet-within : (x : Float) → T (on_sheet x) → Within 1024 x
on_sheet-within x h =
    let k = subst T (sym (on_sheet-is x)) h in
    tested_1024 x (and_l (le (fin true 1 (pos 10)) x) (le x (fin false 1 (pos 10))) k) (and_r (le (fin true 1 (pos 10)) x) (le x (fin false 1 (pos 10))) k)

-- the number in place i is not
abbrev pub out : List Float → ℕ → Bool
out l i = not (on_sheet (get_or l i nan))

-- ---- passes
-- a flag that gathers the tests of a list's elements, which are those of its places
pub listed : {A : Type 0} (p : A → Bool) (l : List A) (b : Bool) → fold (λ f x. f || p x) b l ≡ (b || list_any p l)
listed p [] b = sym (or-false b)
listed p (x ∷ xs) b = listed p xs (b || p x) ∙ or_assoc b (p x) (list_any p xs)

pub any_fold : {A : Type 0} (p : A → Bool) (d : A) (l : List A) (b : Bool) → fold (λ f x. f || p x) b l ≡ (b || any (λ j. p (get_or l j d)) (length l))
any_fold p d l b = listed p l b ∙ ap (λ (c : Bool). b || c) (any_listed p d l)

-- the tests of the m elements from place i on
pub any_within : {A : Type 0} (p : A → Bool) (d : A) (l : List A) (i m : ℕ) → i + m ≤ length l
    → any (λ j. p (get_or (take m (drop i l)) j d)) (length (take m (drop i l))) ≡ any (λ j. p (get_or l (i + j) d)) m
any_within p d l i m h =
    let e : length (take m (drop i l)) ≡ m = simp (length-take, length-drop) (omega arith) in
    ap (any (λ j. p (get_or (take m (drop i l)) j d))) e
    ∙ any_ext _ _ m (λ j k. ap p (get_or-take m (drop i l) j d k ∙ get_or-drop i l j d))

pub any_before : {A : Type 0} (p : A → Bool) (d : A) (l : List A) (n : ℕ) → n ≤ length l
    → any (λ j. p (get_or (take n l) j d)) (length (take n l)) ≡ any (λ j. p (get_or l j d)) n
any_before p d l n h =
    let e : length (take n l) ≡ n = simp length-take (omega arith) in
    ap (any (λ j. p (get_or (take n l) j d))) e ∙ any_ext _ _ n (λ j k. ap p (get_or-take n l j d k))

-- all of a list's first n numbers, as a list of their own
pub front_on_sheet : (l : List Float) (n : ℕ) → n ≤ length l → all_on_sheet (take n l) (length (take n l)) ≡ all_on_sheet l n
unfolding all_on_sheet
front_on_sheet l n h = ap not (any_before (λ x. not (on_sheet x)) nan l n h)

-- ---- nodes
both : (a b c : Bool) → (c || not (a && b)) ≡ ((c || not a) || not b)
both a b true = refl
both true b false = refl
both false b false = refl

pub pairs : (l : List Float) (n : ℕ) → any (λ i. not (on_sheet (node_in_of l i).x && on_sheet (node_in_of l i).y)) n ≡ any (out l) (n * 2)
unfolding any
pairs l zero = refl
pairs l (suc n) =
    let e : suc n * 2 ≡ suc (suc (n * 2)) = omega arith in
    let f : n * 2 + 1 ≡ suc (n * 2) = omega arith in
    (λ j. pairs l n j || not (on_sheet (node_in_of l n).x && on_sheet (node_in_of l n).y))
    ∙ both (on_sheet (node_in_of l n).x) (on_sheet (node_in_of l n).y) (any (out l) (n * 2))
    ∙ (λ j. (any (out l) (n * 2) || out l (n * 2)) || out l (f j))
    ∙ ap (any (out l)) (sym e)
