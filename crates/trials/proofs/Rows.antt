-- The test of a row of specs/Trials, which computes, and that a row whose test holds holds (`right`); so of a whole table (`all_right`).
use Prim.Native.Nat.{ℕ}
use mathlib.Core.Path.{◌≡◌, refl}
use mathlib.Core.Bool.{Bool, true, false, ◌&&◌, not}
use mathlib.Core.List.{List, [], ◌∷◌}
use lib.ListN.{length, take}
use lib.Dec.{T, eqb, eqb→eq}
use lib.Ieee.Fits.{and_l, and_r}
use Rattle.laws.specs.All.{All}
use Rattle.root.specs.Root.{root_bits}
use Rattle.limits.specs.Limits.{delivered}
use Rattle.corner.specs.Corner.{measure, bad}
use Rattle.nodes.specs.Nodes.{node_at}
use Rattle.limits.specs.declared.Limits.{Limits}
use Rattle.quads.specs.declared.Cell.{Cell}
use Rattle.table.specs.Refusals.{turns_away}
use Rattle.call.specs.Call.{Call, lists_of, entry}
use Rattle.call.specs.Divide.{CallAnswer, refused, start_of, divide}
use Rattle.text.specs.Text.{bytes}
use Rattle.job.specs.Run.{printed}
use Rattle.trials.proofs.Compute.{computing}
use Rattle.trials.specs.Trials.{values, bits, new_cells, Trial, answers, gives, node, refuses, enters, corner, root, leaves, rims, prints, Holds}
use Rattle.call.proofs.Course.{refused_as, divide_course}

-- ---- tests of lists and cells
unfoldable pub same_list : {A : Type 0} → (A → A → Bool) → List A → List A → Bool
same_list f [] [] = true
same_list f [] (y ∷ m) = false
same_list f (x ∷ l) [] = false
same_list f (x ∷ l) (y ∷ m) = f x y && same_list f l m

list_same : {A : Type 0} (f : A → A → Bool) → ((x y : A) → T (f x y) → x ≡ y) → (l m : List A) → T (same_list f l m) → l ≡ m
unfolding same_list
list_same f g [] [] t = refl
list_same f g [] (y ∷ m) t = absurd t
list_same f g (x ∷ l) [] t = absurd t
list_same f g (x ∷ l) (y ∷ m) t =
    let e = g x y (and_l (f x y) (same_list f l m) t) in
    let r = list_same f g l m (and_r (f x y) (same_list f l m) t) in
    λ i. e i ∷ r i

numbers-same : (l m : List ℕ) → T (same_list eqb l m) → l ≡ m
numbers-same = list_same eqb eqb→eq

unfoldable pub same_cell : Cell → Cell → Bool
same_cell p q = (eqb p.a q.a && eqb p.b q.b) && (eqb p.c q.c && eqb p.d q.d)

cell_same : (p q : Cell) → T (same_cell p q) → p ≡ q
unfolding same_cell
cell_same p q t =
    let u = and_l (eqb p.a q.a && eqb p.b q.b) (eqb p.c q.c && eqb p.d q.d) t in
    let v = and_r (eqb p.a q.a && eqb p.b q.b) (eqb p.c q.c && eqb p.d q.d) t in
    let a = eqb→eq p.a q.a (and_l (eqb p.a q.a) (eqb p.b q.b) u) in
    let b = eqb→eq p.b q.b (and_r (eqb p.a q.a) (eqb p.b q.b) u) in
    let c = eqb→eq p.c q.c (and_l (eqb p.c q.c) (eqb p.d q.d) v) in
    let d = eqb→eq p.d q.d (and_r (eqb p.c q.c) (eqb p.d q.d) v) in
    λ i. record { a = a i; b = b i; c = c i; d = d i }

cells_same : (l m : List Cell) → T (same_list same_cell l m) → l ≡ m
cells_same = list_same same_cell cell_same

unfoldable pub same_bool : Bool → Bool → Bool
same_bool true b = b
same_bool false b = not b

bool_same : (a b : Bool) → T (same_bool a b) → a ≡ b
unfolding same_bool
bool_same true true t = refl
bool_same true false t = absurd t
bool_same false true t = absurd t
bool_same false false t = refl

-- ---- a refusal's number decides its answer
refused_by : (L : Limits) (c : Call) (n : ℕ) → (divide L c).row.code ≡ n → T (turns_away n) → divide L c ≡ refused (lists_of c) n
refused_by L c n e t = refused_as L (length c.ring) (start_of c) (lists_of c) (divide L c) n e t (divide_course L c)

-- ---- the test of a row, and what it says
-- of an answer, the three parts of what a row of whole answers expects
unfoldable pub told : Call → CallAnswer → List ℕ → List ℕ → List Cell → Bool
told c a vs bs ks = same_list eqb (values a) vs && (same_list eqb (bits (take a.row.nodes a.nodes)) bs && same_list same_cell (new_cells c a) ks)

-- and of lists as they are left, every place
unfoldable pub left_as : CallAnswer → List ℕ → List ℕ → List ℕ → List Cell → Bool
left_as a vs bs ts ks = same_list eqb (values a) vs && (same_list eqb (bits a.nodes) bs && (same_list eqb a.rims ts && same_list same_cell a.cells ks))

unfoldable pub test : Trial → Bool
test (answers c vs) = same_list eqb (values (divide delivered c)) vs
test (gives c vs bs ks) = told c (divide delivered c) vs bs ks
test (node c i x y) = same_list eqb (bits (node_at (divide delivered c).nodes i ∷ [])) (x ∷ y ∷ [])
test (refuses c n) = eqb (divide delivered c).row.code n && turns_away n
test (enters c) = eqb (entry delivered c) 0
test (corner u v b) = same_bool (bad delivered (measure u v)) b
test (root x y) = eqb (root_bits x) y
test (leaves c vs bs ts ks) = left_as (divide delivered c) vs bs ts ks
test (rims c ts) = same_list eqb (divide delivered c).rims ts
test (prints b t) = same_list eqb (printed b) (bytes t)

right : (r : Trial) → T (test r) → Holds r
unfolding test told left_as
right (answers c vs) t = numbers-same (values (divide delivered c)) vs t
right (gives c vs bs ks) t =
    let a = divide delivered c in
    let u = same_list eqb (values a) vs in
    let v = same_list eqb (bits (take a.row.nodes a.nodes)) bs in
    let w = same_list same_cell (new_cells c a) ks in (
      numbers-same (values a) vs (and_l u (v && w) t),
      numbers-same (bits (take a.row.nodes a.nodes)) bs (and_l v w (and_r u (v && w) t)),
      cells_same (new_cells c a) ks (and_r v w (and_r u (v && w) t)),
    )
right (node c i x y) t = numbers-same (bits (node_at (divide delivered c).nodes i ∷ [])) (x ∷ y ∷ []) t
right (refuses c n) t =
    let b = eqb (divide delivered c).row.code n in
    refused_by delivered c n (eqb→eq (divide delivered c).row.code n (and_l b (turns_away n) t)) (and_r b (turns_away n) t)
right (enters c) t = eqb→eq (entry delivered c) 0 t
right (corner u v b) t = bool_same (bad delivered (measure u v)) b t
right (root x y) t = eqb→eq (root_bits x) y t
right (leaves c vs bs ts ks) t =
    let a = divide delivered c in
    let u = same_list eqb (values a) vs in
    let v = same_list eqb (bits a.nodes) bs in
    let m = same_list eqb a.rims ts in
    let w = same_list same_cell a.cells ks in
    let q = and_r u (v && (m && w)) t in
    let z = and_r v (m && w) q in (
      numbers-same (values a) vs (and_l u (v && (m && w)) t),
      numbers-same (bits a.nodes) bs (and_l v (m && w) q),
      numbers-same a.rims ts (and_l m w z),
      cells_same a.cells ks (and_r m w z),
    )
right (rims c ts) t = numbers-same (divide delivered c).rims ts t
right (prints b t) h = numbers-same (printed b) (bytes t) h

unfoldable pub tests : List Trial → Bool
tests [] = true
tests (r ∷ rs) = test r && tests rs

pub all_right : (rs : List Trial) → T (tests rs) → All Holds rs
unfolding tests
all_right [] t = tt
all_right (r ∷ rs) t = (right r (and_l (test r) (tests rs) t), all_right rs (and_r (test r) (tests rs) t))

-- opens the tests and all that they compute
unfoldable pub testing : Unit {0}
unfolding computing tests test told left_as same_list same_cell same_bool
testing = tt
