-- Whether one of the numbers so far is not on the sheet, as a pass by blocks of 16 finds it out.
use Prim.Native.Nat.{ℕ, ◌+◌, ◌*◌}
use native.Mathlib.Omega.{arith}
use mathlib.Core.Path.{◌≡◌, sym, ap, ◌∙◌}
use mathlib.Core.Bool.{Bool, true, false, not, ◌||◌}
use mathlib.Core.List.{List, ◌++◌}
use lib.ListN.{length, take, drop}
use lib.Seq.{take-add}
use lib.Ieee.{Float, nan}
use Rattle.std.specs.List.{fold, list_any}
use Rattle.std.proofs.lemmas.List.{take-append-drop}
use Rattle.std.proofs.lemmas.List.Folds.{list_any-append}
use Rattle.laws.proofs.Search.{any_listed}
use Rattle.nodes.specs.Flat.{on_sheet, all_on_sheet}
use Rattle.nodes.proofs.Ranged.{listed, any_fold}

abbrev pub off_sheet : Float → Bool
off_sheet x = not (on_sheet x)

-- one list after another
pub joined : (l m : List Float) (b c : Bool) → b ≡ list_any off_sheet l → c ≡ fold (λ b x. b || off_sheet x) false m → (b || c) ≡ list_any off_sheet (l ++ m)
joined l m b c e f = (λ j. e j || (f ∙ listed off_sheet m false) j) ∙ sym (list_any-append off_sheet l m)

-- a block after those before it
pub block : (l : List Float) (i : ℕ) (b c : Bool)
    → b ≡ list_any off_sheet (take (i * 16) l) → c ≡ fold (λ b x. b || off_sheet x) false (take 16 (drop (i * 16) l))
    → (b || c) ≡ list_any off_sheet (take ((i + 1) * 16) l)
block l i b c e f =
    let z : i * 16 + 16 ≡ (i + 1) * 16 = omega arith in
    joined (take (i * 16) l) (take 16 (drop (i * 16) l)) b c e f ∙ ap (list_any off_sheet) (sym (take-add (i * 16) 16 l) ∙ ap (λ (k : ℕ). take k l) z)

-- and the rest: whether all are on the sheet
pub whole : (l : List Float) (n : ℕ) (b c : Bool) → b ≡ list_any off_sheet (take n l) → c ≡ fold (λ b x. b || off_sheet x) false (drop n l)
    → not (b || c) ≡ all_on_sheet l (length l)
unfolding all_on_sheet
whole l n b c e f =
    ap not (joined (take n l) (drop n l) b c e f ∙ ap (list_any off_sheet) (take-append-drop n l)
    ∙ sym (listed off_sheet l false) ∙ any_fold off_sheet nan l false)

-- one among the first n that is not: not all are
pub one_out : (l : List Float) (n : ℕ) → list_any off_sheet (take n l) ≡ true → false ≡ all_on_sheet l (length l)
unfolding all_on_sheet
one_out l n e =
    sym (ap not (sym (any_listed off_sheet nan l) ∙ ap (list_any off_sheet) (sym (take-append-drop n l)) ∙ list_any-append off_sheet (take n l) (drop n l)
    ∙ ap (λ (b : Bool). b || list_any off_sheet (drop n l)) e))
