-- Small laws for one turn of a loop over the corners or the edges of a piece.
use mathlib.Core.Path.{◌≡◌, sym, ap, ◌∙◌}
use mathlib.Core.List.{List}
use Prim.Native.Nat.{ℕ, suc, ◌+◌, ◌%◌, ◌<◌}
use native.Mathlib.Nat.{mod-lt, mod-eq_of_lt}
use native.Mathlib.Numerals.{add-one}
use native.Mathlib.Omega.{arith}
use lib.ListN.{get_or, take}
use lib.Seq.{get_or-take}
use Rattle.marks.specs.declared.EdgeMark.{EdgeMark}
use Rattle.marks.specs.declared.EdgeMark.TheVariants.{Straight}

-- the numbers of the two ends of edge i
pub here : (vs : List ℕ) (n i : ℕ) → i < n → get_or vs i 0 ≡ get_or (take n vs) (i % n) 0
here vs n i h = sym (ap (λ (k : ℕ). get_or (take n vs) k 0) (mod-eq_of_lt h) ∙ get_or-take n vs i 0 h)

pub after : (vs : List ℕ) (n i : ℕ) → i < n → get_or vs ((i + 1) % n) 0 ≡ get_or (take n vs) (suc i % n) 0
after vs n i h = sym (get_or-take n vs ((i + 1) % n) 0 (mod-lt (i + 1) (omega arith))) ∙ ap (λ (k : ℕ). get_or (take n vs) (k % n) 0) (add-one i)

-- its mark
pub mark : (es : List EdgeMark) (n i : ℕ) (e : EdgeMark) → i < n → e ≡ get_or es i Straight → e ≡ get_or (take n es) i Straight
mark es n i e h q = q ∙ sym (get_or-take n es i Straight h)
