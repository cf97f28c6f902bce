-- An array of corners that is blank from a place on: one corner more, and what the code fills it with.
use Prim.Native.Nat.{ℕ, ◌+◌, ◌-◌, ◌≤◌}
use native.Mathlib.Omega.{arith}
use mathlib.Core.Path.{◌≡◌, sym, ap, subst, ◌∙◌}
use mathlib.Core.List.{List}
use lib.ListN.{set, drop, replicate}
use lib.Seq.{drop-set-lt}
use Rattle.std.proofs.lemmas.Grind.{drop_more_same}
use Rattle.std.proofs.lemmas.List.{drop-replicate}
use Rattle.parts.specs.declared.list.Vertex.{Vertex}
use Rattle.parts.specs.Vertices.{blank}
use Rattle.parts.proofs.Segments.{same_vertex}

-- one corner more
pub blanks-next : (l : List Vertex) (i : ℕ) (x : Vertex) → drop i l ≡ replicate (60 - i) blank → drop (i + 1) (set l i x) ≡ replicate (60 - (i + 1)) blank
blanks-next l i x h =
    drop-set-lt (i + 1) l i x (omega arith) ∙ drop_more_same l (replicate 60 blank) i (h ∙ sym (drop-replicate i 60 blank)) ∙ drop-replicate (i + 1) 60 blank

-- the last corner, put after the loop
pub blanks-last : (l : List Vertex) (i m : ℕ) (x : Vertex) → i ≡ m - 1 → 1 ≤ m → drop i l ≡ replicate (60 - i) blank
    → drop m (set l (m - 1) x) ≡ replicate (60 - m) blank
blanks-last l i m x e o h =
    let u : m - 1 + 1 ≡ m = omega arith in
    let z : drop (m - 1) l ≡ replicate (60 - (m - 1)) blank = rw e at h in
    let w : drop (m - 1 + 1) (set l (m - 1) x) ≡ replicate (60 - (m - 1 + 1)) blank = blanks-next l (m - 1) x z in
    subst (λ (k : ℕ). drop k (set l (m - 1) x) ≡ replicate (60 - k) blank) u w

-- the code's blank corner is the definition's
pub blanks : (n : ℕ) (b : Vertex) → b.at ≡ 0 → b.edge ≡ 60 → replicate n b ≡ replicate n blank
blanks n b p q = ap (replicate n) (same_vertex b blank p q)
