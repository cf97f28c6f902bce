-- The four numbers of a chunk are those of the cell that its line shows.
use Prim.Native.Nat.{ℕ, ◌+◌, ◌*◌, ◌/◌, ◌<◌}
use mathlib.Core.Path.{◌≡◌, ap, ◌∙◌}
use mathlib.Core.List.{List, [], ◌∷◌}
use native.Mathlib.Omega.{arith}
use lib.ListN.{length, get_or}
use Rattle.std.specs.Simd.{first_chunks}
use Rattle.text.specs.Text.{bytes, filled}
use Rattle.laws.proofs.Chunks.{chunk_at}
use Rattle.report.specs.Report as Report

module _ (cs : List ℕ) (qs : List (List ℕ)) (e : qs ≡ first_chunks 4 (length cs / 4) cs) (i : ℕ) (h : i < length cs / 4) where
  number : (j a : ℕ) → j < 4 → a ≡ get_or (get_or qs i []) j 0 → a ≡ get_or cs (i * 4 + j) 0
  number j a l g = g ∙ ap (λ (x : List (List ℕ)). get_or (get_or x i []) j 0) e ∙ chunk_at 4 (length cs / 4) i j cs 0 h l

  pub line-of : (a b c d : ℕ) → a ≡ get_or (get_or qs i []) 0 0 → b ≡ get_or (get_or qs i []) 1 0
      → c ≡ get_or (get_or qs i []) 2 0 → d ≡ get_or (get_or qs i []) 3 0
      → filled (bytes "quad # # # #\n") (a ∷ b ∷ c ∷ d ∷ []) ≡ Report.quad_line cs i
  unfolding Report.quad_line
  line-of a b c d p q r s =
      let a' : a ≡ get_or cs (i * 4) 0 = number 0 a (omega arith) p ∙ ap (λ (m : ℕ). get_or cs m 0) (omega arith) in
      let b' = number 1 b (omega arith) q in
      let c' = number 2 c (omega arith) r in
      let d' = number 3 d (omega arith) s in
      (λ j. filled (bytes "quad # # # #\n") (a' j ∷ b' j ∷ c' j ∷ d' j ∷ []))
