-- The numbers of cells, four and four.
use Prim.Native.Nat.{ℕ, ◌+◌, ◌*◌, ◌≤◌, ◌<◌}
use native.Mathlib.Omega.{arith}
use mathlib.Core.Path.{◌≡◌, ap, ◌∙◌}
use mathlib.Core.List.{List, []}
use lib.ListN.{get_or, take}
use lib.Seq.{get_or-take}
use Rattle.std.specs.Simd.{first_chunks}
use Rattle.laws.proofs.Chunks.{chunk_at}
use Rattle.call.specs.Lent.{cell_in}

-- four i has the numbers of cell i
four_at : (l : List ℕ) (n i : ℕ) → i < n → cell_in (get_or (first_chunks 4 n l) i []) 0 ≡ cell_in l i
four_at l n i h =
    let z : i * 4 + 0 ≡ i * 4 = omega arith in
    λ j. record {
      a = (chunk_at 4 n i 0 l 0 h (omega arith) ∙ ap (λ (k : ℕ). get_or l k 0) z) j;
      b = chunk_at 4 n i 1 l 0 h (omega arith) j;
      c = chunk_at 4 n i 2 l 0 h (omega arith) j;
      d = chunk_at 4 n i 3 l 0 h (omega arith) j;
    }

-- so it is with the first n fours
pub four_among : (l : List ℕ) (m n i : ℕ) (fs : List (List ℕ)) → fs ≡ first_chunks 4 m l → n ≤ m → i < n
    → cell_in (get_or (take n fs) i []) 0 ≡ cell_in l i
four_among l m n i fs e o k = ap (λ f. cell_in f 0) (get_or-take n fs i [] k ∙ ap (λ fs. get_or fs i []) e) ∙ four_at l m i (omega (arith, o, k))
