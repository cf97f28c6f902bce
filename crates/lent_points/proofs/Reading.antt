-- The scan of the points place by place, and the points as an array holds them.
use Prim.Native.Nat.{ℕ, ◌*◌, ◌≤◌}
use mathlib.Core.Path.{◌≡◌, sym, ap, ◌∙◌}
use mathlib.Core.Bool.{Bool}
use mathlib.Core.List.{List, []}
use lib.IntN.{ℤ, pos}
use lib.ListN.{length, get_or}
use Rattle.laws.specs.Bounded.{any}
pub use Rattle.laws.proofs.Lists.{padded_at}
use Rattle.laws.proofs.Chunks.{pair_at}
use Rattle.laws.proofs.Search.{any_ext, any_listed}
use Rattle.std.specs.List.{list_any}
use Rattle.std.specs.Simd.{first_chunks}
use Rattle.laws.proofs.Table.{length_tab, get_d_tab}
use Rattle.vector.specs.Grid.{origin}
use Rattle.call.specs.Call.{outside, any_outside}
use Rattle.call.specs.Lent.{point_in, points_in}

-- ---- points
abbrev pub outside_at : List ℤ → ℕ → Bool
outside_at l i = outside (point_in l i)

pub any-outside-is : (l : List ℤ) (n : ℕ) → any_outside (points_in l n) ≡ any (outside_at l) n
unfolding any_outside
any-outside-is l n =
    ap (λ (k : ℕ). any (λ i. outside (get_or (points_in l n) i origin)) k) (length_tab (point_in l) n)
    ∙ any_ext (λ i. outside (get_or (points_in l n) i origin)) (outside_at l) n (λ i h. ap outside (get_d_tab (point_in l) n i origin h))

-- ---- the numbers of a ring, two and two: pair i has the numbers of point i
pub any-outside-pairs : (l : List ℤ) (n : ℕ) (ps : List (List ℤ)) → ps ≡ first_chunks 2 n l → length ps ≡ n → n * 2 ≤ length l
    → list_any (λ p. outside (point_in p 0)) ps ≡ any_outside (points_in l n)
any-outside-pairs l n ps e f h =
    any_listed (λ p. outside (point_in p 0)) [] ps
    ∙ (λ j. any (λ i. outside (point_in (get_or (e j) i []) 0)) (f j))
    ∙ any_ext (λ i. outside (point_in (get_or (first_chunks 2 n l) i []) 0)) (outside_at l) n
    (λ i k. ap (λ (p : List ℤ). outside (point_in p 0)) (pair_at (pos 0) l n i h k))
    ∙ sym (any-outside-is l n)
