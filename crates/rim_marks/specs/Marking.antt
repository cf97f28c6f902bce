-- The rim marks as the code sets them, one a node place. Definitions only.
use Rattle.std.specs.Prelude.{ℕ, zero, suc, ◌+◌, ◌-◌, Bool, true, false, cond, List, get_or, set, replicate}
use Rattle.vector.specs.Rings.{most_points}

-- those from place u on, d of them, cleared
unfoldable pub cleared : List ℕ → ℕ → ℕ → List ℕ
cleared rs u zero = rs
cleared rs u (suc d) = set (cleared rs u d) (u + d) 0

-- those of the nodes ks 0 .. ks (n - 1) set, node ks i where b i
unfoldable pub set_at : List ℕ → List ℕ → List Bool → ℕ → List ℕ
set_at rs ks bs zero = rs
set_at rs ks bs (suc i) =
    let r = set_at rs ks bs i in
    cond (get_or bs i false) (set r (get_or ks i 0) 1) r

-- u nodes were listed, v are: the new ones' marks cleared, those of the corners vs set, and those of the middles ms where bs
abbrev pub rim_marks : List ℕ → ℕ → ℕ → List ℕ → List ℕ → List Bool → ℕ → List ℕ
rim_marks rs u v vs ms bs n = set_at (set_at (cleared rs u (v - u)) vs (replicate most_points true) n) ms bs n
