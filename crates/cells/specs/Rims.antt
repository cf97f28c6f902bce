-- 02, Card 12: "Each listed node carries a rim mark, in a lent list beside the nodes", 1 set and 0 clear. "Meeting a listed node again may set the mark and
-- never clears it." Definitions only.
use Rattle.std.specs.Prelude.{ℕ, ◌≡◌, Bool, false, ◌&&◌, ◌||◌, not, cond, length, get_or, T, eqb, ltb}
use mathlib.Core.List.{List, [], ◌∷◌, Memᴰ}
use Rattle.laws.specs.Table.{tab}
use Rattle.cells.specs.Asks.{Ask, on_rim_of}

-- one of qs asked for node k as a corner or as the middle of a ring edge
unfoldable pub on_rim_at : List Ask → ℕ → Bool
on_rim_at [] k = false
on_rim_at (q ∷ qs) k = (on_rim_of q.role && eqb q.node k) || on_rim_at qs k

-- the mark of place k, rs being the marks before: u nodes were listed then, v are listed now, and qs were asked for in between. Set if one of qs asked for
-- the node on the rim; else clear if the node is new, as it was if the node is an old one, and as found if the place holds none
unfoldable pub rim_at : ℕ → ℕ → List Ask → List ℕ → ℕ → ℕ
rim_at u v qs rs k = cond (on_rim_at qs k) 1 (cond (ltb k u || not (ltb k v)) (get_or rs k 0) 0)

unfoldable pub rims_by : ℕ → ℕ → List Ask → List ℕ → List ℕ
rims_by u v qs rs = tab (rim_at u v qs rs) (length rs)

-- ---- the same as a claim: one of qs asked for node k; one of qs asked for it on the rim
pub record AskedFor (qs : List Ask) (k : ℕ) : Type 0 where
  pub ask : Ask
  pub one : Memᴰ ask qs
  pub for : ask.node ≡ k

pub record AskedOnRim (qs : List Ask) (k : ℕ) : Type 0 where
  pub ask : Ask
  pub one : Memᴰ ask qs
  pub on_rim : T (on_rim_of ask.role)
  pub for : ask.node ≡ k

-- "set (1) exactly if the node was ever a corner or the middle of a ring edge, clear (0) if only a centre or the middle of a cut": the mark of node k
pub data RimMark (qs : List Ask) (k : ℕ) : ℕ → Type 0 where
  rim : AskedOnRim qs k → RimMark qs k 1
  inside : ¬ AskedOnRim qs k → RimMark qs k 0
