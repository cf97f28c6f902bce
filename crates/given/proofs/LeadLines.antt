-- The outline as arrays hold it: one that has passed refusal 14 fits them, and its segments are those that are sought.
use Prim.Native.Nat.{ℕ, ◌*◌, ◌-◌, ◌/◌, ◌≤◌}
use native.Mathlib.Omega.{arith}
use mathlib.Core.Path.{◌≡◌, sym, ap, ◌∙◌, subst}
use mathlib.Core.Bool.{true, false}
use mathlib.Core.List.{List, ◌++◌}
use lib.IntN.{ℤ}
use lib.ListN.{length, take, replicate}
use lib.Dec.{T}
use Rattle.laws.proofs.Table.{length_tab}
use Rattle.vector.specs.Grid.{origin}
use Rattle.vector.specs.Size.{AllOnSheet}
use Rattle.outline.specs.Outline.{segments, total}
use Rattle.outline.proofs.Scan.{segments-front}
use Rattle.call.specs.Lent.{point_in, points_in}
use Rattle.call.specs.Marked.{called_for, outline_out}
use Rattle.call.proofs.Marked.{Outlined, outline_in}
use Rattle.given.specs.declared.lead.LeadLine.{LeadLine}
use Rattle.given.specs.Steps.{OutlineRead}
use Rattle.given_tests.proofs.Scans.{loops-whole}

pub none-sought : (kinds : List ℕ) (outline : List ℤ) (loops : List ℕ) (o : LeadLine) → called_for kinds ≡ false → OutlineRead kinds outline loops o
none-sought kinds outline loops o e = record { is = λ h. absurd (subst T (sym h ∙ e) tt) }

module _ (kinds : List ℕ) (outline : List ℤ) (loops : List ℕ) (e : outline_out kinds outline loops ≡ false) (c : called_for kinds ≡ true) where
  abbrev n : ℕ
  n = length outline / 2

  passed : Outlined outline loops
  passed = outline_in kinds outline loops e c

  pub outline-asks : (n ≤ 60) × (n * 2 ≤ length outline) × AllOnSheet (points_in outline n)
  outline-asks = (passed.few, omega arith, passed.sheet)

  pub few-loops : length loops ≤ 20
  few-loops = omega (arith, (loops-whole loops n passed.whole).1, passed.few)

  pub points-fit : (ls : List ℕ) → take (length loops) ls ≡ loops → total (take (length loops) ls) ≤ 60
  points-fit ls l =
      let s = (loops-whole loops n passed.whole).0 in
      let t : total (take (length loops) ls) ≡ total loops = ap total l in
      omega (arith, s, t, passed.few)

  pub held : (o : LeadLine) → o.points ≡ points_in outline n ++ replicate (60 - n) origin → take o.count o.loops ≡ loops → OutlineRead kinds outline loops o
  held o p l =
      let s = (loops-whole loops n passed.whole).0 in
      record {
        is =
            λ h. (λ i. segments (p i) (l i))
            ∙ segments-front (points_in outline n) (replicate (60 - n) origin) loops (omega (arith, s, length_tab (point_in outline) n));
      }
