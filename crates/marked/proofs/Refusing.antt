-- Both parts of the tests of the call, one after the other, as its first refusal (`told`); and what has passed the first part.
use Prim.Native.Nat.{ℕ, ◌/◌, ◌≤◌}
use mathlib.Core.Path.{◌≡◌, refl}
use mathlib.Core.Bool.{Bool, true, false, cond, ◌||◌}
use mathlib.Core.List.{List, [], ◌∷◌}
use lib.IntN.{ℤ}
use lib.Dec.{eqb}
use lib.ListN.{length}
use Rattle.laws.proofs.Booleans.{neither}
use Rattle.laws.proofs.Table.{length_tab}
use Rattle.vector.specs.Size.{AllOnSheet}
use Rattle.limits.specs.declared.Limits.{Limits}
use Rattle.limits.specs.Sets.{limits_out}
use Rattle.limits.proofs.Taken.{most-cuts}
use Rattle.table.specs.Refusals.{◌when◌, first_of}
use Rattle.table.proofs.Refusals.{all_pass}
use Rattle.call.specs.Call.{counts_out, units_out}
use Rattle.call.specs.Lent.{point_in, odd}
use Rattle.call.specs.Marked.{Marking, all_points, marks_out, outline_out, LentMarked, marked_lists, marked_tests}
use Rattle.call.proofs.Tests.{counts_in, points_in_lem}
use Rattle.entry.specs.Refusal.{lists_refusal}
use Rattle.marked.specs.Steps.{early_refusal}

-- 1 of a ring with no chain
pub no_chain : (o b : Bool) → (o || false || b) ≡ (o || b)
no_chain true b = refl
no_chain false b = refl

by_parts : (a b c d f : Bool) (m : ℕ)
    → cond a 1 (cond b 2 (cond c 13 (cond d 14 (cond f 15 m))))
    ≡ (let e = cond a 1 (cond b 2 (cond c 13 (cond d 14 (cond f 15 0)))) in cond (eqb e 0) m e)
by_parts true b c d f m = refl
by_parts false true c d f m = refl
by_parts false false true d f m = refl
by_parts false false false true f m = refl
by_parts false false false false true m = refl
by_parts false false false false false m = refl

-- a ring and marks that passed
pub record Tested (L : Limits) (ring : List ℤ) (g : Marking) : Type 0 where
  pub cuts : L.cuts ≤ 32
  pub from : 3 ≤ length ring / 2
  pub few : length ring / 2 ≤ 60
  pub sheet : AllOnSheet (all_points ring)
  pub marks : marks_out g.kinds g.snaps (length ring / 2) ≡ false
  pub outline : outline_out g.kinds g.outline g.loops ≡ false

pub tested : (L : Limits) (ring : List ℤ) (g : Marking) (size : ℕ) → early_refusal L ring g size ≡ 0 → Tested L ring g
unfolding early_refusal
tested L ring g size z =
    let r = length ring / 2 in
    let p =
    all_pass
    (1 when (odd ring || counts_out r 0) ∷ 2 when units_out (all_points ring) [] size ∷ 13 when marks_out g.kinds g.snaps r
    ∷ 14 when outline_out g.kinds g.outline g.loops ∷ 15 when limits_out L ∷ []) tt z in
    let n = counts_in r 0 (neither (odd ring) (counts_out r 0) p.0).1 in
    record {
      cuts = most-cuts L p.1.1.1.1.0;
      from = n.0;
      few = n.1;
      sheet = (points_in_lem (all_points ring) [] size p.1.0).0;
      marks = p.1.1.0;
      outline = p.1.1.1.0;
    }

module _ (L : Limits) (l : LentMarked) where
  abbrev r : ℕ
  r = length l.ring / 2

  abbrev e : ℕ
  e = early_refusal L l.ring l.marking l.size

  abbrev lists : ℕ
  lists = lists_refusal L r (marked_lists l)

  pub told : first_of (marked_tests L l) ≡ cond (eqb e 0) lists e
  unfolding early_refusal lists_refusal
  told =
      rw (length_tab (point_in l.ring) r)
      (by_parts (odd l.ring || counts_out r 0) (units_out (all_points l.ring) [] l.size) (marks_out l.marking.kinds l.marking.snaps r)
      (outline_out l.marking.kinds l.marking.outline l.marking.loops) (limits_out L) lists)
