-- The practice call by its own test: where 16 is due it is refused (`practice-refused`), and else it is the divider call with the practice set
-- (`practice-divided`), each with the promise of the entry. As a call of a list of calls it leaves what call/specs/LentCalls says (`as_called`).
use Prim.Native.Nat.{ℕ, ◌-◌, ◌/◌}
use native.Mathlib.Omega.{arith}
use mathlib.Core.Path.{◌≡◌, refl, sym, ap, ◌∙◌, subst}
use mathlib.Core.Bool.{Bool, true, false, not, cond, ◌&&◌, ◌||◌}
use mathlib.Core.List.{List}
use lib.ListN.{length}
use lib.Dec.{T, eqb}
use lib.Ieee.{Float}
use Rattle.laws.proofs.Table.{length_tab}
use Rattle.limits.specs.declared.Limits.{Limits}
use Rattle.table.specs.declared.Row.{Row}
use Rattle.table.specs.Answers.{refused_row}
use Rattle.table.specs.Refusals.{first_of}
use Rattle.limits.specs.Sets.{limits_out, practice_set}
use Rattle.call.specs.Call.{Call, lists_of, counts_out, over24, units_out, lists_out, room_out_of}
use Rattle.call.specs.Divide.{CallAnswer, refused, core, start_of}
use Rattle.call.specs.Demand.{AcceptedCall}
use Rattle.call.specs.Lent.{point_in, Lent, call_of, odd, divide_lent, divide_practice, practice_tests}
use Rattle.call.specs.LentCalls.{Given, practice, Pool, lend, answer_of, leaves}
use Rattle.call.proofs.Course.{turned-away}
use Rattle.divider.specs.Promise as Examination
use Rattle.divider.specs.Promise.{Leaves}
use Rattle.divider.proofs.Leaving.{refused-leaves}
use Rattle.paper.specs.Practice.{PracticePromise}

-- ---- 1 by either of its tests, then 16
due : (o b q : Bool) (n : ℕ) → not (o || b) && q ≡ true → cond o 1 (cond b 1 (cond q 16 n)) ≡ 16
due true b q n e = absurd (subst (λ (b : Bool). T (not b)) e tt)
due false true q n e = absurd (subst (λ (b : Bool). T (not b)) e tt)
due false false true n e = refl
due false false false n e = absurd (subst (λ (b : Bool). T (not b)) e tt)

not_due : (o b q : Bool) (n : ℕ) → not (o || b) && q ≡ false → cond o 1 (cond b 1 (cond q 16 n)) ≡ cond o 1 (cond b 1 n)
not_due true b q n e = refl
not_due false true q n e = refl
not_due false false false n e = refl
not_due false false true n e = absurd (subst T e tt)

module _ (l : Lent) where
  abbrev c : Call
  c = call_of l

  -- 16, where 1 does not come first
  abbrev pub over_paper : Bool
  over_paper =
      not (odd l.ring || odd l.chain || counts_out (length l.ring / 2) (length l.chain / 2))
      && over24 (length l.ring / 2) (length l.chain / 2)

  -- of the points
  of-points : (t : Bool) → over_paper ≡ t
      → not (odd l.ring || odd l.chain || counts_out (length c.ring) (length c.chain)) && over24 (length c.ring) (length c.chain) ≡ t
  of-points t e = rw (length_tab (point_in l.ring) (length l.ring / 2), length_tab (point_in l.chain) (length l.chain / 2)) e

  -- the tests that come after
  abbrev later : ℕ
  later =
      cond (units_out c.ring c.chain c.size) 2
      (cond (limits_out practice_set) 15
      (cond (lists_out (lists_of c)) 3
      (cond (room_out_of practice_set (length c.ring) (length c.nodes - c.node_count_of) (length c.cells - c.cell_count_of)) 4 0)))

  abbrev divided : CallAnswer
  divided = core practice_set (length c.ring) (start_of c) (lists_of c)

  is_16 : over_paper ≡ true → first_of (practice_tests l) ≡ 16
  is_16 e =
      due (odd l.ring || odd l.chain) (counts_out (length c.ring) (length c.chain)) (over24 (length c.ring) (length c.chain)) later
      (of-points true e)

  away : over_paper ≡ true → divide_practice l ≡ refused (lists_of c) 16
  unfolding divide_practice
  away e = turned-away (lists_of c) (practice_tests l) divided (λ f. absurd (omega (arith, f, is_16 e))) ∙ ap (refused (lists_of c)) (is_16 e)

  pub practice-refused : over_paper ≡ true → PracticePromise l (refused_row 16 l.node_count_of l.cell_count_of) l.nodes l.rims l.cells
  practice-refused e =
      record {
        leaves =
            subst (λ (a : CallAnswer). Leaves a (refused_row 16 l.node_count_of l.cell_count_of) l.nodes l.nodes l.rims l.cells l.cells)
            (sym (away e))
            (refused-leaves l.nodes l.node_count_of l.rims l.cells l.cell_count_of 16);
        accepted = λ z. absurd (omega (arith, z));
      }

  on : over_paper ≡ false → divide_practice l ≡ divide_lent practice_set l
  unfolding divide_practice divide_lent
  on e =
      ap (λ (n : ℕ). cond (eqb n 0) divided (refused (lists_of c) n))
      (not_due (odd l.ring || odd l.chain) (counts_out (length c.ring) (length c.chain)) (over24 (length c.ring) (length c.chain)) later
      (of-points false e))

  -- the set by another name
  pub practice-divided : over_paper ≡ false → (L : Limits) → L ≡ practice_set → (v : Row) (m : List Float) (t p : List ℕ) → Examination.Promise L l v m t p
      → PracticePromise l v m t p
  practice-divided e L d v m t p h =
      let g = subst (λ (L : Limits). Examination.Promise L l v m t p) d h in
      record {
        leaves = subst (λ (a : CallAnswer). Leaves a v l.nodes m t l.cells p) (sym (on e)) g.leaves;
        accepted = λ z. subst (AcceptedCall practice_set (start_of c) (lists_of c)) (sym (on e)) (g.accepted z);
      }

-- ---- the node list and the rim marks that it leaves are those of a list of calls
pub as_called : (s : Pool) (g : Given ℕ) (v : Row) (m : List Float) (t p : List ℕ) → PracticePromise (lend s g) v m t p
    → ◌≡◌ {A = Pool} (record { doubles = m; count = v.nodes; rims = t }) (leaves s (answer_of s (practice g)))
as_called s g v m t p h = λ j. record { doubles = h.leaves.nodes j; count = (h.leaves.values j).nodes; rims = h.leaves.rims j }
