-- The call with given marks, of whose request the core and the tests are the definition's; and the promise from what was left. As a call of a list of calls it
-- leaves what call's specs/LentCalls says (`as_called`).
use Prim.Native.Nat.{ℕ, ◌/◌}
use mathlib.Core.Path.{◌≡◌, sym, ap, ◌∙◌, subst}
use mathlib.Core.Bool.{cond}
use mathlib.Core.List.{List}
use lib.Dec.{eqb}
use lib.ListN.{length}
use lib.Ieee.{Float}
use Rattle.laws.proofs.Table.{length_tab}
use Rattle.limits.specs.declared.Limits.{Limits}
use Rattle.table.specs.declared.Row.{Row}
use Rattle.table.specs.Refusals.{first_of}
use Rattle.call.specs.Divide.{core, refused}
use Rattle.call.specs.Lent.{point_in}
use Rattle.call.specs.Marked.{LentMarked, marked_lists, marked_start, marked_tests, divide_marked}
use Rattle.call.specs.LentCalls.{GivenMarked, marked, Pool, lend_marked, answer_of, leaves}
use Rattle.call.proofs.Marked.{demand3_marked}
use Rattle.divider.specs.Promise.{Leaves}
use Rattle.divider.specs.Steps.{divide_by}
use Rattle.marked.specs.Promise.{MarkedPromise}
use Rattle.marked.specs.Steps.{early_refusal}
use Rattle.marked.proofs.Refusing.{told}

module _ (L : Limits) (l : LentMarked) (v : Row) (m : List Float) (t p : List ℕ) where
  promised : Leaves (divide_marked L l) v l.nodes m t l.cells p → MarkedPromise L l v m t p
  promised h = record { leaves = h; accepted = λ z. demand3_marked L l (sym (ap (λ (v : Row). v.code) h.values) ∙ z) }

  pub by_marks : Leaves (divide_by L (early_refusal L l.ring l.marking l.size) (length l.ring / 2) (marked_start l) (marked_lists l) (marked_lists l))
      v l.nodes m t l.cells p
      → MarkedPromise L l v m t p
  unfolding divide_marked
  by_marks h =
      let x = marked_lists l in
      let rs = marked_tests L l in
      promised
      (subst (λ (r : ℕ). Leaves (cond (eqb (first_of rs) 0) (core L r (marked_start l) x) (refused x (first_of rs))) v l.nodes m t l.cells p)
      (sym (length_tab (point_in l.ring) (length l.ring / 2)))
      (subst (λ (n : ℕ). Leaves (cond (eqb n 0) (core L (length l.ring / 2) (marked_start l) x) (refused x n)) v l.nodes m t l.cells p) (sym (told L l)) h))

-- ---- the node list and the rim marks that it leaves are those of a list of calls
pub as_called : (s : Pool) (g : GivenMarked) (v : Row) (m : List Float) (t p : List ℕ) → MarkedPromise g.limits (lend_marked s g) v m t p
    → ◌≡◌ {A = Pool} (record { doubles = m; count = v.nodes; rims = t }) (leaves s (answer_of s (marked g)))
as_called s g v m t p h = λ j. record { doubles = h.leaves.nodes j; count = (h.leaves.values j).nodes; rims = h.leaves.rims j }
