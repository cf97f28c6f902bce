-- THEOREM `delivered-set`, `delivered-marked-set`, Card 7: "The set on delivery gives every old answer", as an equation of two exports. `ring_divide_set`,
-- handed the five values of the set on delivery by their bits, and `ring_divide`, each called over the same ring, chain, size, lists and counts, return the
-- same row and leave the same node list, rim marks and cell list; and so do `ring_divide_marked_set` and `ring_divide_marked`. What each of them does is its
-- promise; `one_answer` says that a promise leaves no choice. That the answers are those of before there were sets is call/proofs/Before.
use Prim.Native.Nat.{ℕ}
use mathlib.Core.Path.{◌≡◌, sym, subst, ◌∙◌}
use mathlib.Core.List.{List}
use lib.Ieee.{Float}
use Rattle.limits.specs.declared.Limits.{Limits}
use Rattle.limits.specs.Limits.{delivered}
use Rattle.limits.proofs.Delivered.{code, code_is}
use Rattle.table.specs.declared.Row.{Row}
use Rattle.call.specs.Lent.{Lent}
use Rattle.call.specs.Divide.{CallAnswer}
use Rattle.call.specs.Marked.{LentMarked}
use Rattle.divider.specs.Promise.{Leaves, Promise}
use Rattle.marked.specs.Promise.{MarkedPromise}

-- what a call returns and leaves is settled by its answer
pub one_answer : (a : CallAnswer) (l : List Float) (c : List ℕ) (v w : Row) (m n : List Float) (r t p q : List ℕ) → Leaves a v l m r c p
    → Leaves a w l n t c q → (v ≡ w) × (m ≡ n) × (r ≡ t) × (p ≡ q)
one_answer a l c v w m n r t p q g h = (g.values ∙ sym h.values, g.nodes ∙ sym h.nodes, g.rims ∙ sym h.rims, g.cells ∙ sym h.cells)

-- the set on delivery, as a caller hands it over
abbrev handed : Limits
handed = code

pub delivered-set : (l : Lent) (v w : Row) (m n : List Float) (r t p q : List ℕ) → Promise handed l v m r p → Promise delivered l w n t q
    → (v ≡ w) × (m ≡ n) × (r ≡ t) × (p ≡ q)
delivered-set l v w m n r t p q g h =
    one_answer _ l.nodes l.cells v w m n r t p q (subst (λ (L : Limits). Promise L l v m r p) code_is g).leaves h.leaves

pub delivered-marked-set : (l : LentMarked) (v w : Row) (m n : List Float) (r t p q : List ℕ) → MarkedPromise handed l v m r p
    → MarkedPromise delivered l w n t q → (v ≡ w) × (m ≡ n) × (r ≡ t) × (p ≡ q)
delivered-marked-set l v w m n r t p q g h =
    one_answer _ l.nodes l.cells v w m n r t p q (subst (λ (L : Limits). MarkedPromise L l v m r p) code_is g).leaves h.leaves
