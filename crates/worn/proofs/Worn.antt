-- The record of wear follows every list of rings (`rings_follow`): each call reports the total, the highest and the number of the last 32 that were accepted.
-- An accepted call of any entry, with any set of limits, has at most 32 cuts, by demand 3 and by 15 (`at-most_32`), so that its answer is never 20.
use Prim.Native.Nat.{ℕ, ◌≤◌}
use native.Mathlib.Omega.{arith}
use mathlib.Core.Path.{◌≡◌, sym, ap, ◌∙◌, subst}
use mathlib.Core.Bool.{Bool}
use mathlib.Core.List.{List, [], ◌∷◌, ◌++◌, map-append}
use lib.ListN.{length}
use lib.Dec.{T}
use Rattle.laws.specs.All.{All}
use Rattle.limits.specs.declared.Limits.{Limits}
use Rattle.quads.specs.declared.Cell.{Cell}
use Rattle.table.specs.Refusals.{Refusal, first_of, Passes, numbered}
use Rattle.table.proofs.Refusals.{not_0}
use Rattle.call.specs.Call.{Lists, lists_of, no_test}
use Rattle.call.specs.Divide.{CallAnswer, refused_or, core, start_of}
use Rattle.call.specs.Lent.{LentOf, call_by, tests_for, divide_for, all_cells, divide_lent, divide_records}
use Rattle.call.specs.Marked.{LentMarked, all_points, marked_lists, marked_start, marked_tests, divide_marked}
use Rattle.call.specs.LentCalls as LentCalls
use Rattle.call.specs.LentCalls.{Pool, LentCall, numbers, records, marked, practice, lend, lend_marked}
use Rattle.call.proofs.Tests.{passed_by}
use Rattle.call.proofs.Course.{by_tests, refused-code}
use Rattle.call.proofs.Demand.{demand3_lent, demand3_records, demand3_practice}
use Rattle.call.proofs.Marked.{marked_passed, demand3_marked}
use Rattle.wear.specs.Answers as Answers
use Rattle.wear.specs.Answers.{FewCuts, last, zeros, values_for}
use Rattle.wear.proofs.Rings.{follows}
use Rattle.worn.specs.Worn.{RingCall, answer_of, answers_of, RingsFollow}

-- an answer with 0 passed every test, 15 among them
taken : (L : Limits) (x : Lists) (rs : List Refusal) (a : CallAnswer) → T (numbered rs) → (Passes rs → L.cuts ≤ 32) → (refused_or x rs a).row.code ≡ 0
    → L.cuts ≤ 32
taken L x rs a n h =
    by_tests x rs a (λ (b : CallAnswer). b.row.code ≡ 0 → L.cuts ≤ 32) n
    (λ t z. absurd (not_0 (first_of rs) t (sym (refused-code x (first_of rs)) ∙ z)))
    (λ p z. h p)

taken_by : {A : Type 0} (own : ℕ → ℕ → Bool) (read : List A → List Cell) (L : Limits) (l : LentOf A) → (divide_for own read L l).row.code ≡ 0 → L.cuts ≤ 32
taken_by own read L l z =
    let c = call_by read l in
    taken L (lists_of c) (tests_for own read L l) (core L (length c.ring) (start_of c) (lists_of c)) tt (λ h. (passed_by own L c h.1).cuts) z

taken-marked : (L : Limits) (l : LentMarked) → (divide_marked L l).row.code ≡ 0 → L.cuts ≤ 32
unfolding divide_marked
taken-marked L l z =
    taken L (marked_lists l) (marked_tests L l) (core L (length (all_points l.ring)) (marked_start l) (marked_lists l)) tt (λ h. (marked_passed L l h).cuts) z

-- a case an entry
pub at-most_32 : (s : Pool) (g : LentCall) → (LentCalls.answer_of s g).row.code ≡ 0 → (LentCalls.answer_of s g).row.cuts ≤ 32
unfolding divide_lent divide_records
at-most_32 s (numbers g) z = omega (arith, (demand3_lent g.limits (lend s g) z).most, taken_by no_test all_cells g.limits (lend s g) z)
at-most_32 s (records g) z = omega (arith, (demand3_records g.limits (lend s g) z).most, taken_by no_test (λ cs. cs) g.limits (lend s g) z)
at-most_32 s (marked g) z = omega (arith, (demand3_marked g.limits (lend_marked s g) z).most, taken-marked g.limits (lend_marked s g) z)
at-most_32 s (practice g) z = omega (arith, (demand3_practice (lend s g) z).most)

-- ---- a list of rings
all-few : (rs : List RingCall) → All FewCuts (answers_of rs)
all-few [] = tt
all-few (r ∷ rs) = (at-most_32 r.pool r.call, all-few rs)

pub rings_follow : (rs : List RingCall) (r : RingCall) → RingsFollow rs r
rings_follow rs r =
    let e = map-append answer_of rs (r ∷ []) in
    follows (answers_of rs) (answer_of r) (subst (All FewCuts) e (all-few (rs ++ (r ∷ []))))
    ∙ ap (λ (gs : List Answers.RingAnswer). values_for (last 32 (zeros gs))) (sym e)
