use Prim.Native.Nat.{◌+◌}
use native.Mathlib.Omega.{arith}
use mathlib.Core.Path.{◌≡◌, refl, sym, ◌∙◌}
use borrow.Author.Rules.{rules}
use lib.ListN.{length-set}
use Rattle.nodes.specs.Nearby.{inside_at}
use Rattle.survey.proofs.Gathering as gathering
use Rattle.survey.proofs.collect_in.Goals as goal
use Rattle.survey.proofs.collect_in.Invariants.{State}
use Rattle.survey.proofs.collect_in.Goals.{Joined-holds, then-holds+else-k-ge-MOST_NEARBY, else-holds}

pub returns-then-k-ge-MOST_NEARBY : goal.returns-then-k-ge-MOST_NEARBY
unfolding inside_at
returns-then-k-ge-MOST_NEARBY c =
    let q = c.loop-i in
    λ a b p r g.
    gathering.full _ _ a b q.i _ q.k _ _ _ (sym c.holds.ensures ∙ c.if-holds.true) c.loop-i-test.true c.if-k-ge-MOST_NEARBY.true q.invariant.1.0 refl
    (q.invariant.1.3 a b p r g)

-- what the branches lead to
joined : (c : Joined-holds)
    → let q = c.loop-i in
    let a = c.args in
    State a.nodes.now a.w a.from a.numbers.now a.xs.now a.n (q.i + 1) c.if-holds.numbers c.if-holds.xs c.if-holds.k
unfolding inside_at
joined c =
    let a = c.args in
    let q = c.loop-i in
    let P = State a.nodes.now a.w a.from a.numbers.now a.xs.now a.n (q.i + 1) in
    elim c.if-holds.branch [
      | then-holds+else-k-ge-MOST_NEARBY t ↦ gathering.carried P _ _ _ _ _ _ t.numbers-is t.xs-is t.k-is (
        omega (arith, t.if-k-ge-MOST_NEARBY.false),
        length-set q.numbers q.k q.i ∙ q.invariant.1.1,
        length-set q.xs q.k _ ∙ q.invariant.1.2,
        λ u v p r g. gathering.put _ _ u v q.i q.k q.numbers q.xs (sym c.holds.ensures ∙ t.if-holds.true) (q.invariant.1.3 u v p r g)
            t.if-k-ge-MOST_NEARBY.false p r,
      )
      | else-holds t ↦ gathering.carried P _ _ _ _ _ _ t.numbers-is t.xs-is t.k-is (
        q.invariant.1.0,
        q.invariant.1.1,
        q.invariant.1.2,
        λ u v p r g. gathering.past _ _ u v q.i q.k q.numbers q.xs (sym c.holds.ensures ∙ t.if-holds.false) (q.invariant.1.3 u v p r g),
      )
    ]

pub loop-i-preserved : goal.loop-i-preserved
loop-i-preserved c = (search rules, joined c)

pub returns : goal.returns
returns c =
    let e : c.loop-i.i ≡ c.args.to = omega arith in
    rw e at c.loop-i.invariant.1.3
