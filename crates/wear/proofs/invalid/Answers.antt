use Rattle.std.proofs.Common.{ℕ, take, sym, ap, ◌∙◌, arith}
use Rattle.std.specs.Prelude.{nat_lt}
use Rattle.std.specs.List.{list_any}
use borrow.Author.Tests.{ltb-false}
use Rattle.wear.proofs.Laws.{any-over}
use Rattle.wear.proofs.Tests.{in_place}
use Rattle.wear.proofs.invalid.Goals as goal
use Rattle.wear.proofs.invalid.Goals.{then-r-gt32, else-r-gt32}

pub returns-else-misplaced : goal.returns-else-misplaced
returns-else-misplaced c =
    let r = c.args.r.now in
    let f = c.if-misplaced.false in
    elim c.if-r-gt32.branch [
      | then-r-gt32 w ↦ absurd (omega (arith, ltb-false _ _ (sym w.value-is ∙ f)))
      | else-r-gt32 w ↦
          in_place r w.if-r-gt32.false (sym w.misplaced.ensures ∙ sym w.value-is ∙ f) c.any_over.result
          (c.any_over.ensures ∙ ap (λ (n : ℕ). list_any (nat_lt 32) (take n r.cuts)) c.from.ensures ∙ any-over r.cuts r.rings (omega arith))
    ]
