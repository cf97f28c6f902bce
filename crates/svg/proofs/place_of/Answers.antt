-- `place_of`: the cases of the definition, laws in proofs/Places.
use borrow.Author.Tests.{not-true, not-false}
use mathlib.Core.Path.{sym, ap, ◌∙◌}
use Prim.Native.Nat.{ℕ, ◌+◌, ◌-◌}
use native.Mathlib.Omega.{arith}
use Rattle.svg.proofs.Places.{within, out-place, low-place, high-place}
use Rattle.svg.specs.Place.{origin}
use Rattle.svg.proofs.place_of.Goals as goal
use Rattle.decimals.proofs.Value.{shown-le}

pub returns-then-not-is_on_sheet : goal.returns-then-not-is_on_sheet
returns-then-not-is_on_sheet c = out-place c.args.x (sym c.is_on_sheet.ensures ∙ not-true c.is_on_sheet.result c.if-not-is_on_sheet.true-raw)

pub of-d-requires : goal.of-d-requires
of-d-requires c = within c.args.x (sym c.is_on_sheet.ensures ∙ not-false c.is_on_sheet.result c.if-not-is_on_sheet.false-raw)

pub overflow_sub-result : goal.overflow_sub-result
overflow_sub-result c =
    let h = c.is_on_sheet in
    omega (arith, c.of-d.ensures.1, shown-le c.args.x (within c.args.x (sym h.ensures ∙ not-false h.result c.if-not-is_on_sheet.false-raw)))

pub returns-then-d : goal.returns-then-d
returns-then-d c =
    let h = c.is_on_sheet in
    ap (λ (n : ℕ). origin - n) c.of-d.ensures.1
    ∙ low-place c.args.x (sym h.ensures ∙ not-false h.result c.if-not-is_on_sheet.false-raw) (sym c.of-d.ensures.0 ∙ c.if-d.true)

pub overflow_add-result : goal.overflow_add-result
overflow_add-result c =
    let h = c.is_on_sheet in
    omega (arith, c.of-d.ensures.1, shown-le c.args.x (within c.args.x (sym h.ensures ∙ not-false h.result c.if-not-is_on_sheet.false-raw)))

pub returns-else-d : goal.returns-else-d
returns-else-d c =
    let h = c.is_on_sheet in
    ap (λ (n : ℕ). origin + n) c.of-d.ensures.1
    ∙ high-place c.args.x (sym h.ensures ∙ not-false h.result c.if-not-is_on_sheet.false-raw) (sym c.of-d.ensures.0 ∙ c.if-d.false)
