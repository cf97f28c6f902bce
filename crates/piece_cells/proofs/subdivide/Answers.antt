-- `subdivide`: one attempt, or a second on straight middles after it.
use mathlib.Core.Path.{◌≡◌, refl, sym, ap, ◌∙◌}
use mathlib.Core.Bool.{Bool, true, false, not}
use Prim.Native.Nat.{ℕ}
use Rattle.std.specs.Option.{is_some}
use Rattle.std.specs.Prelude.{Option, Some, None}
use native.Mathlib.Omega.{arith}
use Rattle.piece_cells.proofs.TwoAttempts as two
use Rattle.piece_cells.proofs.subdivide.Goals as goal
use Rattle.piece_cells.proofs.subdivide.Goals.{Then-is_none, Else-is_none}

none-of : (o : Option ℕ) → is_some o ≡ false → o ≡ None
none-of None e = refl
none-of (Some k) e = (cc)

held : (c : Then-is_none) → c.attempt-t.result.fails ≡ None
held c = none-of _ (c.is_none.ensures ∙ ap not c.if-is_none.true)

fails : (c : Else-is_none) → c.attempt-t.result.fails ≡ None → ⊥
fails c e = let d : ◌≡◌ {A = Bool} true false = sym (c.is_none.ensures ∙ ap not c.if-is_none.false) ∙ ap is_some e in (cc)

pub attempt-t-requires : goal.attempt-t-requires
attempt-t-requires c =
    (two.try_first c.requires.0, c.requires.1, c.requires.2, two.rims-first c.requires.0 _ c.requires.3)

pub returns-then-is_none : goal.returns-then-is_none
returns-then-is_none c =
    let a = c.args in
    two.if_held c.requires.0 a.cells.now a.piece.now.sides.now a.rims.now c.attempt-t.ensures (held (goal.at.returns-then-is_none c).Then-is_none)

pub returns-then-t : goal.returns-then-t
returns-then-t c =
    let a = c.args in
    two.if_far c.requires.0 a.cells.now a.piece.now.sides.now a.rims.now c.attempt-t.ensures (fails (goal.at.returns-then-t c).Else-is_none) c.if-t.true

pub attempt-requires : goal.attempt-requires
attempt-requires c =
    let a = c.args in
    let f = fails (goal.at.attempt-requires c).Else-is_none in (
      two.try-second c.requires.0 a.cells.now a.piece.now.sides.now a.rims.now c.attempt-t.ensures f c.if-t.false,
      omega (arith, c.requires.1, c.attempt-t.auto.cells),
      two.held_first c.requires.0 a.cells.now a.piece.now.sides.now a.rims.now c.attempt-t.ensures c.requires.2,
      two.rims-second c.requires.0 a.cells.now a.piece.now.sides.now a.rims.now c.attempt-t.ensures f c.if-t.false
          c.requires.3,
    )

pub returns : goal.returns
returns c =
    let a = c.args in
    two.if-again c.requires.0 a.cells.now a.piece.now.sides.now a.rims.now c.attempt-t.ensures (fails (goal.at.returns c).Else-is_none) c.if-t.false
    c.attempt.ensures
