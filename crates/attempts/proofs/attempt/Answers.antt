-- `attempt`: corners, middles, centre, cells and rim marks one after the other, each with what the one before left.
use mathlib.Core.Path.{refl, ◌∙◌}
use Rattle.piece_nodes.proofs.Adding.{held}
use Rattle.attempts.proofs.Marking.{marked}
use Rattle.attempts.proofs.OneAttempt as one
use native.Mathlib.Omega.{arith}
use Rattle.attempts.proofs.attempt.Goals as goal

pub add_corners-u-requires : goal.add_corners-u-requires
add_corners-u-requires c =
    (one.add-corners c.args.piece.now.edges.now c.requires.0, c.requires.2, refl)

pub add_middles-m-requires : goal.add_middles-m-requires
add_middles-m-requires c =
    let f = c.requires.0 in
    let a = c.add_corners-u.ensures in (
      one.add-middles c.args.piece.now.edges.now f a refl,
      one.listed c.args.piece.now.edges.now f a refl,
      c.args.piece.now.marked ∙ one.ends c.args.piece.now.edges.now f a refl,
      held a c.requires.2,
      refl,
    )

pub mean-p-requires : goal.mean-p-requires
mean-p-requires c =
    let f = c.requires.0 in
    let a = c.add_corners-u.ensures in
    let n = one.many c.args.piece.now.edges.now f a refl in
    (omega (arith, n, f.valid.some), omega (arith, n, f.valid.few), one.corner-room c.args.piece.now.edges.now f a refl c.add_middles-m.ensures.0 refl)

pub add_node-z-requires : goal.add_node-z-requires
add_node-z-requires c =
    let f = c.requires.0 in
    let a = c.add_corners-u.ensures in
    let b = c.add_middles-m.ensures.0 in (
      one.after-middles c.args.piece.now.edges.now f a refl b refl,
      one.centre-ranged c.args.piece.now.edges.now f a refl b refl c.mean-p.ensures,
      one.centre-room c.args.piece.now.edges.now f a refl b refl c.mean-p.ensures,
      held b (held a c.requires.2),
    )

pub mark_rims-requires : goal.mark_rims-requires
mark_rims-requires c =
    let f = c.requires.0 in
    let a = c.add_corners-u.ensures in
    let b = c.add_middles-m.ensures.0 in
    let d = c.mean-p.ensures in
    let e = c.add_node-z.ensures in (
      one.used-up c.args.piece.now.edges.now f a refl b refl d e.0 e.1,
      omega (arith, one.used-is c.args.piece.now.edges.now f a refl b refl d e.0 e.1, c.requires.3),
      one.middles-listed c.args.piece.now.edges.now f a refl b refl d e.0 e.1,
      one.corners-listed c.args.piece.now.edges.now f a refl b refl d e.0 e.1,
      omega (arith, one.as-many c.args.piece.now.edges.now f a refl b refl, c.args.piece.now.sided),
    )

pub first_failing-fails-requires : goal.first_failing-fails-requires
first_failing-fails-requires c =
    let f = c.requires.0 in
    let a = c.add_corners-u.ensures in
    let b = c.add_middles-m.ensures.0 in
    let d = c.mean-p.ensures in
    let e = c.add_node-z.ensures in (
      one.used-room c.args.piece.now.edges.now f a refl b refl d e.0 e.1,
      record {
        centre = one.centre-listed c.args.piece.now.edges.now f a refl b refl d e.0 e.1;
        middles = one.middles-listed c.args.piece.now.edges.now f a refl b refl d e.0 e.1;
        corners = one.corners-listed c.args.piece.now.edges.now f a refl b refl d e.0 e.1;
      },
    )

pub returns : goal.returns
returns c =
    let f = c.requires.0 in
    let a = c.add_corners-u.ensures in
    let b = c.add_middles-m.ensures.0 in
    let d = c.mean-p.ensures in
    let e = c.add_node-z.ensures in
    one.answer c.args.piece.now.edges.now f a refl b refl d e.0 e.1 c.args.cells.now c.args.piece.now.sides.now c.args.rims.now c.add_middles-m.ensures.1
    c.first_failing-fails.ensures c.put_cells.ensures
    (marked _ _ _ _ _ _ _ _ _ (one.used-up c.args.piece.now.edges.now f a refl b refl d e.0 e.1)
    (omega (arith, one.as-many c.args.piece.now.edges.now f a refl b refl, f.valid.few)) c.mark_rims.ensures)
