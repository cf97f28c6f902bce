use mathlib.Core.Path.{refl, ap, ◌∙◌}
use native.Mathlib.Omega.{arith}
use lib.ListN.{length-set}
use Rattle.std.specs.Int.{w32}
use Rattle.std.proofs.lemmas.Int.{to_z-of_z}
use Rattle.laws.proofs.Table.{more, tab_none}
use Rattle.blocks.specs.Fields as Fields
use Rattle.blocks.proofs.TwosComplement.{signed_is}
use Rattle.blocks.proofs.read_points.Goals as goal

pub loop-k-init : goal.loop-k-init
loop-k-init c = (refl, tab_none (Fields.coordinate c.args.bytes.now))

pub loop-k-preserved : goal.loop-k-preserved
unfolding Fields.coordinate
loop-k-preserved c =
    let l = c.loop-k in
    let b = c.args.bytes.now in
    let s = c.cast_signed in
    let e = to_z-of_z w32 s.result (record { sfits = s.type_inv }) ∙ s.ensures ∙ signed_is c.word.result ∙ ap Fields.signed c.word.ensures in (
      length-set l.point-items l.k _ ∙ l.invariant.0,
      more (Fields.coordinate b) l.point-items l.k _ (omega (arith, l.invariant.0)) l.invariant.1 e,
    )
