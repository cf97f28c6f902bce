-- `put_snap`: the sign.
use mathlib.Core.Path.{sym, ◌∙◌}
use Rattle.text.specs.Text.{bytes}
use Rattle.text.proofs.Pages.{wrote_as}
use Rattle.scene.proofs.Lengths.{snap-sign}
use Rattle.scene.proofs.put_snap.Goals as goal

pub returns-then-snapped : goal.returns-then-snapped
unfolding bytes
returns-then-snapped c = wrote_as (snap-sign c.args.q (sym c.snapped.ensures ∙ c.if-snapped.true)) c.put_form.ensures
