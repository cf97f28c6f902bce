-- `put_half`: the form of a ring's edge, or of a cut, filled with the two places.
use Rattle.text.specs.Text.{bytes}
use Rattle.text.proofs.Pages.{wrote_as}
use Rattle.scene.proofs.Lengths.{half-rim, half-cut}
use Rattle.scene.proofs.put_half.Goals as goal
use Rattle.scene.proofs.put_half.Goals.{then-rim, else-rim}

pub returns : goal.returns
unfolding bytes
returns c =
    let s = c.args in
    elim c.if-rim.branch [
      | then-rim w ↦ wrote_as (half-rim s.rim s.a s.b w.if-rim.true) (rw w.form-is at c.put_form.ensures)
      | else-rim w ↦ wrote_as (half-cut s.rim s.a s.b w.if-rim.false) (rw w.form-is at c.put_form.ensures)
    ]
