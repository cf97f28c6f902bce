-- `put_step`: both texts have room, and stand one after the other.
use Rattle.text.proofs.Pages.{room-one, room-two, wrote-two}
use Rattle.told.specs.Text.{tells_of}
use Rattle.sketch.proofs.Parts.{step-room, step-end}
use Rattle.sketch.proofs.put_step.Goals as goal

pub put_told-requires : goal.put_told-requires
put_told-requires c =
    let s = c.args in
    let h = step-room s.page.now s.f (tells_of s.told) _ _ _ _ _ s.job.now s.i c.requires.0 s.points.now.few c.requires.3 in
    (c.requires.0, room-one _ _ h)

pub put_lead-requires : goal.put_lead-requires
put_lead-requires c =
    let s = c.args in
    let h = step-room s.page.now s.f (tells_of s.told) _ _ _ _ _ s.job.now s.i c.requires.0 s.points.now.few c.requires.3 in
    (c.requires.1, c.requires.2, room-two _ _ h c.put_told.ensures)

pub returns : goal.returns
returns c =
    let s = c.args in
    let h = step-room s.page.now s.f (tells_of s.told) _ _ _ _ _ s.job.now s.i c.requires.0 s.points.now.few c.requires.3 in
    let w = wrote-two _ _ h c.put_told.ensures c.put_lead.ensures in
    (w, step-end s.page.now s.f (tells_of s.told) _ _ _ _ _ s.job.now s.i c.requires.0 s.points.now.few w)
