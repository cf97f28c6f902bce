-- `put_lead`: three texts one after the other.
use Rattle.text.specs.Text.{bytes}
use Rattle.text.proofs.Pages.{room_on, wrote_as, room-second, room-third, wrote-three}
use borrow.Author.Rules.{rules}
use Rattle.scene.proofs.Lengths.{lead_some}
use Rattle.scene.proofs.put_lead.Goals as goal

pub put_points-requires : goal.put_points-requires
unfolding bytes
put_points-requires c =
    let e = lead_some c.args.chain.now.list.now c.args.chain.now.count (search rules) in
    room-second _ _ _ (room_on e c.requires) c.put_form.ensures

pub put_form-requires-2 : goal.put_form-requires-2
unfolding bytes
put_form-requires-2 c =
    let e = lead_some c.args.chain.now.list.now c.args.chain.now.count (search rules) in
    room-third _ _ _ (room_on e c.requires) c.put_form.ensures c.put_points.ensures

pub returns : goal.returns
unfolding bytes
returns c =
    let e = lead_some c.args.chain.now.list.now c.args.chain.now.count (search rules) in
    wrote_as e (wrote-three _ _ _ (room_on e c.requires) c.put_form.ensures c.put_points.ensures c.put_form-2.ensures)
