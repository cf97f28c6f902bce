-- `Frame::put_head`: four texts one after the other.
use mathlib.Core.Path.{ap}
use mathlib.Core.List.{◌++◌}
use Rattle.text.proofs.Pages.{room_on, wrote_as, room-one, room-two, wrote-two, room-first, room-second, room-third, wrote-three}
use Rattle.frame.specs.Head as Head
use Rattle.frame.proofs.Lengths.{head-length}
use Rattle.frame.proofs.Frame.put_head.Goals as goal

pub put_box-requires : goal.put_box-requires
unfolding Head.head_text
put_box-requires c =
    let f = c.args.self in
    let b = Head.box_text (Head.view_of f) in
    let t = Head.ticks_text f 9 in
    let k = room-one (b ++ Head.looks ++ t) (Head.axes_text f (Head.axes_of f)) c.requires in
    room_on (ap Head.box_text c.view.ensures) (room-first b Head.looks t k)

pub put_looks-requires : goal.put_looks-requires
unfolding Head.head_text
put_looks-requires c =
    let f = c.args.self in
    let b = Head.box_text (Head.view_of f) in
    let t = Head.ticks_text f 9 in
    let k = room-one (b ++ Head.looks ++ t) (Head.axes_text f (Head.axes_of f)) c.requires in
    room-second b Head.looks t k (wrote_as (ap Head.box_text c.view.ensures) c.put_box.ensures)

pub put_ticks-requires : goal.put_ticks-requires
unfolding Head.head_text
put_ticks-requires c =
    let f = c.args.self in
    let b = Head.box_text (Head.view_of f) in
    let t = Head.ticks_text f 9 in
    let k = room-one (b ++ Head.looks ++ t) (Head.axes_text f (Head.axes_of f)) c.requires in
    room-third b Head.looks t k (wrote_as (ap Head.box_text c.view.ensures) c.put_box.ensures) c.put_looks.ensures

pub put_axes-requires : goal.put_axes-requires
unfolding Head.head_text
put_axes-requires c =
    let f = c.args.self in
    let b = Head.box_text (Head.view_of f) in
    let t = Head.ticks_text f 9 in
    let a = Head.axes_text f (Head.axes_of f) in
    let k = room-one (b ++ Head.looks ++ t) a c.requires in
    let w = wrote-three b Head.looks t k (wrote_as (ap Head.box_text c.view.ensures) c.put_box.ensures) c.put_looks.ensures c.put_ticks.ensures in
    room_on (ap (Head.axes_text f) c.axes.ensures) (room-two (b ++ Head.looks ++ t) a c.requires w)

pub returns : goal.returns
unfolding Head.head_text
returns c =
    let f = c.args.self in
    let b = Head.box_text (Head.view_of f) in
    let t = Head.ticks_text f 9 in
    let a = Head.axes_text f (Head.axes_of f) in
    let k = room-one (b ++ Head.looks ++ t) a c.requires in
    let w = wrote-three b Head.looks t k (wrote_as (ap Head.box_text c.view.ensures) c.put_box.ensures) c.put_looks.ensures c.put_ticks.ensures in
    (wrote-two (b ++ Head.looks ++ t) a c.requires w (wrote_as (ap (Head.axes_text f) c.axes.ensures) c.put_axes.ensures), head-length f)
