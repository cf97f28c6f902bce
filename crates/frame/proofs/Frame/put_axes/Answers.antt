-- `Frame::put_axes`: the form filled with the places.
use Rattle.text.specs.Text.{bytes}
use Rattle.frame.specs.Head as Head
use Rattle.frame.proofs.Frame.put_axes.Goals as goal

pub returns : goal.returns
unfolding Head.axes_text Head.axes_form bytes
returns c = rw (← c.self.view_is) c.put_form.ensures
