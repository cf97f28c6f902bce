-- `called_for`: the library's search is the definition's.
use Rattle.std.proofs.Common.{◌∙◌}
use Rattle.call.specs.Marked.{called_for}
use Rattle.laws.proofs.Search.{any_listed}
use Rattle.given_tests.proofs.called_for.Goals as goal

pub returns : goal.returns
unfolding called_for
returns c = c.contains.ensures.value ∙ any_listed _ 0 c.args.kinds.now
