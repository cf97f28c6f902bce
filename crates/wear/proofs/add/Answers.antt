use Rattle.std.proofs.Common.{sym, ◌∙◌}
use Rattle.wear.proofs.Tests.{is-valid, next_low}
use Rattle.wear.proofs.add.Goals as goal

pub reported-requires : goal.reported-requires
reported-requires c = (is-valid c.args.r.now (sym c.invalid.ensures ∙ c.if-invalid.false)).few

pub stored-requires : goal.stored-requires
stored-requires c = next_low c.args.r.now (is-valid c.args.r.now (sym c.invalid.ensures ∙ c.if-invalid.false))
