use Rattle.std.proofs.Common.{◌∙◌}
use Rattle.cc_call.proofs.Named.{name_at, name_past}
use Rattle.cc_call.proofs.cause.name_in.Goals as goal

pub returns-then-unit-names : goal.returns-then-unit-names
returns-then-unit-names c = c.as_bytes.ensures ∙ name_at c.args.names.now c.args.unit c.index-names-unit.result c.if-unit-names.true c.index-names-unit.is

pub returns-else-unit-names : goal.returns-else-unit-names
returns-else-unit-names c = name_past c.args.names.now c.args.unit c.if-unit-names.false
