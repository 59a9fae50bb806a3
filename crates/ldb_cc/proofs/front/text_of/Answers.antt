use Rattle.std.proofs.Common.{◌∙◌}
use Rattle.ldb_cc.proofs.Refused.{text_at, text_past}
use Rattle.ldb_cc.proofs.front.text_of.Goals as goal

pub returns-then-unit-texts : goal.returns-then-unit-texts
returns-then-unit-texts c = c.as_slice.ensures.value ∙ text_at c.args.texts.now c.args.unit c.index-texts-unit.result c.if-unit-texts.true c.index-texts-unit.is

pub returns-else-unit-texts : goal.returns-else-unit-texts
returns-else-unit-texts c = text_past c.args.texts.now c.args.unit c.if-unit-texts.false
