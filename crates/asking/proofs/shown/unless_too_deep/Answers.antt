use Rattle.std.proofs.Common.{sym}
use Rattle.asking.proofs.Typing.{not_deep}
use Rattle.asking.proofs.shown.unless_too_deep.Goals as goal

pub returns-in_default : goal.returns-in_default
returns-in_default c = sym (not_deep c.args.ctype c.args.lack c.in_default.not-TooDeep)
