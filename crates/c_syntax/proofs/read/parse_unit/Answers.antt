use Rattle.std.proofs.Common.{sym, ◌∙◌, ap, Some}
use Rattle.c_symbol.specs.Terminals.{terminals}
use Rattle.c_syntax.proofs.Fed.{read_is}
use Rattle.c_syntax.proofs.Exact.{is_unit, is_deep, of_fault}
use Rattle.c_syntax.proofs.Laws.{ending, being}
use Rattle.c_syntax.proofs.read.parse_unit.Goals as goal

pub returns-in-All : goal.returns-in-All
returns-in-All c =
    is_unit being (terminals c.args.text.now c.args.tokens.now) c.in-All.externals (sym (read_is c.args.text.now c.args.tokens.now) ∙ c.in-Ok.ensures ∙ ap Some c.in-All.is)

pub returns-in-TooDeep : goal.returns-in-TooDeep
returns-in-TooDeep c =
    is_deep being (terminals c.args.text.now c.args.tokens.now) c.in-TooDeep.place (sym (read_is c.args.text.now c.args.tokens.now) ∙ c.in-Ok.ensures ∙ ap Some c.in-TooDeep.is)

pub returns-in-Err : goal.returns-in-Err
returns-in-Err c = of_fault ending c.args.text.now c.args.tokens.now c.in-Err.fault c.in-Err.ensures
