use Rattle.c_lex.proofs.Literals.{character_is}
use Rattle.c_lex.proofs.literal.character_value.Goals as goal

pub returns-in-Some-clause-literal : goal.returns-in-Some-clause-literal
returns-in-Some-clause-literal c = character_is c.args.text.now

pub returns-in-None-clause-literal : goal.returns-in-None-clause-literal
returns-in-None-clause-literal c = character_is c.args.text.now
