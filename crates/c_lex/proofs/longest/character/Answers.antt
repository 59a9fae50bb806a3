use Rattle.std.proofs.Common.{Some, None}
use Rattle.c_lex.proofs.Front.{one_front}
use Rattle.c_lex.proofs.longest.character.Goals as goal

pub returns-in-Some : goal.returns-in-Some
returns-in-Some c = one_front c.args.text.now _ c.behind.ensures c.requires.class c.requires.some (Some c.in-Some.len) c.in-Some.ensures

pub returns-in-None : goal.returns-in-None
returns-in-None c = one_front c.args.text.now _ c.behind.ensures c.requires.class c.requires.some None c.in-None.ensures
