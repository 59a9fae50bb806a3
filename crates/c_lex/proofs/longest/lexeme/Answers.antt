use Rattle.std.proofs.Common.{Some, None, sym}
use Rattle.c_lex.proofs.Front.{integer_front, mark_front, quote_some, double_some}
use Rattle.c_lex.proofs.longest.lexeme.Goals as goal

pub returns-in-Number : goal.returns-in-Number
returns-in-Number c = integer_front c.args.text.now c.integer_len.result (sym c.in-Number.ensures) c.integer_len.ensures.value c.integer_len.ensures.within

pub returns-in-Some : goal.returns-in-Some
returns-in-Some c = mark_front c.args.text.now (Some c.in-Some.len) (sym c.in-Other.ensures) c.in-Some.ensures

pub returns-in-None : goal.returns-in-None
returns-in-None c = mark_front c.args.text.now None (sym c.in-Other.ensures) c.in-None.ensures

pub character-requires-clause-some : goal.character-requires-clause-some
character-requires-clause-some c = quote_some c.args.text.now (sym c.in-Quote.ensures)

pub string-requires-clause-some : goal.string-requires-clause-some
string-requires-clause-some c = double_some c.args.text.now (sym c.in-DoubleQuote.ensures)
