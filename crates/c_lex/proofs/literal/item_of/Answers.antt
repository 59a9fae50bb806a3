use Rattle.c_lex.proofs.Literals.{item_begins, item_ends}
use Rattle.c_lex.proofs.literal.item_of.Goals as goal

pub returns-clause-some : goal.returns-clause-some
returns-clause-some c = item_begins c.args.quote c.args.text.now c.front_item.result c.front_item.ensures

pub returns-clause-within : goal.returns-clause-within
returns-clause-within c = item_ends c.args.quote c.args.text.now c.front_item.result c.front_item.ensures
