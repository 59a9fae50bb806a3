use Rattle.std.proofs.Common.{◌≡◌, drop, true, false, sym}
use Rattle.c_lex.specs.Bytes.{starts_with}
use Rattle.c_lex.proofs.Literals.{one_none, one_some, one_more}
use Rattle.c_lex.proofs.literal.one_len.Goals as goal

pub returns-then-starts_with : goal.returns-then-starts_with
returns-then-starts_with c = one_some c.args.text.now c.in-Some.item (sym c.in-Some.ensures.value) (let e : starts_with 39 (drop c.in-Some.item.0 c.args.text.now) ≡ true = cc in e)

pub returns-else-starts_with : goal.returns-else-starts_with
returns-else-starts_with c = one_more c.args.text.now c.in-Some.item (sym c.in-Some.ensures.value) (let e : starts_with 39 (drop c.in-Some.item.0 c.args.text.now) ≡ false = cc in e)

pub returns-in-None : goal.returns-in-None
returns-in-None c = one_none c.args.text.now (sym c.in-None.ensures.value)
