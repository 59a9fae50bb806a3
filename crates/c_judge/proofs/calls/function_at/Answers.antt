use Rattle.std.proofs.Common.{sym, refl}
use Rattle.std.proofs.lemmas.Option.{slice_get_read, slice_get_past}
use Rattle.c_judge.proofs.Rows.{called_none, called_object, called_function}
use Rattle.c_judge.proofs.calls.function_at.Goals as goal

pub returns-then-symbol : goal.returns-then-symbol
returns-then-symbol c = sym (called_function c.args.v.now c.args.n c.in-Some.symbol.now (slice_get_read c.args.v.now.rows.now _ c.args.n c.in-Some.symbol.now refl c.in-Some.ensures.lookup.3.0 c.in-Some.ensures.lookup.1) c.if-symbol.true)

pub returns-in-None : goal.returns-in-None
returns-in-None c = sym (called_none c.args.v.now c.args.n (slice_get_past c.args.v.now.rows.now c.args.n c.in-None.ensures.lookup.3))

pub returns-else-symbol : goal.returns-else-symbol
returns-else-symbol c = sym (called_object c.args.v.now c.args.n c.in-Some.symbol.now (slice_get_read c.args.v.now.rows.now _ c.args.n c.in-Some.symbol.now refl c.in-Some.ensures.lookup.3.0 c.in-Some.ensures.lookup.1) c.if-symbol.false)
