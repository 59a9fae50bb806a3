use Rattle.std.proofs.Common.{◌≡◌, drop, true, false, None, Some}
use Rattle.c_lex.specs.Bytes.{starts_with}
use Rattle.c_lex.specs.Literals.{item_of}
use Rattle.c_lex.proofs.Literals.{no_backslash, walk_on, walk_closed, walk_stuck, walk_ended}
use Rattle.c_lex.proofs.literal.closed_len.Goals as goal

pub returns-then-starts_with : goal.returns-then-starts_with
returns-then-starts_with c =
    walk_closed c.args.quote (no_backslash _ c.requires) c.args.text.now c.loop-at.at c.loop-at.invariant (let e : starts_with c.args.quote (drop c.loop-at.at c.args.text.now) ≡ true = cc in e)

pub loop-at-preserved : goal.loop-at-preserved
loop-at-preserved c = walk_on c.args.quote (no_backslash _ c.requires) c.args.text.now c.loop-at.at c.loop-at.invariant c.in-Some.item (let e : item_of c.args.quote (drop c.loop-at.at c.args.text.now) ≡ Some c.in-Some.item = cc c.in-Some.ensures.value in e)

pub returns-in-None : goal.returns-in-None
returns-in-None c = walk_stuck c.args.quote c.args.text.now c.loop-at.at c.loop-at.invariant (let e : item_of c.args.quote (drop c.loop-at.at c.args.text.now) ≡ None = cc c.in-None.ensures.value in e) (let e : starts_with c.args.quote (drop c.loop-at.at c.args.text.now) ≡ false = cc in e)

pub returns : goal.returns
returns c = walk_ended c.args.quote c.args.text.now c.loop-at.at c.loop-at.invariant c.loop-at-test.false
