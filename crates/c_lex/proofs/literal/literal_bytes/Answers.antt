use Rattle.std.proofs.Common.{◌≡◌, ◌+◌, ℕ, List, sym, subst, drop, true, false, None, Some}
use Rattle.c_lex.specs.Bytes.{starts_with}
use Rattle.c_lex.specs.Literals.{item_of}
use Rattle.c_lex.proofs.Literals.{Reading, reading_on, reading_closed, reading_stuck, reading_ended, values_are}
use Rattle.c_lex.proofs.literal.literal_bytes.Goals as goal

pub returns-then-starts_with : goal.returns-then-starts_with
returns-then-starts_with c = record {
  bytes = reading_closed c.args.text.now c.loop-at.at c.loop-at.values.items c.loop-at.invariant (let e : starts_with 34 (drop c.loop-at.at c.args.text.now) ≡ true = cc in e);
  literal = λ values rest d. values_are d;
}

pub loop-at-preserved : goal.loop-at-preserved
loop-at-preserved c =
    let P : List ℕ → Type 0 = λ l. Reading c.args.text.now (c.loop-at.at + c.in-Some.item.0) l in
    subst P (sym c.in_ok-push-in-Some.ensures.items)
    (reading_on c.args.text.now c.loop-at.at c.loop-at.values.items c.loop-at.invariant c.in-Some.item
    (let e : item_of 34 (drop c.loop-at.at c.args.text.now) ≡ Some c.in-Some.item = cc c.in-Some.ensures.value in e)
    (let e : starts_with 34 (drop c.loop-at.at c.args.text.now) ≡ false = cc in e))

pub returns-in-None : goal.returns-in-None
returns-in-None c = record {
  bytes = reading_stuck c.args.text.now c.loop-at.at c.loop-at.values.items c.loop-at.invariant (let e : item_of 34 (drop c.loop-at.at c.args.text.now) ≡ None = cc c.in-None.ensures.value in e);
  literal = λ values rest d. values_are d;
}

pub returns : goal.returns
returns c = record {
  bytes = reading_ended c.args.text.now c.loop-at.at c.loop-at.values.items c.loop-at.invariant c.loop-at-test.false;
  literal = λ values rest d. values_are d;
}

pub returns-in_err-push-in-Some-clause-literal : goal.returns-in_err-push-in-Some-clause-literal
returns-in_err-push-in-Some-clause-literal c = λ values rest d. values_are d
