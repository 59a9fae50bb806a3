use Rattle.std.proofs.Common.{◌≡◌, ◌++◌, ◌∷◌, [], List, ℕ, Some, None, length, rules, drop, sym, ◌∙◌, ap, subst, arith}
use Rattle.c_lex.specs.declared.token.Token.{Token}
use Rattle.c_lex.specs.Grammar.{gap_of}
use Rattle.c_lex.specs.Front.{Begins}
use Rattle.c_lex.proofs.Lexing.{Lexed, next_of, gap_on, token_on, finish}
use Rattle.c_lex.proofs.lex.tokens.Goals as goal

pub reading-preserved-in-Some : goal.reading-preserved-in-Some
reading-preserved-in-Some c =
    let e : gap_of (drop c.reading.place.at c.args.text.now) ≡ Some c.in-Some.len = cc c.in-Some.ensures.value in
    gap_on c.args.text.now c.reading.place c.reading.found.items c.in-Some.len c.after-place.result c.reading.invariant e
    (next_of c.args.text.now c.reading.place c.in-Some.len c.after-place.result c.behind-rest.result.now c.front.result.now
    c.behind-rest.ensures c.front.ensures c.after-place.ensures.value c.in-Some.ensures.within c.after-place.ensures.at c.after-place.ensures.line c.after-place.ensures.column)

pub reading-preserved : goal.reading-preserved
reading-preserved c =
    let t = c.in-Some-token_of.token in
    let none : gap_of c.behind-rest.result.now ≡ None = search rules in
    let e : gap_of (drop c.reading.place.at c.args.text.now) ≡ None = ap gap_of (sym c.behind-rest.ensures) ∙ none in
    let B : List ℕ → Type 0 = λ l. Begins l (Some t) in
    let begins : Begins (drop c.reading.place.at c.args.text.now) (Some t) = subst B c.behind-rest.ensures c.in-Some-token_of.ensures in
    let P : List Token → Type 0 = λ l. Lexed c.args.text.now c.after-place-in-Some-token_of.result l in
    subst P (sym (c.in_ok-add-in-Some-token_of.ensures ∙ ap (λ x. c.reading.found.items ++ x ∷ []) c.token_at.ensures))
    (token_on c.args.text.now c.reading.place c.reading.found.items t c.after-place-in-Some-token_of.result c.reading.invariant e begins
    (next_of c.args.text.now c.reading.place t.1 c.after-place-in-Some-token_of.result c.behind-rest.result.now c.front-in-Some-token_of.result.now
    c.behind-rest.ensures c.front-in-Some-token_of.ensures c.after-place-in-Some-token_of.ensures.value c.in-Some-token_of.ensures.0.within
    c.after-place-in-Some-token_of.ensures.at c.after-place-in-Some-token_of.ensures.line c.after-place-in-Some-token_of.ensures.column))

pub returns-then-as_slice-gt-MOST_TOKENS-clause-fault : goal.returns-then-as_slice-gt-MOST_TOKENS-clause-fault
returns-then-as_slice-gt-MOST_TOKENS-clause-fault c = (
  c.reading.found.items,
  finish c.args.text.now c.reading.place c.reading.found.items c.reading.invariant (omega arith),
  omega (arith, ap length c.as_slice.ensures.value),
)

pub returns-clause-tokens : goal.returns-clause-tokens
returns-clause-tokens c = (finish c.args.text.now c.reading.place c.reading.found.items c.reading.invariant (omega arith), omega (arith, ap length c.as_slice.ensures.value))
