use Rattle.std.proofs.Common.{sym, ◌∙◌, ap, subst, Option}
use Rattle.c_lex.specs.declared.keyword.Keyword.{Keyword}
use Rattle.c_symbol.specs.declared.symbol.Symbol.{Symbol}
use Rattle.c_declaration.specs.declared.built.Built.{Built}
use Rattle.c_trees.specs.Statements.{StatementTree, Empty}
use Rattle.c_statement.specs.Parts.{statement_part, begun_of}
use Rattle.c_statement.specs.declared.state.Mode.TheVariants.{After, Items}
use Rattle.c_statement.specs.Machine.{Next, Gives, goes, begins, begins_word}
use Rattle.c_statement.proofs.Steps.{no_sign}
use Rattle.c_statement.proofs.machine.begins.Goals as goal

pub returns-in_ok-empty-in-Semicolon : goal.returns-in_ok-empty-in-Semicolon
returns-in_ok-empty-in-Semicolon c =
    let by : Symbol → Next = λ y. begins y c.args.stack c.args.next in
    let made : Option (Built StatementTree) → Next = λ m. goes (After m) c.args.stack in
    ap by c.in-Semicolon.is ∙ ap made (sym c.in_ok-empty-in-Semicolon.ensures)

pub returns-in-OpenBrace : goal.returns-in-OpenBrace
returns-in-OpenBrace c =
    let by : Symbol → Next = λ y. begins y c.args.stack c.args.next in
    let made : Option (Built StatementTree) → Next = λ b. goes (Items b) c.args.stack in
    ap by c.in-OpenBrace.is ∙ ap made (sym c.begun_of.ensures)

pub returns-in-Keyword : goal.returns-in-Keyword
returns-in-Keyword c =
    let given : Next → Type 0 = λ n. Gives c.keyword.result n in
    let by : Symbol → Next = λ y. begins y c.args.stack c.args.next in
    subst given (sym (ap by c.in-Keyword.is)) c.keyword.ensures

pub returns-in_default : goal.returns-in_default
returns-in_default c =
    let given : Next → Type 0 = λ n. Gives c.value_begins.result n in
    let word : Option Keyword → Next = λ o. begins_word o c.args.stack c.args.next in
    subst
    given
    (sym (no_sign c.args.next.symbol (goes (After (statement_part (Empty c.args.next.place))) c.args.stack) (goes (Items (begun_of c.args.next.place)) c.args.stack) word
    c.in_default.not-Semicolon c.in_default.not-OpenBrace c.in_default.not-Keyword))
    c.value_begins.ensures
