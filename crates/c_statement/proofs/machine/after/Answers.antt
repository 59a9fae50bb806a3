use Rattle.std.proofs.Common.{◌≡◌, Bool, true, false, List, Option, sym, ◌∙◌, ap, subst}
use Rattle.c_declaration.specs.declared.built.Built.{Built}
use Rattle.c_declaration.proofs.Pieces.{if_true, if_false}
use Rattle.c_trees.specs.Statements.{StatementTree}
use Rattle.c_statement.specs.declared.state.Frame.{Frame}
use Rattle.c_statement.specs.Tokens.{is_else}
use Rattle.c_statement.specs.Machine.{Next, Gives, settle, on_else, behind}
use Rattle.c_statement.proofs.machine.after.Goals as goal

pub returns-then-otherwise : goal.returns-then-otherwise
returns-then-otherwise c =
    let y = c.args.next.symbol in
    let given : Next → Type 0 = λ n. Gives c.on_else.result n in
    let on : Option (Built StatementTree) × List Frame → Next = λ r. behind r c.args.next in
    let ended : Bool → Option (Built StatementTree) × List Frame = λ b. settle b c.args.part c.args.stack in
    let e : is_else y ≡ true = cc in
    subst
    given
    (sym (if_true (is_else y) (on_else (ended true)) (on (ended false)) e
    ∙ ap on_else (ap ended (sym c.if-otherwise.true) ∙ c.in_ok-part.ensures)))
    c.on_else.ensures

pub returns-else-otherwise : goal.returns-else-otherwise
returns-else-otherwise c =
    let y = c.args.next.symbol in
    let given : Next → Type 0 = λ n. Gives c.behind.result n in
    let on : Option (Built StatementTree) × List Frame → Next = λ r. behind r c.args.next in
    let ended : Bool → Option (Built StatementTree) × List Frame = λ b. settle b c.args.part c.args.stack in
    let e : is_else y ≡ false = cc in
    subst
    given
    (sym (if_false (is_else y) (on_else (ended true)) (on (ended false)) e
    ∙ ap on (ap ended (sym c.if-otherwise.false) ∙ c.in_ok-part.ensures)))
    c.behind.ensures
