use Rattle.std.proofs.Common.{◌≡◌, Option, sym, ◌∙◌, ap, subst}
use Rattle.c_declaration.specs.declared.built.Built.{Built}
use Rattle.c_declaration.specs.declared.state.LocalParser.TheVariants as local
use Rattle.c_declaration.specs.LocalReading.{local_offer}
use Rattle.c_declaration.proofs.Pieces.{if_true, if_false}
use Rattle.c_trees.specs.Statements.{StatementTree}
use Rattle.c_statement.specs.Machine.{Next, Gives, starts_local, declaring, inside}
use Rattle.c_statement.proofs.machine.items.Goals as goal

pub returns-then-starts_local : goal.returns-then-starts_local
returns-then-starts_local c =
    let y = c.args.next.symbol in
    let given : Next → Type 0 = λ n. Gives c.declaring.result n in
    subst
    given
    (sym (if_true (starts_local y) (declaring c.args.block c.args.stack (local_offer local.Begin c.args.next)) (inside y c.args.block c.args.stack c.args.next) (sym c.starts_local.ensures ∙ c.if-starts_local.true)))
    c.declaring.ensures

pub returns-else-starts_local : goal.returns-else-starts_local
returns-else-starts_local c =
    let y = c.args.next.symbol in
    let given : Next → Type 0 = λ n. Gives c.inside.result n in
    let on : Option (Built StatementTree) → Next = λ b. inside y b c.args.stack c.args.next in
    subst
    given
    (sym (if_false (starts_local y) (declaring c.args.block c.args.stack (local_offer local.Begin c.args.next)) (on c.args.block) (sym c.starts_local.ensures ∙ c.if-starts_local.false)
    ∙ ap on (sym c.block_of.ensures)))
    c.inside.ensures
