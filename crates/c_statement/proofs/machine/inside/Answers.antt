use Rattle.std.proofs.Common.{◌≡◌, List, ◌∷◌, Option, sym, ◌∙◌, ap, subst}
use Rattle.c_declaration.specs.declared.built.Built.{Built}
use Rattle.c_declaration.proofs.Pieces.{if_true, if_false}
use Rattle.c_trees.specs.Statements.{StatementTree}
use Rattle.c_statement.specs.Parts.{closed_of}
use Rattle.c_statement.specs.declared.state.Frame.{Frame}
use Rattle.c_statement.specs.declared.state.Frame.TheVariants as frame
use Rattle.c_statement.specs.Tokens.{is_close_brace}
use Rattle.c_statement.specs.Machine.{Next, Gives, begins, ends_block}
use Rattle.c_statement.proofs.machine.inside.Goals as goal

pub returns-in_ok-closed_of : goal.returns-in_ok-closed_of
returns-in_ok-closed_of c =
    let y = c.args.next.symbol in
    let ends : Option (Built StatementTree) → Next = λ b. ends_block b c.args.stack in
    if_true (is_close_brace y) (ends (closed_of c.args.block c.args.next.place)) (begins y (frame.Block c.args.block ∷ c.args.stack) c.args.next) (sym c.is_close_brace.ensures ∙ c.if-is_close_brace.true)
    ∙ ap ends (sym c.in_ok-closed_of.ensures)
    ∙ c.ends_block.ensures

pub returns-in_ok-push : goal.returns-in_ok-push
returns-in_ok-push c =
    let y = c.args.next.symbol in
    let given : Next → Type 0 = λ n. Gives c.begins.result n in
    let on : List Frame → Next = λ s. begins y s c.args.next in
    let pushed : frame.Block c.args.block ∷ c.args.stack ≡ c.push.new.self = sym c.in_ok-push.ensures in
    subst
    given
    (sym (if_false (is_close_brace y) (ends_block (closed_of c.args.block c.args.next.place) c.args.stack) (on (frame.Block c.args.block ∷ c.args.stack)) (sym c.is_close_brace.ensures ∙ c.if-is_close_brace.false)
    ∙ ap on pushed))
    c.begins.ensures
