use Rattle.std.proofs.Common.{rules, sym, ◌∙◌}
use Rattle.cmd_lang.proofs.Quits.{break_no_quit, clear_no_quit}
use Rattle.cmd_lang.proofs.command.with_word.Goals as goal

pub returns-in_err-spot_of-clause-err : goal.returns-in_err-spot_of-clause-err
returns-in_err-spot_of-clause-err c =
    let none = break_no_quit c.args.word.now c.args.argument.now (sym c.is_same.ensures ∙ c.if-is_same.false) (sym c.is_same-else-is_same.ensures ∙ c.if-is_same-2.true) in
    search (rules, none)

pub returns-in_err-spot_of-2-clause-err : goal.returns-in_err-spot_of-2-clause-err
returns-in_err-spot_of-2-clause-err c =
    let none = clear_no_quit c.args.word.now c.args.argument.now (sym c.is_same.ensures ∙ c.if-is_same.false) (sym c.is_same-else-is_same.ensures ∙ c.if-is_same-2.false) (sym c.is_same-else-is_same-2.ensures ∙ c.if-is_same-3.true) in
    search (rules, none)
