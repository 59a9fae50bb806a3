use Rattle.std.proofs.Common.{sym, ◌∙◌}
use Rattle.cmd_lang.proofs.Quits.{text_of_words}
use Rattle.cmd_lang.proofs.command.read_words.Goals as goal

pub returns-else-is_empty-clause-ok : goal.returns-else-is_empty-clause-ok
returns-else-is_empty-clause-ok c =
    let read = text_of_words c.args.raw c.args.line.now _ _ c.split_word.ensures.word c.split_word.ensures.rest (sym c.is_empty.ensures ∙ c.if-is_empty.false) in
    rw read c.with_text.ensures.ok
