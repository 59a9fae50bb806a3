use Rattle.std.proofs.Common.{◌∙◌, ap}
use Rattle.c_lex.specs.Front.{word_kind}
use Rattle.c_lex.proofs.Front.{word_front}
use Rattle.c_lex.proofs.longest.word.Goals as goal

pub returns : goal.returns
returns c = word_front c.args.text.now _ c.word_len-len.result c.requires c.word_len-len.ensures.value (c.word_kind.ensures ∙ ap word_kind c.front.ensures)
