use Rattle.machine_state.proofs.Words.{words_written}
use Rattle.machine_state.proofs.number.+write_words.Goals as goal

pub returns-in-len1-up : goal.returns-in-len1-up
returns-in-len1-up t c =
    words_written c.args.order c.args.words.now c.args.bytes.now c.write_number.new.bytes c.write_words.new.bytes c.in-len1-up.len_at_least c.requires
    c.write_number.ensures c.write_words.ensures
