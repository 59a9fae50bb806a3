use Rattle.ldb_words.specs.Word.{sum_of}
use Rattle.debug_side.specs.declared.words.TheConstants.{PC_OFFSET}
use Rattle.debug_side.proofs.Putting.{puts_at}
use Rattle.debug_side.proofs.words.put_pc.Goals as goal

pub returns-clause-meaning : goal.returns-clause-meaning
returns-clause-meaning g c =
    puts_at (g.M.AbsMem.seen c.args.m.now) (g.M.AbsMem.seen c.put_word.new.m) c.put_word.result c.word_sum-place.result (sum_of c.args.context PC_OFFSET) c.word_sum-pc.result (sum_of c.args.at 4)
    c.word_sum-place.ensures c.word_sum-pc.ensures c.put_word.ensures.meaning
