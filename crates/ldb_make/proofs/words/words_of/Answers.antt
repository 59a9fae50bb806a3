use Rattle.rand_core.specs.Steps.{stream_of, steps_u64_high}
use Rattle.rand_xoshiro.specs.Xoshiro256.{plus_plus}
use Rattle.ldb_make.specs.Words.{words}
use Rattle.ldb_make.proofs.Drawn.{drawn_more, drawn_all}
use Rattle.ldb_make.proofs.words.words_of.Goals as goal

pub loop-word-preserved : goal.loop-word-preserved
loop-word-preserved c =
    drawn_more 450 c.loop-word._word (stream_of (steps_u64_high plus_plus) c.loop-word.rng) (stream_of (steps_u64_high plus_plus) c.next_u64.new.self)
    c.next_u64.result c.loop-word.words.items c.push.new.self.items (words c.args.n) c.loop-word-test.true c.next_u64.ensures c.in_ok-push.ensures.items c.loop-word.invariant

pub returns : goal.returns
returns c =
    drawn_all 450 c.loop-word._word (stream_of (steps_u64_high plus_plus) c.loop-word.rng) c.loop-word.words.items (words c.args.n) c.loop-word-test.false c.loop-word.invariant
