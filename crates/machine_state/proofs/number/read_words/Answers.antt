use Rattle.std.proofs.Common.{◌∙◌, ap, arith}
use Rattle.machine_state.specs.Regions.{words_in}
use Rattle.machine_state.proofs.Words.{words_read}
use Rattle.machine_state.proofs.number.read_words.Goals as goal

pub returns : goal.returns
returns c =
    words_read c.args.order c.loop-at.words c.args.bytes.now (λ k h. c.loop-at.invariant k (omega arith))
    ∙ ap (λ n. words_in c.args.order n c.args.bytes.now) c.loop-at.auto.words
