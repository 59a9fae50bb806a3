use Rattle.std.proofs.Common.{rules, ◌≡◌, length, arith}
use Rattle.machine_state.specs.Regions.{store_words_of, written, overwritten, words_bytes}
use Rattle.machine_state.proofs.Words.{length_words_bytes}
use Rattle.machine_state.proofs.memory.Memory.store_words.Goals as goal

pub returns-then-at-ne0-clause-err : goal.returns-then-at-ne0-clause-err
unfolding store_words_of written overwritten
returns-then-at-ne0-clause-err c =
    let e : length (words_bytes c.args.order c.args.words.now) ≡ 64 = omega (arith, length_words_bytes c.args.order c.args.words.now, c.told-words) in
    rw e (search rules)

pub returns-then-at-ne0-2-clause-err : goal.returns-then-at-ne0-2-clause-err
unfolding store_words_of written overwritten
returns-then-at-ne0-2-clause-err c =
    let e : length (words_bytes c.args.order c.args.words.now) ≡ 64 = omega (arith, length_words_bytes c.args.order c.args.words.now, c.told-words) in
    rw e (search rules)
