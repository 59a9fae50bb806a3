use Rattle.std.proofs.Common.{◌≡◌, refl, Some}
use Rattle.stack_walk.proofs.Arrays.{words_more, size_kept}
use Rattle.stack_walk.proofs.places.set_words.Goals as goal

pub loop-i-preserved : goal.loop-i-preserved
loop-i-preserved c =
    let i = c.loop-i.invariant in
    record {
      size = size_kept c.loop-i.places c.loop-i.i (Some c.loop-i.word) i.size;
      all = words_more c.loop-i.places c.loop-i.i c.loop-i.word _ _ c.loop-i-test.true i.size refl i.all;
    }
