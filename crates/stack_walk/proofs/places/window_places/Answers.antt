use Rattle.std.proofs.Common.{◌≡◌, ◌∙◌, refl, sym}
use Rattle.stack_walk.proofs.Arrays.{window_is, outs_are}
use Rattle.stack_walk.proofs.places.window_places.Goals as goal

pub returns : goal.returns
returns c = c.set_words.ensures ∙ window_is c.args.at c.args.inner.now _ c.told-inner (outs_are c.args.inner.now c.copy_from_slice.new.self c.told-inner c.copy_from_slice.ensures.after)
