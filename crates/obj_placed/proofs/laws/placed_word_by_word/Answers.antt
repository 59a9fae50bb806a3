use Rattle.obj_placed.proofs.WordByWord.{text_patched, statics_patched}
use Rattle.obj_placed.proofs.laws.placed_word_by_word.Goals as goal

pub returns-clause-text : goal.returns-clause-text
returns-clause-text c = text_patched

pub returns-clause-statics : goal.returns-clause-statics
returns-clause-statics c = statics_patched
