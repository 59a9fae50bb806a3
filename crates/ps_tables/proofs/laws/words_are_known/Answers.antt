use Rattle.ps_tables.proofs.WordsKnown.{words_reached}
use Rattle.ps_tables.proofs.laws.words_are_known.Goals as goal

pub returns : goal.returns
returns c = λ index n at ds t under post p k s fits marks knowing few units here. words_reached index ds t under fits post p k n s at marks knowing few units here
