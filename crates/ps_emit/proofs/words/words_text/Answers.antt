use Rattle.std.proofs.Common.{refl}
use Rattle.std.specs.Fmt.{digits}
use Rattle.ps_emit.proofs.words.words_text.Goals as goal

pub returns : goal.returns
unfolding digits
returns c = refl
