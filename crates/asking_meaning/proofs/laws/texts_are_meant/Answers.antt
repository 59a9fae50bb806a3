use Rattle.asking_meaning.proofs.Texts.{ps_meant}
use Rattle.asking_meaning.proofs.laws.texts_are_meant.Goals as goal

pub returns : goal.returns
returns c = ps_meant
