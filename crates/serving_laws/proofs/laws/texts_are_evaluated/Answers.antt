use Rattle.serving_laws.proofs.Texts.{texts_evaluated}
use Rattle.serving_laws.proofs.laws.texts_are_evaluated.Goals as goal

pub returns : goal.returns
returns c = λ sc s cell own names e o items i out raw spaces whole are memory is scalar room none text good few left.
    texts_evaluated sc s cell own names e o items i out raw spaces whole are memory is scalar room none text good few left
