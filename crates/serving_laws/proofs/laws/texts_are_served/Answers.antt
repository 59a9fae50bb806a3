use Rattle.serving_laws.proofs.Texts.{texts_served}
use Rattle.serving_laws.proofs.laws.texts_are_served.Goals as goal

pub returns : goal.returns
returns c = λ sc t names e s ds o items i d are plain scalar room none is good few left. texts_served sc t names e s ds o items i d are plain scalar room none is good few left
