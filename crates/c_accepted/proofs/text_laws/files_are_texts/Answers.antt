use Rattle.c_accepted.proofs.Texts.{texts}
use Rattle.c_accepted.proofs.text_laws.files_are_texts.Goals as goal

pub returns : goal.returns
returns c = λ at text ts externals h lexes unit. texts at text ts externals h lexes unit
