use Rattle.c_tokens.proofs.NamedPrograms.{programs_named}
use Rattle.c_tokens.proofs.laws.names_are_identifiers.Goals as goal

pub returns : goal.returns
returns c names us p texts checked = programs_named names us p texts checked
