use Rattle.ps_tables.proofs.Definitions.{defines}
use Rattle.ps_tables.proofs.laws.definitions_are_made.Goals as goal

pub returns : goal.returns
returns c = λ i ds t under post name value k s o at fits is unclosed few named one knows room stack units here.
    defines i ds t under fits post name value k s o at is unclosed few named one knows room stack units here
