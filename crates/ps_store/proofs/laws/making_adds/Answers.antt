use Rattle.ps_store.proofs.Extending.{array_made, dict_made, text_made}
use Rattle.ps_store.proofs.laws.making_adds.Goals as goal

pub returns : goal.returns
returns c = record { array = array_made; dict = dict_made; text = text_made }
