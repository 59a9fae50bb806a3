use Rattle.ps_store.proofs.Extending.{extends_same, extends_on, array_there, dict_there, string_there}
use Rattle.ps_store.proofs.laws.held_objects_stay.Goals as goal

pub returns : goal.returns
returns c = record { same = extends_same; on = extends_on; array = array_there; dict = dict_there; string = string_there }
