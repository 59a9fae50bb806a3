use Rattle.ps_store.proofs.Settling.{array_stays, string_stays, dict_stays, value_kept}
use Rattle.ps_store.proofs.laws.closed_objects_stay.Goals as goal

pub returns : goal.returns
returns c = record { array = array_stays; string = string_stays; dict = dict_stays; value = value_kept }
