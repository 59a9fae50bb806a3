use Rattle.std.proofs.Common.{refl}
use Rattle.ps_tables.proofs.Arrays.{array_made}
use Rattle.ps_tables.proofs.Copies.{copies_all}
use Rattle.ps_tables.proofs.Makers.{leaves}
use Rattle.ps_tables.proofs.laws.dictionaries_are_made.Goals as goal

pub returns : goal.returns
returns c = record {
  made = λ s ds m vs o items under is. leaves s ds is m vs o items under;
  again = λ s ds room fields keys vs d o items under is. copies_all s ds is room fields keys vs d o items under;
  array = λ s ds word dict t fields count size total o items under is means has few found times units stack nested. array_made s ds is under count size total t found times o stack word dict fields items means has few units nested;
  array_of = refl;
  pointer = λ dict fields. refl;
  structure = λ dict fields. refl;
  text = λ dict fields. refl;
  object = λ dict fields. refl;
  object_symbol = refl;
  symbol = λ dict fields. refl;
  function_symbol = λ dict fields. refl;
  point = refl;
  function = refl;
  unit = refl;
}
