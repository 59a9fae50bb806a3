-- The state in which a table's text runs: behind the prelude.
use Rattle.std.specs.Prelude.{ℕ, Option, Some, None, List, [], ◌∷◌, codes}
use Rattle.ps_store.specs.declared.object.PsObj.{PsObj}
use Rattle.ps_store.specs.declared.object.PsObj.TheVariants.{Null}
use Rattle.ps_store.specs.declared.object.DictId.{DictId}
use Rattle.ps_store.specs.StoreState.{StoreState}
use Rattle.ps_step.specs.Keys.{named}
use Rattle.ps_print.specs.Loaded.{loaded}
use Rattle.ps_tables.specs.Defined.{in_table}
use Rattle.ps_tables.specs.WordsKnown.{Printers}

-- the prelude's dictionary, and the one on top of it
abbrev pub prelude_dict : List DictId
prelude_dict = in_table 0 ∷ []

abbrev pub or_null : Option PsObj → PsObj
or_null (Some x) = x
or_null None = Null

abbrev pub printer_at : List ℕ → PsObj
printer_at name = or_null (named loaded.store (in_table 1 ∷ prelude_dict) name)

-- the printers that the prelude leaves
abbrev pub loaded_printers : Printers
loaded_printers = record {
  int = printer_at (codes "PrintInt");
  unsigned = printer_at (codes "PrintUnsigned");
  char = printer_at (codes "PrintChar");
  pointer = printer_at (codes "PrintPointer");
  array = printer_at (codes "PrintArray");
  struct = printer_at (codes "PrintStruct");
}
