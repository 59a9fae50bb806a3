-- The deferred entry of a unit when its text was run.
use Rattle.std.specs.Prelude.{◌≡◌, ◌≤◌, ◌+◌, ℕ, false, bytes_eq, Result, Ok, List, codes}
use Rattle.obj_file.specs.declared.object.FunctionRow.{FunctionRow as Placed}
use Rattle.c_tree.specs.declared.rows.Program.{Program}
use Rattle.c_tree.specs.declared.rows.UnitRow.{UnitRow}
use Rattle.ps_store.specs.declared.object.PsObj.{PsObj}
use Rattle.ps_store.specs.declared.object.PsObj.TheVariants.{Array}
use Rattle.ps_store.specs.declared.object.ArrayId.{ArrayId}
use Rattle.ps_store.specs.StoreState.{StoreState}
use Rattle.ps_store.specs.declared.key.Key.TheVariants.{Name as NameKey}
use Rattle.ps_store.specs.Cut.{mark_of}
use Rattle.ps_store.specs.Entries.{value_at}
use Rattle.ps_store.specs.Store.{entries_of}
use Rattle.ps_step.specs.declared.fault.PsFault.{PsFault}
use Rattle.ps_step.specs.declared.machine.PsCore.{PsCore}
use Rattle.ps_text.specs.Grown.{IsArray}
use Rattle.ps_tables.specs.Later.{IsThere}
use Rattle.ps_tables.specs.Defined.{in_table}
use Rattle.unit_tables.specs.Kept.{Elsewhere}
use Rattle.unit_tables.specs.Shown.{Has}
use Rattle.unit_tables.specs.Functions.{function_rows, AreFunctions, unit_made}

-- Its functions are an array of those of the unit. What was there before is as it was but for that entry.
pub record HasFunctions (p : Program) (fs : List Placed) (u : UnitRow) (s s' : StoreState) (index : ℕ) (x : PsObj) : Type 0 where
  pub array : ArrayId
  pub is : x ≡ Array array false
  pub has : Has s' (in_table index) (codes "functions") x
  pub items : List PsObj
  pub holds : IsArray s' array items
  pub are : AreFunctions p fs s' items (function_rows p fs u.functions)
  pub elsewhere : Elsewhere (in_table index) s s'
  pub own : IsThere s' (in_table index)
  pub names : (name : List ℕ) → bytes_eq name (codes "functions") ≡ false → value_at (entries_of s' (in_table index)) (NameKey name) ≡ value_at (entries_of s (in_table index)) (NameKey name)
  pub base : s'.base ≡ s.base
  pub closed : s'.closed ≡ mark_of s'.table
  pub counted : s'.table.units + s'.command.units ≤ s.table.units + s.command.units + unit_made p fs u

-- A use of the entry gave its functions, with so many steps left; the dialect is as before.
pub record Gives {D : Type 0} (p : Program) (fs : List Placed) (u : UnitRow) (c : PsCore) (index left : ℕ) (d : D) (result : Result PsObj PsFault) (m : ℕ) (d' : D) (c' : PsCore) : Type 0 where
  pub object : PsObj
  pub answer : result ≡ Ok object
  pub remains : m ≡ left
  pub dialect : d' ≡ d
  pub functions : HasFunctions p fs u c.store c'.store index object
