-- The units of a table that its text came to, before and behind a use of them.
use Rattle.std.specs.Prelude.{◌≡◌, ℕ, List, reverse, Ok}
use Rattle.c_tree.specs.declared.rows.Program.{Program}
use Rattle.c_tree.specs.declared.rows.UnitRow.{UnitRow}
use Rattle.obj_file.specs.declared.object.FunctionRow.{FunctionRow as Placed}
use Rattle.ps_store.specs.declared.object.Part.TheVariants.{Table}
use Rattle.ps_store.specs.declared.object.PsObj.{PsObj}
use Rattle.ps_store.specs.StoreState.{StoreState}
use Rattle.ps_step.specs.declared.machine.PsCore.{PsCore}
use Rattle.ps_run.specs.Runs.{Answer}
use Rattle.ps_emit.specs.declared.placement.Placement.{Placement}
use Rattle.table_model.specs.Rows.{units_of}
use Rattle.ps_tables.specs.Left.{AreDeferred}
use Rattle.unit_tables.specs.Units.{Furnished}
use Rattle.unit_tables.specs.Settled.{HasFunctions}

-- The units of a store's table are those of a program, whose functions are still texts; and the store is such as these are run with.
pub record HasUnits (p : Program) (at : Placement) (s : StoreState) : Type 0 where
  pub furnished : Furnished p (record s { part = Table }) (reverse s.base)
  pub units : List PsObj
  pub listed : units_of s ≡ Ok units
  pub deferred : AreDeferred p at.functions s units p.units

-- The functions of a unit came to an array of them, with so many steps left.
pub record Comes (p : Program) (fs : List Placed) (u : UnitRow) (c : PsCore) (index left : ℕ) (answer : Answer) (left' : ℕ) (c' : PsCore) : Type 0 where
  pub answered : answer ≡ Ok tt
  pub remains : left' ≡ left
  pub object : PsObj
  pub functions : HasFunctions p fs u c.store c'.store index object
