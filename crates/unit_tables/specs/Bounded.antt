-- What the units of a program take together when each is run once.
use Rattle.std.specs.Prelude.{ℕ, ◌+◌, List, [], ◌∷◌}
use Rattle.obj_file.specs.declared.object.FunctionRow.{FunctionRow as Placed}
use Rattle.c_tree.specs.declared.rows.Program.{Program}
use Rattle.c_tree.specs.declared.rows.UnitRow.{UnitRow}
use Rattle.unit_tables.specs.Functions.{unit_steps, unit_made}

module _ (p : Program) (fs : List Placed) where
  abbrev pub units_steps : List UnitRow → ℕ
  units_steps [] = 0
  units_steps (u ∷ us) = unit_steps p fs u + units_steps us

  abbrev pub units_made : List UnitRow → ℕ
  units_made [] = 0
  units_made (u ∷ us) = unit_made p fs u + units_made us
