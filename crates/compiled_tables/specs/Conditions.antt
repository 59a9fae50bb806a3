-- What is asked of sources, of their program and of where it is placed, for a table that runs. Each is said of the program or of the linker's rows.
use Rattle.std.specs.Prelude.{ℕ, ◌+◌, ◌<◌, ◌≤◌, ◌^◌, List, length, Some}
use Rattle.std.specs.List.{AllByRecursion}
use Rattle.c_tree.specs.declared.rows.Program.{Program}
use Rattle.c_tree.specs.declared.rows.UnitRow.{UnitRow}
use Rattle.obj_file.specs.declared.object.FunctionRow.{FunctionRow}
use Rattle.ps_print.specs.Loaded.{loaded}
use Rattle.ps_print.specs.Things.{steps_within}
use Rattle.ps_emit.specs.declared.placement.Placement.{Placement}
use Rattle.ps_emit.specs.Bounds.{cost_of, units_of}
use Rattle.ps_emit.specs.Lengths.{IsWord, IsInteger}
use Rattle.ps_emit.specs.Table.{table_text}
use Rattle.ps_store.specs.Store.{text_units}
use Rattle.ps_tables.specs.Tabled.{table_made, table_steps}
use Rattle.unit_tables.specs.Symbols.{RunsPlace}
use Rattle.unit_tables.specs.Conditions.{RunsUnits, FunctionsFollowed}
use Rattle.unit_tables.specs.Bounded.{units_steps, units_made}

-- the names of files have at most 255 bytes
abbrev pub AreFileNames : List (List ℕ) → Type 0
AreFileNames names = AllByRecursion (λ n. length n ≤ 255) names

-- The frame of a function is a word, it saves at most 9 registers, and each of these and of its locals has a register or an offset that is an integer of the dialect.
pub record IsFramed (row : FunctionRow) : Type 0 where
  pub frame : IsWord row.frame
  pub few_saved : length row.saved ≤ 9
  pub saved : AllByRecursion (λ s. (s.0 < 2 ^ 31) × IsInteger s.1) row.saved
  pub locals : AllByRecursion (λ l. RunsPlace (Some l)) row.locals

-- What is counted for the items of a program is within the limits: 16,777,216 bytes of text; with the prelude fewer than seven tenths of the units of a store; and
-- with the prelude's 75 steps, and those that the printer of a type of at most 63 levels takes, fewer than 9,900,000 of the 10,000,000 that a command may take.
pub record IsAffordable (p : Program) : Type 0 where
  pub bytes : (cost_of p).bytes ≤ 16777216
  pub units : loaded.store.table.units + loaded.store.command.units + units_of p < 5600000
  pub steps : 75 + (cost_of p).steps + steps_within 63 < 9900000

-- The units of a program run where it is placed. With each of them used, the table is within the limits that are counted for the program: in bytes of its text, in
-- units, with the prelude's, and in steps, with the prelude's and those of a printer.
pub record HasRunningUnits (p : Program) (at : Placement) : Type 0 where
  pub runs : RunsUnits p at.functions
  pub followed : AllByRecursion (λ (u : UnitRow). FunctionsFollowed p at.functions 0 u.functions × (length u.functions ≤ 40000)) p.units
  pub bytes : length (table_text p at) ≤ 16777216
  pub units : loaded.store.table.units + loaded.store.command.units + (text_units (table_text p at) + table_made p at + units_made p at.functions p.units) < 5600000
  pub steps : 75 + (table_steps p at + units_steps p at.functions p.units) + steps_within 63 < 9900000
