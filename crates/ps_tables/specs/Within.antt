-- What a program may cost whose table runs, and what is known of its types and names.
use Rattle.std.specs.Prelude.{◌+◌, ◌≤◌, length}
use Rattle.std.specs.List.{AllByRecursion}
use Rattle.c_tree.specs.declared.types.StructDef.{StructDef}
use Rattle.c_tree.specs.declared.rows.Program.{Program}
use Rattle.c_tree.specs.declared.rows.ObjectRow.{ObjectRow}
use Rattle.ps_scan.specs.Grammar.{AllRegular}
use Rattle.ps_print.specs.Loaded.{loaded}
use Rattle.ps_emit.specs.Bounds.{cost_of, units_of}
use Rattle.ps_tables.specs.Runnable.{RunsType, RunsRow}

-- The text has at most 16,777,216 bytes; the units, with those of the prelude, are within the store's limit; and the steps are fewer than a run's limit. There are not too many structs, members, static objects and strings for the stack of operands.
pub record IsWithin (p : Program) : Type 0 where
  pub bytes : (cost_of p).bytes ≤ 16777216
  pub units : loaded.store.table.units + loaded.store.command.units + units_of p ≤ 8000000
  pub steps : (cost_of p).steps ≤ 9900000
  pub structs : length p.defs ≤ 40000
  pub members : AllByRecursion (λ (d : StructDef). length d.members ≤ 40000) p.defs
  pub objects : length p.objects + length p.strings ≤ 40000

-- types run, and tags are words
pub record HasTypes (p : Program) : Type 0 where
  pub structs : AllByRecursion (RunsRow p.defs) p.defs
  pub objects : AllByRecursion (λ (o : ObjectRow). RunsType p.defs o.ctype) p.objects
  pub tags : AllByRecursion (λ (d : StructDef). AllRegular d.tag) p.defs
