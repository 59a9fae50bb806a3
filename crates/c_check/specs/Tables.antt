-- What the code's tables of a program are.
use Rattle.std.specs.Prelude.{◌≡◌, ◌≤◌, ◌<◌, ℕ, List, map, None, Result, Ok, Err}
use Rattle.c_tree.specs.declared.types.CType.{CType}
use Rattle.c_tree.specs.declared.rows.Program.{Program}
use Rattle.c_typing.specs.Plain.{plain}
use Rattle.c_linkage.specs.declared.definitions.Definition.{Definition}
use Rattle.c_linkage.specs.declared.state.State.{State as Standing}
use Rattle.c_linkage.specs.declared.state.FileFault.{FileFault}
use Rattle.c_linkage.specs.declared.state.FileFault.TheVariants as files
use Rattle.c_check.specs.declared.faults.CheckFault.{CheckFault}
use Rattle.c_check.specs.declared.faults.CheckFault.TheVariants as code
use Rattle.c_check.specs.declared.tables.Tables.{Tables as Kept}
use Rattle.c_check.specs.declared.tables.Rows.{Rows}
use Rattle.c_scope.specs.Here.{environment_of}
use Rattle.c_linkage.specs.Names.{defining}
use Rattle.c_file.specs.Files.{State}
use Rattle.c_file.specs.Standing.{Stands}
use Rattle.c_linkage.specs.Wanted.{started}
use Rattle.c_check.specs.Faulty.{fault_of, IsTold}
use Rattle.c_file.specs.Made.{Each, objects, object_type, room, IsObjectOf, IsSymbolOf, AreUnits, HasRows}
use Rattle.c_linkage.specs.Defined.{bodies_of}

-- the definitions and the types of a program's objects, and its functions with bodies
pub record IsFrom (s : Standing) (os bs : List Definition) (ts : List CType) (q : State) : Type 0 where
  pub here : environment_of s.here ≡ q.here
  pub names : s.names ≡ q.names
  pub others : s.others.items ≡ q.others
  pub starts : map started s.starts.items ≡ q.starts
  pub objects : map defining os ≡ objects q
  pub bodies : map defining bs ≡ bodies_of q.definitions
  pub types : map plain ts ≡ map (object_type q) (map defining os)

pub record AreTables (q : State) (t : Kept) : Type 0 where
  pub objects : Each (IsObjectOf q) (objects q) t.objects.items
  pub symbols : Each (IsSymbolOf q) q.here.names t.symbols.items

pub record AreAll (q : State) (names : List (List ℕ)) (r : Rows) : Type 0 where
  pub tables : AreTables q r.tables
  pub units : AreUnits q 0 names r.units.items
  pub strings : r.strings.items ≡ q.strings

-- what there is in place of the rows of a program
abbrev pub IsTooLarge : Standing → CheckFault → Type 0
IsTooLarge s code.TooBig = (n : ℕ) (q : State) → Stands n s q → 1048576 < room q
IsTooLarge s code.NoMemory = Unit {0}
IsTooLarge s _ = ⊥

abbrev pub AreRows : List (List ℕ) → Standing → Result Rows CheckFault → Type 0
AreRows names s (Ok r) = (n : ℕ) (q : State) → Stands n s q → s.unknown ≡ None → AreAll q names r × (room q ≤ 1048576)
AreRows names s (Err f) = IsTooLarge s f

abbrev pub IsMade : List (List ℕ) → Standing → Result Program CheckFault → Type 0
IsMade names s (Ok p) = (n : ℕ) (q : State) → Stands n s q → s.unknown ≡ None → HasRows q names p
IsMade names s (Err f) = IsTooLarge s f

-- the rows, or what there is in place of them
abbrev pub IsFinished : (units : ℕ) → List (List ℕ) → Standing → Result Program CheckFault → Type 0
IsFinished n names s (Ok p) = (q : State) → Stands n s q → (fault_of s q ≡ None) × HasRows q names p
IsFinished n names s (Err code.TooBig) = (q : State) → Stands n s q → (fault_of s q ≡ None) × (1048576 < room q)
IsFinished n names s (Err f) = (q : State) → Stands n s q → IsTold (fault_of s q) f

abbrev pub refused_by : FileFault → CheckFault
refused_by (files.Rule r u at) = code.Rule r u at
refused_by files.NoMemory = code.NoMemory
