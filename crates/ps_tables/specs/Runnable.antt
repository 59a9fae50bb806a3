-- What a program keeps to whose table runs without an error.
use Rattle.std.specs.Prelude.{◌≡◌, ℕ, suc, ◌+◌, ◌<◌, ◌≤◌, ◌^◌, List, length}
use Rattle.std.specs.List.{AllByRecursion}
use Rattle.obj_file.specs.declared.object.FunctionRow.{FunctionRow}
use Rattle.c_tree.specs.declared.types.CType.{CType}
use Rattle.c_tree.specs.declared.types.CType.TheVariants.{Void, Pointer', Array', Struct}
use Rattle.c_tree.specs.declared.types.StructDef.{StructDef}
use Rattle.c_tree.specs.declared.types.Member.{Member}
use Rattle.c_tree.specs.declared.rows.Program.{Program}
use Rattle.c_tree.specs.declared.rows.UnitRow.{UnitRow}
use Rattle.c_tree.specs.declared.rows.ObjectRow.{ObjectRow}
use Rattle.c_tree.specs.Layout.{size_of}
use Rattle.ps_scan.specs.Grammar.{AllRegular}
use Rattle.ps_text.specs.Code.{render}
use Rattle.ps_emit.specs.declared.placement.Placement.{Placement}
use Rattle.ps_emit.specs.Functions.{deferred}
use Rattle.ps_emit.specs.Places.{object_label}

abbrev pub IsItem : CType → Type 0
IsItem Void = ⊥
IsItem t = Unit {0}

-- Of a type and each that it points to or holds: a struct is one of the program's, and an array has items of some type and fewer than 2^31 bytes.
abbrev pub RunsType : List StructDef → CType → Type 0
RunsType defs (Pointer' _ t) = RunsType defs t
RunsType defs (Array' b t n) = RunsType defs t × IsItem t × (n < 2 ^ 31) × (size_of defs (Array' b t n) < 2 ^ 31)
RunsType defs (Struct s) = s < length defs
RunsType defs t = Unit {0}

-- a struct's size is an integer of the dialect, and the types of its members run
abbrev pub RunsRow : List StructDef → StructDef → Type 0
RunsRow defs d = (d.size < 2 ^ 31) × AllByRecursion (λ m. RunsType defs m.ctype) d.members

pub record RunsMember (defs : List StructDef) (m : Member) : Type 0 where
  pub name : length m.name ≤ 16777216
  pub at : m.at < 2 ^ 32
  pub ctype : RunsType defs m.ctype

pub record RunsStruct (defs : List StructDef) (d : StructDef) : Type 0 where
  pub regular : AllRegular d.tag
  pub short : length d.tag ≤ 127
  pub size : d.size < 2 ^ 31
  pub few : length d.members ≤ 90000
  pub members : AllByRecursion (RunsMember defs) d.members

pub record RunsObject (defs : List StructDef) (us : List UnitRow) (o : ObjectRow) : Type 0 where
  pub name : length o.name ≤ 16777216
  pub label : length (object_label us o) ≤ 16777216
  pub ctype : RunsType defs o.ctype

pub record RunsUnit (p : Program) (fs : List FunctionRow) (u : UnitRow) : Type 0 where
  pub file : length u.file ≤ 16777216
  pub functions : length (render (deferred p fs u)) ≤ 16777216

-- The rows of a program and of its placement, and how many there are.
pub record Runnable (p : Program) (at : Placement) : Type 0 where
  pub structs : AllByRecursion (RunsStruct p.defs) p.defs
  pub objects : AllByRecursion (RunsObject p.defs p.units) p.objects
  pub strings : AllByRecursion (λ t. length t < 2 ^ 30) p.strings
  pub anchors : AllByRecursion (λ a. a.1 < 2 ^ 32) at.anchors
  pub units : AllByRecursion (RunsUnit p at.functions) p.units
  pub few_structs : length p.defs ≤ 40000
  pub few_objects : length p.objects + length p.strings ≤ 90000
  pub few_anchors : length at.anchors ≤ 40000
  pub few_units : length p.units ≤ 90000
