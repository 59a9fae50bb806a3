-- How short the names are of a program that is placed, and what deferred texts count.
use Rattle.std.specs.Prelude.{◌≡◌, ℕ, ◌+◌, ◌≤◌, List, [], ◌∷◌, length, slice_get}
use Rattle.std.specs.List.{AllByRecursion}
use Rattle.obj_file.specs.declared.object.FunctionRow.{FunctionRow}
use Rattle.c_tree.specs.declared.types.StructDef.{StructDef}
use Rattle.c_tree.specs.declared.types.Member.{Member}
use Rattle.c_tree.specs.declared.rows.Program.{Program}
use Rattle.c_tree.specs.declared.rows.UnitRow.{UnitRow}
use Rattle.c_tree.specs.declared.rows.ObjectRow.{ObjectRow}
use Rattle.ps_store.specs.Store.{text_units}
use Rattle.ps_text.specs.Code.{render}
use Rattle.ps_emit.specs.declared.placement.Placement.{Placement}
use Rattle.ps_emit.specs.Functions.{deferred}
use Rattle.ps_emit.specs.Places.{file_in}

abbrev pub IsShortMember : Member → Type 0
IsShortMember m = length m.name ≤ 63

pub record IsShortStruct (d : StructDef) : Type 0 where
  pub tag : length d.tag ≤ 63
  pub members : AllByRecursion IsShortMember d.members

pub record IsShortObject (us : List UnitRow) (o : ObjectRow) : Type 0 where
  pub name : length o.name ≤ 63
  pub file : length (file_in (slice_get us o.unit)) ≤ 255

abbrev pub IsShortUnit : UnitRow → Type 0
IsShortUnit u = length u.file ≤ 255

-- names have at most 63 bytes, and files' names 255; each static object and each string has an address, and there are not too many
pub record IsShort (p : Program) (at : Placement) : Type 0 where
  pub structs : AllByRecursion IsShortStruct p.defs
  pub objects : AllByRecursion (IsShortObject p.units) p.objects
  pub units : AllByRecursion IsShortUnit p.units
  pub placed : length at.anchors ≡ length p.objects + length p.strings
  pub few : length p.objects + length p.strings ≤ 90000

-- the units of the deferred texts
abbrev pub deferred_units : Program → List FunctionRow → List UnitRow → ℕ
deferred_units p fs [] = 0
deferred_units p fs (u ∷ us) = text_units (render (deferred p fs u)) + deferred_units p fs us
