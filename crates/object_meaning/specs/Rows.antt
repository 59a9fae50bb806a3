-- The rows of an object: what a debugger has to know of its functions, and its static objects.
use Rattle.std.specs.Prelude.{◌≡◌, ◌≢◌, ◌≤◌, ◌<◌, ◌⊎◌, ℕ, suc, ◌+◌, List, length, Some, slice_get}
use Rattle.obj_file.specs.declared.object.FunctionRow.{FunctionRow}
use Rattle.obj_file.specs.declared.object.StaticDef.{StaticDef}
use Rattle.slot_ir.specs.declared.code.SlotCode.{SlotCode}
use Rattle.slot_ir.specs.declared.code.SlotFunction.{SlotFunction}
use Rattle.slot_ir.specs.declared.code.SlotObject.{SlotObject}
use Rattle.flat_gen.specs.Layout.{layout}
use Rattle.flat_gen.specs.Codes.{flat_function}
use Rattle.gen_parts.specs.Rows.{local_places}
use Rattle.object_meaning.specs.Changes.{Target}

-- the row of a function: its frame, the registers that it saves, and where its locals lie, from the frame's base; its points in
-- its code, in the order of their places
pub record IsRow (t : Target) (c : SlotCode) (f : SlotFunction) (row : FunctionRow) : Type 0 where
  pub name : row.name ≡ f.name
  pub frame : row.frame ≡ (layout t.linkage f).frame
  pub saved : row.saved ≡ t.saved_by row.frame
  pub locals : row.locals ≡ local_places (flat_function t.linkage c f) 0 f.locals
  pub point_count : length row.points ≡ length f.points
  pub points_inside : (j a : ℕ) → slice_get row.points j ≡ Some a → (row.entry ≤ a) × (a < row.end)
  pub points_ascend : (j k place next a b : ℕ) → slice_get f.places j ≡ Some place → slice_get f.places k ≡ Some next → slice_get row.points j ≡ Some a → slice_get row.points k ≡ Some b
      → place < next → a < b
  pub points_apart : (j k a : ℕ) → slice_get row.points j ≡ Some a → slice_get row.points k ≡ Some a → j ≡ k

-- no two rows share a word of the text
abbrev pub AreDisjoint : List FunctionRow → Type 0
AreDisjoint rows = (j k : ℕ) (row other : FunctionRow) → j ≢ k → slice_get rows j ≡ Some row → slice_get rows k ≡ Some other → (row.end ≤ other.entry) ⊎ (other.end ≤ row.entry)

-- the static objects are those of the slot code and then its strings, each with a byte more
pub record HasStatics (c : SlotCode) (statics : List StaticDef) : Type 0 where
  pub count : length statics ≡ length c.objects + length c.strings
  pub objects : (j : ℕ) (s : StaticDef) (ob : SlotObject) → slice_get statics j ≡ Some s → slice_get c.objects j ≡ Some ob → length s.bytes ≡ ob.size
  pub strings : (k : ℕ) (s : StaticDef) (text : List ℕ) → slice_get statics (length c.objects + k) ≡ Some s → slice_get c.strings k ≡ Some text → length s.bytes ≡ suc (length text)
