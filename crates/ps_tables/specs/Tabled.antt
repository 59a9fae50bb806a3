-- What the text of a table leaves.
use Rattle.std.specs.Prelude.{◌≡◌, ℕ, pos, suc, ◌+◌, ◌*◌, false, Some, Ok, List, [], ◌∷◌, length, codes}
use Rattle.obj_file.specs.declared.object.FunctionRow.{FunctionRow}
use Rattle.c_tree.specs.declared.types.StructDef.{StructDef}
use Rattle.c_tree.specs.declared.types.Member.{Member}
use Rattle.c_tree.specs.declared.rows.Program.{Program}
use Rattle.c_tree.specs.declared.rows.UnitRow.{UnitRow}
use Rattle.c_tree.specs.declared.rows.ObjectRow.{ObjectRow}
use Rattle.ps_store.specs.declared.object.PsObj.{PsObj}
use Rattle.ps_store.specs.declared.object.PsObj.TheVariants.{Int, Str, Array, Dict}
use Rattle.ps_store.specs.declared.object.ArrayId.{ArrayId}
use Rattle.ps_store.specs.declared.object.DictId.{DictId}
use Rattle.ps_store.specs.declared.object.StringId.{StringId}
use Rattle.ps_store.specs.declared.key.Key.TheVariants.{Name as NameKey}
use Rattle.ps_store.specs.Entries.{value_at}
use Rattle.ps_store.specs.StoreState.{StoreState}
use Rattle.ps_store.specs.Store.{entries_of, text_units}
use Rattle.ps_step.specs.declared.item.Item.{Item}
use Rattle.ps_step.specs.declared.item.Item.TheVariants.{Text}
use Rattle.ps_step.specs.declared.machine.PsCore.{PsCore}
use Rattle.ps_run.specs.Step.{Ended, step}
use Rattle.ps_run.specs.Runs.{Answer, Operates, Runs}
use Rattle.ps_text.specs.Code.{render}
use Rattle.ps_text.specs.Grown.{IsString}
use Rattle.ps_terms.specs.Stands.{core}
use Rattle.ps_terms.specs.Printing.{further}
use Rattle.ps_emit.specs.declared.placement.Placement.{Placement}
use Rattle.ps_emit.specs.Terms.{anchor_name}
use Rattle.ps_emit.specs.Places.{object_label, string_label}
use Rattle.ps_emit.specs.Functions.{deferred}
use Rattle.ps_emit.specs.Table.{target_name}
use Rattle.ps_tables.specs.Taken.{Takes}
use Rattle.ps_tables.specs.Later.{StandsAt}
use Rattle.ps_tables.specs.Types.{written, type_cost, type_steps}
use Rattle.ps_tables.specs.Defined.{in_table}
use Rattle.ps_tables.specs.Reached.{Owned}

-- ---- units and steps of the parts

-- a struct's array of members
abbrev pub members_made : List StructDef → List Member → ℕ
members_made defs [] = 0
members_made defs (m ∷ ms) = text_units m.name + type_cost (written defs m.ctype) + 8 + members_made defs ms

abbrev pub members_steps : List StructDef → List Member → ℕ
members_steps defs [] = 0
members_steps defs (m ∷ ms) = 4 + type_steps (written defs m.ctype) + members_steps defs ms

-- the structs, and then their members
abbrev pub structs_made : List StructDef → ℕ
structs_made [] = 0
structs_made (d ∷ ds) = text_units d.tag + 7 + structs_made ds

abbrev pub filling_made : List StructDef → List StructDef → ℕ
filling_made defs [] = 0
filling_made defs (d ∷ ds) = 14 + members_made defs d.members + length d.members + filling_made defs ds

abbrev pub filling_steps : List StructDef → List StructDef → ℕ
filling_steps defs [] = 0
filling_steps defs (d ∷ ds) = 7 + members_steps defs d.members + filling_steps defs ds

-- static objects and strings, each from a number on
abbrev pub strings_made : (k anchor : ℕ) → List (List ℕ) → ℕ
strings_made k anchor [] = 0
strings_made k anchor (t ∷ ts) = text_units (string_label k) + text_units (anchor_name anchor) + 27 + strings_made (suc k) (suc anchor) ts

abbrev pub objects_made : List StructDef → List UnitRow → ℕ → List ObjectRow → ℕ
objects_made defs us k [] = 0
objects_made defs us k (o ∷ os) =
    text_units o.name + text_units (object_label us o) + text_units (anchor_name k) + type_cost (written defs o.ctype) + 18 + objects_made defs us (suc k) os

abbrev pub objects_steps : List StructDef → List ObjectRow → ℕ
objects_steps defs [] = 0
objects_steps defs (o ∷ os) = 33 + type_steps (written defs o.ctype) + objects_steps defs os

abbrev pub object_units : Program → ℕ
object_units q = 10 + (length q.objects + length q.strings) + objects_made q.defs q.units 0 q.objects + strings_made 0 (length q.objects) q.strings

abbrev pub object_steps : Program → ℕ
object_steps q = 4 + objects_steps q.defs q.objects + 56 * length q.strings

-- the dictionary that is left
abbrev pub anchors_made : ℕ → List (List ℕ × ℕ) → ℕ
anchors_made k [] = 0
anchors_made k (a ∷ rows) = text_units (anchor_name k) + anchors_made (suc k) rows

abbrev pub tags_made : List StructDef → ℕ
tags_made [] = 0
tags_made (d ∷ ds) = text_units d.tag + 4 + tags_made ds

abbrev pub units_made : Program → List FunctionRow → List UnitRow → ℕ
units_made p fs [] = 0
units_made p fs (u ∷ us) = text_units u.file + text_units (render (deferred p fs u)) + 7 + units_made p fs us

abbrev pub top_made : Program → Placement → ℕ
top_made p at = 42 + (anchors_made 0 at.anchors + length at.anchors) + (tags_made p.defs + length p.defs) + (units_made p at.functions p.units + length p.units)

abbrev pub top_steps : Program → Placement → ℕ
top_steps p at = 17 + 2 * length at.anchors + 4 * length p.defs + 18 * length p.units

-- The units that a table's text makes at most where it is run, and the steps that it takes; the text itself is one string more.
abbrev pub table_made : Program → Placement → ℕ
table_made p at = 796 + (10 + length p.defs + structs_made p.defs) + filling_made p.defs p.defs + object_units p + top_made p at

abbrev pub table_steps : Program → Placement → ℕ
table_steps p at = 139 + (4 + 19 * length p.defs) + filling_steps p.defs p.defs + object_steps p + top_steps p at

-- ---- the dictionary

-- a version, a target, anchors, structs and units
pub record IsTop (s : StoreState) (d : DictId) (target : ℕ) : Type 0 where
  pub version : value_at (entries_of s d) (NameKey (codes "ldb")) ≡ Some (Int (pos 1))
  pub name : StringId
  pub is_target : value_at (entries_of s d) (NameKey (codes "target")) ≡ Some (Str name false)
  pub told : IsString s name (target_name target)
  pub anchors : DictId
  pub has_anchors : value_at (entries_of s d) (NameKey (codes "anchors")) ≡ Some (Dict anchors)
  pub structs : DictId
  pub has_structs : value_at (entries_of s d) (NameKey (codes "structs")) ≡ Some (Dict structs)
  pub units : ArrayId
  pub has_units : value_at (entries_of s d) (NameKey (codes "units")) ≡ Some (Array units false)

-- In so many steps, which ask nothing of a dialect and raise no error, the text leads to its end, and leaves one dictionary, which is the top of a table,
-- and nothing else; so many units are made at most.
pub record LeavesTop (index : ℕ) (ds : List DictId) (t : StringId) (steps made target : ℕ) (s : StoreState) (at : ℕ) : Type 0 where
  pub store : StoreState
  pub top : DictId
  pub to : ℕ
  pub is_top : IsTop store top target
  pub owned : Owned made s store
  pub takes : Takes steps (core s (in_table index ∷ ds) [] (Text t at ∷ [])) (core store (in_table index ∷ ds) (Dict top ∷ []) (Text t to ∷ []))
  pub ends : step (core store (in_table index ∷ ds) (Dict top ∷ []) (Text t to ∷ [])) ≡ Ended (core store (in_table index ∷ ds) (Dict top ∷ []) [])

-- A run ended without an error, with so many steps left, where the text of a table ends that leaves its top; the dialect is as before.
pub record EndsAtTop {D : Type 0} (index : ℕ) (ds : List DictId) (t : StringId) (steps made target : ℕ) (s : StoreState) (left : ℕ) (d : D) (r : Answer) (m : ℕ) (d' : D) (c' : PsCore) : Type 0 where
  pub leaves : LeavesTop index ds t steps made target s 0
  pub answer : r ≡ Ok tt
  pub remains : m ≡ left
  pub dialect : d' ≡ d
  pub state : c' ≡ core leaves.store (in_table index ∷ ds) (Dict leaves.top ∷ []) []

-- There is such a run.
pub record RunsToTop {D : Type 0} (Op : Operates D) (index : ℕ) (ds : List DictId) (t : StringId) (steps made target : ℕ) (s : StoreState) (left : ℕ) (d : D) (c : PsCore) : Type 0 where
  pub leaves : LeavesTop index ds t steps made target s 0
  pub runs : Runs Op (further (suc steps) left) d c (Ok tt) left d (core leaves.store (in_table index ∷ ds) (Dict leaves.top ∷ []) [])
