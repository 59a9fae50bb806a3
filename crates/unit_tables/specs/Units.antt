-- What the deferred text of a unit leaves.
use Rattle.std.specs.Prelude.{◌≡◌, ◌<◌, ◌≤◌, ℕ, Option, None, false, List, [], ◌∷◌, length, codes}
use Rattle.obj_file.specs.declared.object.FunctionRow.{FunctionRow as Placed}
use Rattle.c_tree.specs.declared.rows.Program.{Program}
use Rattle.c_tree.specs.declared.rows.UnitRow.{UnitRow}
use Rattle.ps_store.specs.declared.object.Part.TheVariants.{Table}
use Rattle.ps_store.specs.declared.object.Mark.{Mark}
use Rattle.ps_store.specs.declared.object.PsObj.{PsObj}
use Rattle.ps_store.specs.declared.object.PsObj.TheVariants.{Array}
use Rattle.ps_store.specs.declared.object.ArrayId.{ArrayId}
use Rattle.ps_store.specs.declared.object.DictId.{DictId}
use Rattle.ps_store.specs.declared.object.StringId.{StringId}
use Rattle.ps_store.specs.StoreState.{StoreState}
use Rattle.ps_step.specs.Keys.{named}
use Rattle.ps_step.specs.declared.item.Item.TheVariants.{Text}
use Rattle.ps_run.specs.Step.{Ended, step}
use Rattle.ps_text.specs.Grown.{IsArray}
use Rattle.ps_terms.specs.Stands.{core}
use Rattle.ps_tables.specs.Taken.{Takes}
use Rattle.ps_tables.specs.Making.{IsMaking}
use Rattle.ps_tables.specs.Later.{Later}
use Rattle.ps_tables.specs.Senses.{HaveSenses}
use Rattle.ps_tables.specs.WordsKnown.{word_senses}
use Rattle.unit_tables.specs.Running.{HasObjects, HasStructs}
use Rattle.unit_tables.specs.Functions.{function_rows, AreFunctions}

-- The state in which a unit's text is run: in the table's part, with the words of the table and its static objects. There are not fewer dictionaries on the stack than the base has.
pub record Furnished (p : Program) (s : StoreState) (ds : List DictId) : Type 0 where
  pub making : IsMaking s ds
  pub have : HaveSenses s ds word_senses
  pub no_kind : named s ds (codes "kind") ≡ None
  pub no_tag : named s ds (codes "tag") ≡ None
  pub structs : HasStructs s ds p.defs
  pub listed : HasObjects s ds (length p.objects)
  pub few_dicts : length ds < 64
  pub base : length s.base ≤ length ds

-- a store that is closed, with these dictionaries as the base and a top; objects are made in the table's part
abbrev pub closed_store : StoreState → Mark → List DictId → Option DictId → StoreState
closed_store s closed base top = record { table = s.table; command = s.command; part = Table; closed = closed; base = base; top = top }

-- In so many steps, which ask nothing of a dialect and raise no error, the text leads to its end, and leaves one array of the unit's functions and nothing
-- else; so many units are made at most, and what was there is as it was.
pub record LeavesFunctions (p : Program) (fs : List Placed) (u : UnitRow) (steps made : ℕ) (s : StoreState) (ds : List DictId) (t : StringId) (at : ℕ) : Type 0 where
  pub store : StoreState
  pub array : ArrayId
  pub items : List PsObj
  pub to : ℕ
  pub holds : IsArray store array items
  pub are : AreFunctions p fs store items (function_rows p fs u.functions)
  pub later : Later made s store
  pub takes : Takes steps (core s ds [] (Text t at ∷ [])) (core store ds (Array array false ∷ []) (Text t to ∷ []))
  pub ends : step (core store ds (Array array false ∷ []) (Text t to ∷ [])) ≡ Ended (core store ds (Array array false ∷ []) [])
