-- What the text of a table leaves beside its top: the words and arrays that its units' functions are run with.
use Rattle.std.specs.Prelude.{◌≡◌, ℕ, ◌+◌, true, List, [], ◌∷◌, length, codes}
use Rattle.obj_file.specs.declared.object.FunctionRow.{FunctionRow}
use Rattle.c_tree.specs.declared.rows.Program.{Program}
use Rattle.c_tree.specs.declared.rows.UnitRow.{UnitRow}
use Rattle.ps_store.specs.declared.object.PsObj.{PsObj}
use Rattle.ps_store.specs.declared.object.PsObj.TheVariants.{Str, Dict}
use Rattle.ps_store.specs.declared.object.DictId.{DictId}
use Rattle.ps_store.specs.declared.object.StringId.{StringId}
use Rattle.ps_store.specs.StoreState.{StoreState}
use Rattle.ps_text.specs.Code.{render}
use Rattle.ps_text.specs.Grown.{IsArray, IsString}
use Rattle.ps_emit.specs.declared.placement.Placement.{Placement}
use Rattle.ps_emit.specs.Functions.{deferred}
use Rattle.ps_tables.specs.Making.{HasFields}
use Rattle.ps_tables.specs.Defined.{in_table}
use Rattle.ps_tables.specs.Senses.{Knowing}
use Rattle.ps_tables.specs.WordsKnown.{Printers}
use Rattle.ps_tables.specs.PartsKnown.{with_objects}
use Rattle.ps_tables.specs.Tabled.{table_made, table_steps, LeavesTop}

module _ (p : Program) (fs : List FunctionRow) where
  -- a dictionary of the table's part is a unit's, whose functions are still its deferred text
  pub record IsDeferred (u : UnitRow) (s : StoreState) (index : ℕ) (t : StringId) : Type 0 where
    pub file : PsObj
    pub fields : HasFields s (in_table index) ((codes "functions", Str t true) ∷ (codes "file", file) ∷ [])
    pub text : IsString s t (render (deferred p fs u))

  abbrev pub AreDeferred : StoreState → List PsObj → List UnitRow → Type 0
  AreDeferred s [] [] = Unit {0}
  AreDeferred s (x ∷ xs) (u ∷ us) = ((index : ℕ) × (t : StringId) × (x ≡ Dict (in_table index)) × IsDeferred u s index t) × AreDeferred s xs us
  AreDeferred s xs us = ⊥

-- The text leaves the top; the words have their senses in the store that is left, and the units are in the array of the top.
pub record LeavesTable (index : ℕ) (ds : List DictId) (t : StringId) (printers : Printers) (n : ℕ) (p : Program) (at : Placement) (s : StoreState) (from : ℕ) : Type 0 where
  pub leaves : LeavesTop index ds t (table_steps p at) (table_made p at) at.target s from
  pub knowing : Knowing leaves.store index ds n (with_objects printers (4 + length p.defs) (length p.objects) p.defs)
  pub units : List PsObj
  pub holds : IsArray leaves.store leaves.is_top.units units
  pub are : AreDeferred p at.functions leaves.store units p.units
