-- How the functions of a unit are made: in how many steps, and with how many units at most.
use Rattle.std.specs.Prelude.{ℕ, ℤ, ◌+◌, ◌*◌, Bool, true, false, codes, Option, Some, List, [], ◌∷◌, length, slice_get}
use Rattle.ldb_words.specs.Word.{signed}
use Rattle.obj_file.specs.declared.object.FunctionRow.{FunctionRow as Placed}
use Rattle.c_tree.specs.declared.rows.Program.{Program}
use Rattle.c_tree.specs.declared.rows.UnitRow.{UnitRow}
use Rattle.c_tree.specs.declared.rows.Function.{Function}
use Rattle.c_tree.specs.declared.rows.Point.{Point}
use Rattle.ps_store.specs.declared.object.PsObj.{PsObj}
use Rattle.ps_store.specs.declared.object.PsObj.TheVariants.{Bool as Truth}
use Rattle.ps_store.specs.StoreState.{StoreState}
use Rattle.ps_store.specs.Store.{text_units}
use Rattle.ps_emit.specs.Places.{homes}
use Rattle.ps_emit.specs.Functions.{made_in}
use Rattle.ps_tables.specs.Pieces.{Piece, End, Number, Chars, Value, Row}
use Rattle.ps_tables.specs.TablePieces.{saved}
use Rattle.unit_tables.specs.Shown.{IsFunction}
use Rattle.unit_tables.specs.Points.{point_rows, points_steps, points_made}

-- ---- what stands in front of the points

abbrev pub truth_word : Bool → List ℕ
truth_word true = codes "true"
truth_word false = codes "false"

abbrev pub saved_parts : List (ℕ × ℤ) → Piece
saved_parts [] = End
saved_parts (s ∷ ss) = saved s.0 s.1 (saved_parts ss)

abbrev pub front_parts : Function → Placed → Piece
front_parts f at =
    Chars f.name (Value (truth_word f.is_static) (Truth f.is_static) (Number (signed at.entry) (Number (signed at.end) (Number (signed at.frame) (Row (saved_parts at.saved) End)))))

module _ (p : Program) (fs : List Placed) where
  -- the points of a function that are there
  abbrev pub rows_of : Function → Placed → List (Point × ℕ)
  rows_of f at = point_rows p.defs p.symbols p.points f.points at.points

  -- ---- steps and units

  abbrev pub function_steps : (made : ℕ) → Function → Placed → ℕ
  function_steps made f at = 54 + 4 * length at.saved + points_steps p.defs p.symbols p.points made f.points at.points

  abbrev pub function_made : (made : ℕ) → Function → Placed → ℕ
  function_made made f at =
      text_units f.name + 22 + 8 * length at.saved + length (rows_of f at) + points_made p.defs p.symbols p.points (homes at.locals f.locals) made f.points at.points

  abbrev pub steps_in : (made : ℕ) → Option Function → Option Placed → ℕ
  steps_in made (Some f) (Some at) = function_steps made f at
  steps_in made f at = 0

  abbrev pub units_in : (made : ℕ) → Option Function → Option Placed → ℕ
  units_in made (Some f) (Some at) = function_made made f at
  units_in made f at = 0

  abbrev pub functions_steps : (made : ℕ) → List ℕ → ℕ
  functions_steps made [] = 0
  functions_steps made (x ∷ xs) =
      steps_in made (slice_get p.functions x) (slice_get fs x) + functions_steps (made_in p fs made (slice_get p.functions x) (slice_get fs x)) xs

  abbrev pub functions_made : (made : ℕ) → List ℕ → ℕ
  functions_made made [] = 0
  functions_made made (x ∷ xs) =
      units_in made (slice_get p.functions x) (slice_get fs x) + functions_made (made_in p fs made (slice_get p.functions x) (slice_get fs x)) xs

  -- ---- functions

  -- the functions with such numbers that are there, with where they are placed
  abbrev pub with_function : Option Function → Option Placed → List (Function × Placed) → List (Function × Placed)
  with_function (Some f) (Some at) rest = (f, at) ∷ rest
  with_function f at rest = rest

  abbrev pub function_rows : List ℕ → List (Function × Placed)
  function_rows [] = []
  function_rows (x ∷ xs) = with_function (slice_get p.functions x) (slice_get fs x) (function_rows xs)

  abbrev pub AreFunctions : StoreState → List PsObj → List (Function × Placed) → Type 0
  AreFunctions s [] [] = Unit {0}
  AreFunctions s (x ∷ xs) (f ∷ rest) = IsFunction s p.defs p.symbols x f.0 f.1 (rows_of f.0 f.1) × AreFunctions s xs rest
  AreFunctions s xs rows = ⊥

  -- ---- units

  abbrev pub unit_steps : UnitRow → ℕ
  unit_steps u = 6 + functions_steps 0 u.functions

  abbrev pub unit_made : UnitRow → ℕ
  unit_made u = 12 + length (function_rows u.functions) + functions_made 0 u.functions
