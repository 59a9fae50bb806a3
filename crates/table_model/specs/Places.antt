-- Which stopping points a command means.
use Rattle.std.specs.Prelude.{ℕ, Bool, true, false, not, ◌&&◌, nat_eq, bytes_eq, if◌then◌else◌, List, [], ◌∷◌, filter, codes, Option, Some, None, Ok}
use Rattle.ps_store.specs.declared.object.PsObj.{PsObj}
use Rattle.ps_store.specs.declared.object.DictId.{DictId}
use Rattle.ps_store.specs.StoreState.{StoreState}
use Rattle.ps_step.specs.Results.{◌>>=◌}
use Rattle.table_model.specs.Reading.{Walked, dict_in, text_at, number_at, truth_at, first_from, first_in, all_from, all_in}
use Rattle.table_model.specs.Rows.{PointRow, units_of, functions_of, points_of, point_address}

-- ---- by file, line and column

abbrev pub is_column : Option ℕ → ℕ → Bool
is_column None c = true
is_column (Some d) c = nat_eq c d

-- a point on a line, and in a column if one is given
abbrev pub on_line : StoreState → List ℕ → ℕ → Option ℕ → DictId → PsObj → Walked (Option PointRow)
on_line s file l c f x = do
  p ← dict_in x
  line ← number_at s p (codes "line")
  column ← number_at s p (codes "column")
  elim (nat_eq line l && is_column c column) [
    | false ↦ Ok None
    | true ↦
        point_address s p >>= λ at. text_at s f (codes "name") >>= λ name.
        Ok (Some (record { file = file; function = name; line = line; column = column; at = at }))
  ]

abbrev pub in_function : StoreState → List ℕ → ℕ → Option ℕ → PsObj → Walked (Option PointRow)
in_function s file l c x = do
  f ← dict_in x
  ps ← points_of s f
  first_in (on_line s file l c f) ps

-- the first unit of a file answers, whether it has the point or not
abbrev pub in_unit : StoreState → List ℕ → ℕ → Option ℕ → ℕ → PsObj → Walked (Option (Option PointRow))
in_unit s file l c u x = do
  unit ← dict_in x
  name ← text_at s unit (codes "file")
  elim (bytes_eq name file) [
    | false ↦ Ok None
    | true ↦ functions_of s u unit >>= λ fs. first_in (in_function s file l c) fs >>= λ p. Ok (Some p)
  ]

abbrev pub inner : {A : Type 0} → Option (Option A) → Option A
inner None = None
inner (Some o) = o

unfoldable pub spot_point : StoreState → List ℕ → ℕ → Option ℕ → Walked (Option PointRow)
spot_point s file l c = do
  us ← units_of s
  p ← first_from (in_unit s file l c) 0 us
  Ok (inner p)

-- ---- by a function's name

-- a function of the name, with the number of its unit
pub record Named : Type 0 where
  pub number : ℕ
  pub unit : DictId
  pub function : DictId
  pub is_static : Bool

abbrev pub called : StoreState → List ℕ → ℕ → DictId → PsObj → Walked (List Named)
called s text u unit x = do
  f ← dict_in x
  name ← text_at s f (codes "name")
  static ← truth_at s f (codes "static")
  Ok (if bytes_eq name text then record { number = u; unit = unit; function = f; is_static = static } ∷ [] else [])

abbrev pub called_in : StoreState → List ℕ → ℕ → PsObj → Walked (List Named)
called_in s text u x = do
  unit ← dict_in x
  fs ← functions_of s u unit
  all_in (called s text u unit) fs

abbrev pub are_of_unit : ℕ → List Named → Bool
are_of_unit u [] = true
are_of_unit u (f ∷ fs) = nat_eq f.number u && are_of_unit u fs

-- the external function, else the first static one where one unit alone has the name
abbrev pub only : List Named → Option Named
only [] = None
only (f ∷ fs) = if are_of_unit f.number fs then Some f else None

abbrev pub chosen : List Named → List Named → Option Named
chosen (f ∷ fs) statics = Some f
chosen [] statics = only statics

abbrev pub chosen_of : List Named → Option Named
chosen_of fs = chosen (filter (λ f. not f.is_static) fs) (filter (λ f. f.is_static) fs)

-- the point of a function's `{`, which is its first one
abbrev pub first_point : StoreState → List ℕ → Named → List PsObj → Walked (Option PointRow)
first_point s text f [] = Ok None
first_point s text f (x ∷ xs) = do
  p ← dict_in x
  line ← number_at s p (codes "line")
  column ← number_at s p (codes "column")
  at ← point_address s p
  file ← text_at s f.unit (codes "file")
  Ok (Some (record { file = file; function = text; line = line; column = column; at = at }))

abbrev pub point_of_named : StoreState → List ℕ → Option Named → Walked (Option PointRow)
point_of_named s text None = Ok None
point_of_named s text (Some f) = points_of s f.function >>= first_point s text f

unfoldable pub function_point : StoreState → List ℕ → Walked (Option PointRow)
function_point s text = do
  us ← units_of s
  fs ← all_from (called_in s text) 0 us
  point_of_named s text (chosen_of fs)

-- ---- all

abbrev pub row_of : StoreState → List ℕ → List ℕ → PsObj → Walked (List PointRow)
row_of s file name x = do
  p ← dict_in x
  line ← number_at s p (codes "line")
  column ← number_at s p (codes "column")
  at ← point_address s p
  Ok (record { file = file; function = name; line = line; column = column; at = at } ∷ [])

abbrev pub rows_of : StoreState → List ℕ → PsObj → Walked (List PointRow)
rows_of s file x = do
  f ← dict_in x
  name ← text_at s f (codes "name")
  ps ← points_of s f
  all_in (row_of s file name) ps

abbrev pub rows_in : StoreState → ℕ → PsObj → Walked (List PointRow)
rows_in s u x = do
  unit ← dict_in x
  file ← text_at s unit (codes "file")
  fs ← functions_of s u unit
  all_in (rows_of s file) fs

-- every point of the table, in its order
unfoldable pub all_points : StoreState → Walked (List PointRow)
all_points s = units_of s >>= λ us. all_from (rows_in s) 0 us
