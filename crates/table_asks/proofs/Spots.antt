-- The same of points by their places, and by the names of functions.
use Rattle.std.proofs.Common.{◌≡◌, ℕ, ◌+◌, Bool, true, false, nat_eq, ◌&&◌, if◌then◌else◌, bytes_eq, List, [], ◌∷◌, codes, Option, Some, None, Ok}
use Rattle.ps_store.specs.declared.object.PsObj.{PsObj}
use Rattle.ps_store.specs.declared.object.DictId.{DictId}
use Rattle.ps_store.specs.StoreState.{StoreState}
use Rattle.ps_step.specs.Results.{◌>>=◌}
use Rattle.table_model.specs.Reading.{Walked, dict_in, text_at, number_at, truth_at, first_from, first_in, all_from, all_in}
use Rattle.table_model.specs.Rows.{PointRow, units_of, functions_of, points_of, point_address}
use Rattle.table_model.specs.Places.{is_column, on_line, in_function, in_unit, inner, spot_point, Named, called, called_in, chosen_of, first_point, point_of_named, function_point, row_of, rows_of, rows_in, all_points}
use Rattle.table_asks.proofs.Fair.{Fair, IsUnit, gives, behind, either, reads, items_fair, text_fair, number_fair, truth_fair, first_fair, first_in_fair, all_in_fair, units_fair, unit_there, functions_fair, all_fair, units_all}

module _ (s : StoreState) (file : List ℕ) (l : ℕ) (c : Option ℕ) where
  abbrev placed : DictId → (line column : ℕ) → DictId → Walked (Option PointRow)
  placed f line column p =
      point_address s p >>= λ at. text_at s f (codes "name") >>= λ name.
      Ok (Some (record { file = file; function = name; line = line; column = column; at = at }))

  placed_fair : (f : DictId) (line column : ℕ) (p : DictId) → Fair s (placed f line column p)
  placed_fair f line column p =
      behind s (point_address s p) (λ at. text_at s f (codes "name") >>= λ name. Ok (Some (record { file = file; function = name; line = line; column = column; at = at }))) (number_fair s p (codes "address")) (λ at e.
      behind s (text_at s f (codes "name")) (λ name. Ok (Some (record { file = file; function = name; line = line; column = column; at = at }))) (text_fair s f (codes "name")) (λ name i.
      gives s (Some (record { file = file; function = name; line = line; column = column; at = at }))))

  abbrev if_there : DictId → DictId → ℕ → ℕ → Walked (Option PointRow)
  if_there f p line column = elim (nat_eq line l && is_column c column) [ false ↦ Ok None | true ↦ placed f line column p ]

  on_line_fair : (f : DictId) (x : PsObj) → Fair s (on_line s file l c f x)
  on_line_fair f x =
      behind s (dict_in x) (λ p. number_at s p (codes "line") >>= λ line. number_at s p (codes "column") >>= if_there f p line) (reads s x).dict (λ p e.
      behind s (number_at s p (codes "line")) (λ line. number_at s p (codes "column") >>= if_there f p line) (number_fair s p (codes "line")) (λ line i.
      behind s (number_at s p (codes "column")) (if_there f p line) (number_fair s p (codes "column")) (λ column j.
      either s (nat_eq line l && is_column c column) (Ok None) (placed f line column p) (gives s None) (placed_fair f line column p))))

  in_function_fair : (x : PsObj) → Fair s (in_function s file l c x)
  in_function_fair x =
      behind s (dict_in x) (λ f. points_of s f >>= λ ps. first_in (on_line s file l c f) ps) (reads s x).dict (λ f e.
      behind s (points_of s f) (λ ps. first_in (on_line s file l c f) ps) (items_fair s f (codes "points")) (λ ps i. first_in_fair s (on_line s file l c f) ps (on_line_fair f)))

  abbrev found_in : ℕ → DictId → Walked (Option (Option PointRow))
  found_in u unit = functions_of s u unit >>= λ fs. first_in (in_function s file l c) fs >>= λ p. Ok (Some p)

  abbrev of_file : ℕ → DictId → List ℕ → Walked (Option (Option PointRow))
  of_file u unit name = elim (bytes_eq name file) [ false ↦ Ok None | true ↦ found_in u unit ]

  found_in_fair : (u : ℕ) (x : PsObj) (unit : DictId) → IsUnit s u x → dict_in x ≡ Ok unit → Fair s (found_in u unit)
  found_in_fair u x unit there e =
      behind s (functions_of s u unit) (λ fs. first_in (in_function s file l c) fs >>= λ p. Ok (Some p)) (functions_fair s u x unit there e) (λ fs i.
      behind s (first_in (in_function s file l c) fs) (λ p. Ok (Some p)) (first_in_fair s (in_function s file l c) fs in_function_fair) (λ p j. gives s (Some p)))

  in_unit_fair : (u : ℕ) (x : PsObj) → IsUnit s u x → Fair s (in_unit s file l c u x)
  in_unit_fair u x there =
      behind s (dict_in x) (λ unit. text_at s unit (codes "file") >>= of_file u unit) (reads s x).dict (λ unit e.
      behind s (text_at s unit (codes "file")) (of_file u unit) (text_fair s unit (codes "file")) (λ name i.
      either s (bytes_eq name file) (Ok None) (found_in u unit) (gives s None) (found_in_fair u x unit there e)))

  pub spot_fair : Fair s (spot_point s file l c)
  unfolding spot_point
  spot_fair =
      behind s (units_of s) (λ us. first_from (in_unit s file l c) 0 us >>= λ p. Ok (inner p)) (units_fair s) (λ us e.
      behind s (first_from (in_unit s file l c) 0 us) (λ p. Ok (inner p)) (first_fair s (in_unit s file l c) 0 us (λ k x i. in_unit_fair (0 + k) x (unit_there s us e k x i))) (λ p i. gives s (inner p)))

module _ (s : StoreState) (text : List ℕ) where
  called_fair : (u : ℕ) (unit : DictId) (x : PsObj) → Fair s (called s text u unit x)
  called_fair u unit x =
      let those : DictId → List ℕ → Bool → Walked (List Named) = λ f name static. Ok (if bytes_eq name text then record { number = u; unit = unit; function = f; is_static = static } ∷ [] else []) in
      behind s (dict_in x) (λ f. text_at s f (codes "name") >>= λ name. truth_at s f (codes "static") >>= those f name) (reads s x).dict (λ f e.
      behind s (text_at s f (codes "name")) (λ name. truth_at s f (codes "static") >>= those f name) (text_fair s f (codes "name")) (λ name i.
      behind s (truth_at s f (codes "static")) (those f name) (truth_fair s f (codes "static")) (λ static j.
      gives s (if bytes_eq name text then record { number = u; unit = unit; function = f; is_static = static } ∷ [] else []))))

  called_in_fair : (u : ℕ) (x : PsObj) → IsUnit s u x → Fair s (called_in s text u x)
  called_in_fair u x there =
      behind s (dict_in x) (λ unit. functions_of s u unit >>= λ fs. all_in (called s text u unit) fs) (reads s x).dict (λ unit e.
      behind s (functions_of s u unit) (λ fs. all_in (called s text u unit) fs) (functions_fair s u x unit there e) (λ fs i. all_in_fair s (called s text u unit) fs (called_fair u unit)))

  first_point_fair : (f : Named) (xs : List PsObj) → Fair s (first_point s text f xs)
  first_point_fair f [] = gives s None
  first_point_fair f (x ∷ xs) =
      let row : (line column at : ℕ) (file : List ℕ) → Walked (Option PointRow) = λ line column at file. Ok (Some (record { file = file; function = text; line = line; column = column; at = at })) in
      behind s (dict_in x) (λ p. number_at s p (codes "line") >>= λ line. number_at s p (codes "column") >>= λ column. point_address s p >>= λ at. text_at s f.unit (codes "file") >>= row line column at) (reads s x).dict (λ p e.
      behind s (number_at s p (codes "line")) (λ line. number_at s p (codes "column") >>= λ column. point_address s p >>= λ at. text_at s f.unit (codes "file") >>= row line column at) (number_fair s p (codes "line")) (λ line e.
      behind s (number_at s p (codes "column")) (λ column. point_address s p >>= λ at. text_at s f.unit (codes "file") >>= row line column at) (number_fair s p (codes "column")) (λ column e.
      behind s (point_address s p) (λ at. text_at s f.unit (codes "file") >>= row line column at) (number_fair s p (codes "address")) (λ at e.
      behind s (text_at s f.unit (codes "file")) (row line column at) (text_fair s f.unit (codes "file")) (λ file e.
      gives s (Some (record { file = file; function = text; line = line; column = column; at = at })))))))

  named_point_fair : (o : Option Named) → Fair s (point_of_named s text o)
  named_point_fair None = gives s None
  named_point_fair (Some f) = behind s (points_of s f.function) (first_point s text f) (items_fair s f.function (codes "points")) (λ xs e. first_point_fair f xs)

  pub named_fair : Fair s (function_point s text)
  unfolding function_point
  named_fair =
      behind s (units_of s) (λ us. all_from (called_in s text) 0 us >>= λ fs. point_of_named s text (chosen_of fs)) (units_fair s) (λ us e.
      behind s (all_from (called_in s text) 0 us) (λ fs. point_of_named s text (chosen_of fs)) (all_fair s (called_in s text) 0 us (λ k x i. called_in_fair (0 + k) x (unit_there s us e k x i))) (λ fs i. named_point_fair (chosen_of fs)))

-- ---- all points

module _ (s : StoreState) where
  row_fair : (file name : List ℕ) (x : PsObj) → Fair s (row_of s file name x)
  row_fair file name x =
      let row : (line column at : ℕ) → Walked (List PointRow) = λ line column at. Ok (record { file = file; function = name; line = line; column = column; at = at } ∷ []) in
      behind s (dict_in x) (λ p. number_at s p (codes "line") >>= λ line. number_at s p (codes "column") >>= λ column. point_address s p >>= row line column) (reads s x).dict (λ p e.
      behind s (number_at s p (codes "line")) (λ line. number_at s p (codes "column") >>= λ column. point_address s p >>= row line column) (number_fair s p (codes "line")) (λ line e.
      behind s (number_at s p (codes "column")) (λ column. point_address s p >>= row line column) (number_fair s p (codes "column")) (λ column e.
      behind s (point_address s p) (row line column) (number_fair s p (codes "address")) (λ at e.
      gives s (record { file = file; function = name; line = line; column = column; at = at } ∷ [])))))

  rows_fair : (file : List ℕ) (x : PsObj) → Fair s (rows_of s file x)
  rows_fair file x =
      behind s (dict_in x) (λ f. text_at s f (codes "name") >>= λ name. points_of s f >>= all_in (row_of s file name)) (reads s x).dict (λ f e.
      behind s (text_at s f (codes "name")) (λ name. points_of s f >>= all_in (row_of s file name)) (text_fair s f (codes "name")) (λ name e.
      behind s (points_of s f) (all_in (row_of s file name)) (items_fair s f (codes "points")) (λ ps e. all_in_fair s (row_of s file name) ps (row_fair file name))))

  unit_rows_fair : (u : ℕ) (x : PsObj) → IsUnit s u x → Fair s (rows_in s u x)
  unit_rows_fair u x there =
      behind s (dict_in x) (λ unit. text_at s unit (codes "file") >>= λ file. functions_of s u unit >>= all_in (rows_of s file)) (reads s x).dict (λ unit e.
      behind s (text_at s unit (codes "file")) (λ file. functions_of s u unit >>= all_in (rows_of s file)) (text_fair s unit (codes "file")) (λ file i.
      behind s (functions_of s u unit) (all_in (rows_of s file)) (functions_fair s u x unit there e) (λ fs j. all_in_fair s (rows_of s file) fs (rows_fair file))))

  pub points_fair : Fair s (all_points s)
  unfolding all_points
  points_fair = units_all s (rows_in s) unit_rows_fair
