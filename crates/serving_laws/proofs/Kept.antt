-- What names, addresses and expressions find in a store is the same where objects were added.
use Rattle.std.proofs.Common.{◌≡◌, inl, inr, refl, sym, ap, subst, ◌∙◌, ℕ, zero, suc, ◌-◌, ◌<◌, Bool, true, false, ◌&&◌, ◌||◌, nat_eq, nat_lt, nat_le, if◌then◌else◌, Option, Some, None, Ok, Err, List, [], ◌∷◌, ◌++◌, length, codes, slice_index_or, arith}
use Rattle.std.specs.Prelude.{option_map, bytes_eq, is_none}
use Rattle.std.specs.List.{AllByRecursion}
use Rattle.ldb_words.specs.Word.{sum_of, difference_of, word_of_signed}
use Rattle.c_tree.specs.declared.types.CType.{CType}
use Rattle.c_tree.specs.declared.typed.BinaryOp.{BinaryOp}
use Rattle.c_tree.specs.declared.typed.BinaryOp.TheVariants.{Add}
use Rattle.c_tree.specs.declared.typed.Typed.{Typed}
use Rattle.c_tree.specs.Types.{type_of}
use Rattle.c_judge.specs.declared.symbol.Symbol.{Symbol}
use Rattle.ps_store.specs.declared.object.Part.{Part}
use Rattle.ps_store.specs.declared.object.Part.TheVariants.{Table, Command}
use Rattle.ps_store.specs.declared.object.PsObj.{PsObj}
use Rattle.ps_store.specs.declared.object.PsObj.TheVariants.{Int, Bool as Truth, Name, Str, Array, Dict, Op, Mark, Null}
use Rattle.ps_store.specs.declared.object.ArrayId.{ArrayId}
use Rattle.ps_store.specs.declared.object.DictId.{DictId}
use Rattle.ps_store.specs.declared.object.StringId.{StringId}
use Rattle.ps_store.specs.declared.object.Pair.{Pair}
use Rattle.ps_store.specs.declared.key.Key.{Key}
use Rattle.ps_store.specs.declared.key.Key.TheVariants.{Name as NameKey}
use Rattle.ps_store.specs.Entries.{value_at}
use Rattle.ps_store.specs.Operators.{operator_number}
use Rattle.ps_store.specs.StoreState.{StoreState}
use Rattle.ps_store.specs.Store.{held, with_held, bytes_of, elements_of, entries_of}
use Rattle.ps_step.specs.Keys.{or_else, found_in}
use Rattle.ps_step.specs.Results.{◌>>=◌}
use Rattle.ps_text.specs.Code.{Code}
use Rattle.ps_text.specs.Grown.{Grown, more_held, HasString, HasArray, IsArray}
use Rattle.ps_text.specs.Spells.{Spells}
use Rattle.ps_text.proofs.Growing.{string_kept, array_kept}
use Rattle.ps_text.proofs.Kept.{spells_kept}
use Rattle.frame_bytes.specs.Bytes.{Bytes, word_address}
use Rattle.frame_bytes.specs.declared.frame.Frame.{Frame}
use Rattle.frame_bytes.specs.declared.frame.Place.{Place}
use Rattle.table_model.specs.declared.row.FunctionRow.{FunctionRow}
use Rattle.table_model.specs.declared.row.SavingRow.{SavingRow}
use Rattle.table_model.specs.declared.row.TargetRow.{TargetRow}
use Rattle.table_model.specs.declared.row.TargetRow.TheVariants.{Saving, Windows}
use Rattle.table_model.specs.declared.found.Found.{Found}
use Rattle.table_model.specs.Reading.{Walked, or_missing, entry, dict_in, items_in, procedure_in, string_in, text_in, number_in, dict_or_null, dict_at, items_at, procedure_at, string_at, text_at, number_at, top_of, or_outside, first_from, all_from}
use Rattle.table_model.specs.Rows.{units_of, functions_in, functions_of, covers, covering, covering_in, function_at, points_of, point_address, standing_at, nearest, point_below_from, or_no_point}
use Rattle.table_model.specs.Frames.{Saved, saved_pair, saved_of, saving_frame, window_places, window_frame, framed, context_word, frame_in, words_from, outer_places, kept_at, first_frame, caller_saving, next_saving, next_window, next_frame, MOST_FRAMES, outward, point_in, point_of_row, point_of}
use Rattle.table_model.specs.Symbols.{MOST_SYMBOLS, scope_of, uplink_of, named_among, symbol_named, Form, FromBase, Absolute, FromAnchor, Other, is_called, is_local}
use Rattle.table_model.specs.Objects.{form_of, anchor_of, address_of, belongs, object_at, object_or_none, found_symbol, as_static, static_object, statics_in, static_at, local_here, local_among, local_at, with_activation, found_outward, found_at}
use Rattle.c_bytes.specs.Lvalues.{Scene, bytes_with}
use Rattle.serving_laws.specs.Left.{AreOperators}
use Rattle.serving_laws.specs.Named.{Leads, at_anchor, in_frame, in_frame_as_register, at_address, in_register, IsNamed, Stands, by_name as at_name, in_struct, in_parens as place_in_parens, IsRead, scalar, array, address, HasSpaces}
use Rattle.serving_laws.specs.Evaluated.{object_there, IsSettled, HasSmallObjects, IsCount, IsOffset, OnPointers, on as moves_on, on_by, back, ordered, apart, IsEvaluated, constant, size, size_of_type, by_name, in_parens, cast, on_one, on_two, in_turn, one_of, either, both, pointed_array, pointed_address, pointed_scalar, on_pointers, IsPointed, followed, item, member, member_there, followed_in_parens}
use Rattle.serving_laws.specs.Texts.{IsThere, IsWhole}

-- ---- dictionaries

dicts_kept : (s : StoreState) (p q : Part) (a : List (List PsObj)) (t : List (List ℕ)) (u : ℕ) → (held (with_held s p (more_held (held s p) a t u)) q).dicts ≡ (held s q).dicts
dicts_kept s Table Table a t u = refl
dicts_kept s Table Command a t u = refl
dicts_kept s Command Table a t u = refl
dicts_kept s Command Command a t u = refl

top_with : (s : StoreState) (p : Part) (a : List (List PsObj)) (t : List (List ℕ)) (u : ℕ) → (with_held s p (more_held (held s p) a t u)).top ≡ s.top
top_with s Table a t u = refl
top_with s Command a t u = refl

base_with : (s : StoreState) (p : Part) (a : List (List PsObj)) (t : List (List ℕ)) (u : ℕ) → (with_held s p (more_held (held s p) a t u)).base ≡ s.base
base_with s Table a t u = refl
base_with s Command a t u = refl

pub base_kept : (u : ℕ) (s s' : StoreState) → Grown u s s' → s'.base ≡ s.base
base_kept u s s' g = ap (λ (k : StoreState). k.base) g.store ∙ base_with s s.part g.arrays g.strings u

entries_kept : (u : ℕ) (s s' : StoreState) → Grown u s s' → (d : DictId) → entries_of s' d ≡ entries_of s d
entries_kept u s s' g d =
    ap (λ (k : StoreState). entries_of k d) g.store ∙ ap (λ (ds : List (List (Key × Pair))). slice_index_or ds d.index []) (dicts_kept s s.part d.part g.arrays g.strings u)

found_kept : (u : ℕ) (s s' : StoreState) → Grown u s s' → (ds : List DictId) (key : Key) → found_in s' ds key ≡ found_in s ds key
found_kept u s s' g [] key = refl
found_kept u s s' g (d ∷ ds) key =
    ap (λ (es : List (Key × Pair)). or_else (value_at es key) (found_in s' ds key)) (entries_kept u s s' g d) ∙ ap (λ (o : Option PsObj). or_else (value_at (entries_of s d) key) o) (found_kept u s s' g ds key)

pub operators_kept : (u : ℕ) (s s' : StoreState) (ds : List DictId) → Grown u s s' → AreOperators s ds → AreOperators s' ds
operators_kept u s s' ds g are name n e = ap (λ (o : Option PsObj). or_else o (option_map (λ n. Op n) (operator_number name))) (found_kept u s s' g ds (NameKey name)) ∙ are name n e

-- ---- the names of the spaces

first_there : (xs : List (List ℕ)) → slice_index_or xs 0 [] ≡ codes "d" → 0 < length xs
first_there [] e = cc
first_there (x ∷ xs) e = omega arith

second_there : (xs : List (List ℕ)) → slice_index_or xs 1 [] ≡ codes "r" → 1 < length xs
second_there [] e = cc
second_there (x ∷ []) e = cc
second_there (x ∷ y ∷ xs) e = omega arith

pub spaces_kept : (u : ℕ) (s s' : StoreState) → Grown u s s' → HasSpaces s → HasSpaces s'
spaces_kept u s s' g h = record {
  memory = (string_kept u s s' (record { part = Table; index = 0 }) (codes "d") g (record { has = first_there s.table.strings h.memory; bytes = h.memory })).bytes;
  registers = (string_kept u s s' (record { part = Table; index = 1 }) (codes "r") g (record { has = second_there s.table.strings h.registers; bytes = h.registers })).bytes;
}

-- ---- results, one after another

on : {A B : Type 0} (m m' : Walked A) (f f' : A → Walked B) → m' ≡ m → ((x : A) → m ≡ Ok x → f' x ≡ f x) → (m' >>= f') ≡ (m >>= f)
on m m' f f' e h = ap (λ (z : Walked _). z >>= f') e ∙ by m h
  where
    by : (r : Walked _) → ((x : _) → r ≡ Ok x → f' x ≡ f x) → (r >>= f') ≡ (r >>= f)
    by (Ok x) h = h x refl
    by (Err l) h = refl

-- the first result where the second is known
record Split {A B : Type 0} (m : Walked A) (f : A → Walked B) (y : B) : Type 0 where
  first : A
  is_first : m ≡ Ok first
  is_second : f first ≡ Ok y

split : {A B : Type 0} (m : Walked A) (f : A → Walked B) (y : B) → (m >>= f) ≡ Ok y → Split m f y
split (Ok x) f y e = record { first = x; is_first = refl; is_second = e }
split (Err l) f y e = cc

module _ (u : ℕ) (s s' : StoreState) (g : Grown u s s') (whole : IsWhole s) where
  abbrev All : List PsObj → Type 0
  All xs = AllByRecursion (IsThere s) xs

  -- ---- one value

  text_kept : (t : StringId) → HasString s t → bytes_of s' t ≡ bytes_of s t
  text_kept t h = (string_kept u s s' t (bytes_of s t) g (record { has = h; bytes = refl })).bytes

  list_kept : (a : ArrayId) → HasArray s a → elements_of s' a ≡ elements_of s a
  list_kept a h = (array_kept u s s' a (elements_of s a) g (record { has = h; items = refl })).items

  top_kept : top_of s' ≡ top_of s
  top_kept = ap (λ (k : StoreState). or_missing k.top) g.store ∙ ap or_missing (top_with s s.part g.arrays g.strings u)

  entry_kept : (d : DictId) (name : List ℕ) → entry s' d name ≡ entry s d name
  entry_kept d name = ap (λ (es : List (Key × Pair)). or_missing (value_at es (NameKey name))) (entries_kept u s s' g d)

  value_there : (d : DictId) (name : List ℕ) (x : PsObj) → entry s d name ≡ Ok x → IsThere s x
  value_there d name x e = by (value_at (entries_of s d) (NameKey name)) refl e
    where
      same : (y : PsObj) → or_missing (Some y) ≡ Ok x → Some y ≡ Some x
      same y e = cc

      never : or_missing None ≡ Ok x → ⊥
      never e = cc

      by : (o : Option PsObj) → value_at (entries_of s d) (NameKey name) ≡ o → or_missing o ≡ Ok x → IsThere s x
      by None k e = absurd (never e)
      by (Some y) k e = whole.values d (NameKey name) x (k ∙ same y e)

  number_kept : (d : DictId) (name : List ℕ) → number_at s' d name ≡ number_at s d name
  number_kept d name = ap (λ (z : Walked PsObj). z >>= number_in) (entry_kept d name)

  dict_kept : (d : DictId) (name : List ℕ) → dict_at s' d name ≡ dict_at s d name
  dict_kept d name = ap (λ (z : Walked PsObj). z >>= dict_in) (entry_kept d name)

  label_kept : (d : DictId) (name : List ℕ) → string_at s' d name ≡ string_at s d name
  label_kept d name = ap (λ (z : Walked PsObj). z >>= string_in) (entry_kept d name)

  link_kept : (d : DictId) (name : List ℕ) → (entry s' d name >>= dict_or_null) ≡ (entry s d name >>= dict_or_null)
  link_kept d name = ap (λ (z : Walked PsObj). z >>= dict_or_null) (entry_kept d name)

  abbrev list_done : List PsObj → Walked (List PsObj)
  list_done xs = Ok xs

  same_list : (ys xs : List PsObj) → list_done ys ≡ list_done xs → ys ≡ xs
  same_list ys xs e = cc

  items_in_kept : (x : PsObj) → IsThere s x → items_in s' x ≡ items_in s x
  items_in_kept (Array a b) h = ap Ok (list_kept a h)
  items_in_kept (Int n) h = refl
  items_in_kept (Truth b) h = refl
  items_in_kept (Name t b) h = refl
  items_in_kept (Str t b) h = refl
  items_in_kept (Dict d) h = refl
  items_in_kept (Op n) h = refl
  items_in_kept Mark h = refl
  items_in_kept Null h = refl

  items_there : (x : PsObj) (xs : List PsObj) → items_in s x ≡ Ok xs → All xs
  items_there (Array a b) xs e = subst All (same_list (elements_of s a) xs e) (whole.elements a)
  items_there (Int n) xs e = cc
  items_there (Truth b) xs e = cc
  items_there (Name t b) xs e = cc
  items_there (Str t b) xs e = cc
  items_there (Dict d) xs e = cc
  items_there (Op n) xs e = cc
  items_there Mark xs e = cc
  items_there Null xs e = cc

  items_kept : (d : DictId) (name : List ℕ) → items_at s' d name ≡ items_at s d name
  items_kept d name = on (entry s d name) (entry s' d name) (items_in s) (items_in s') (entry_kept d name) (λ x e. items_in_kept x (value_there d name x e))

  all_there : (d : DictId) (name : List ℕ) (xs : List PsObj) → items_at s d name ≡ Ok xs → All xs
  all_there d name xs e = let h = split (entry s d name) (items_in s) xs e in items_there h.first xs h.is_second

  code_in_kept : (x : PsObj) → IsThere s x → procedure_in s' x ≡ procedure_in s x
  code_in_kept (Array a true) h = ap Ok (list_kept a h)
  code_in_kept (Array a false) h = refl
  code_in_kept (Int n) h = refl
  code_in_kept (Truth b) h = refl
  code_in_kept (Name t b) h = refl
  code_in_kept (Str t b) h = refl
  code_in_kept (Dict d) h = refl
  code_in_kept (Op n) h = refl
  code_in_kept Mark h = refl
  code_in_kept Null h = refl

  code_in_there : (x : PsObj) (xs : List PsObj) → procedure_in s x ≡ Ok xs → All xs
  code_in_there (Array a true) xs e = items_there (Array a true) xs e
  code_in_there (Array a false) xs e = cc
  code_in_there (Int n) xs e = cc
  code_in_there (Truth b) xs e = cc
  code_in_there (Name t b) xs e = cc
  code_in_there (Str t b) xs e = cc
  code_in_there (Dict d) xs e = cc
  code_in_there (Op n) xs e = cc
  code_in_there Mark xs e = cc
  code_in_there Null xs e = cc

  code_kept : (d : DictId) (name : List ℕ) → procedure_at s' d name ≡ procedure_at s d name
  code_kept d name = on (entry s d name) (entry s' d name) (procedure_in s) (procedure_in s') (entry_kept d name) (λ x e. code_in_kept x (value_there d name x e))

  code_there : (d : DictId) (name : List ℕ) (xs : List PsObj) → procedure_at s d name ≡ Ok xs → All xs
  code_there d name xs e = let h = split (entry s d name) (procedure_in s) xs e in code_in_there h.first xs h.is_second

  text_in_kept : (x : PsObj) → IsThere s x → text_in s' x ≡ text_in s x
  text_in_kept (Str t b) h = ap Ok (text_kept t h)
  text_in_kept (Array a b) h = refl
  text_in_kept (Int n) h = refl
  text_in_kept (Truth b) h = refl
  text_in_kept (Name t b) h = refl
  text_in_kept (Dict d) h = refl
  text_in_kept (Op n) h = refl
  text_in_kept Mark h = refl
  text_in_kept Null h = refl

  text_at_kept : (d : DictId) (name : List ℕ) → text_at s' d name ≡ text_at s d name
  text_at_kept d name = on (entry s d name) (entry s' d name) (text_in s) (text_in s') (entry_kept d name) (λ x e. text_in_kept x (value_there d name x e))

  -- ---- lists

  first_kept : {B : Type 0} (test test' : ℕ → PsObj → Walked (Option B)) → ((n : ℕ) (x : PsObj) → IsThere s x → test' n x ≡ test n x) → (n : ℕ) (xs : List PsObj) → All xs
      → first_from test' n xs ≡ first_from test n xs
  first_kept test test' h n [] all = refl
  first_kept {B} test test' h n (x ∷ xs) all = on (test n x) (test' n x) _ _ (h n x all.0) (λ found e. by (first_kept test test' h (suc n) xs all.1) found)
    where
      by : first_from test' (suc n) xs ≡ first_from test (suc n) xs → (found : Option B)
          → ◌≡◌ {A = Walked (Option B)} (elim found [ Some y ↦ Ok (Some y) | None ↦ first_from test' (suc n) xs ]) (elim found [ Some y ↦ Ok (Some y) | None ↦ first_from test (suc n) xs ])
      by same (Some y) = refl
      by same None = same

  every_kept : {B : Type 0} (test test' : ℕ → PsObj → Walked (List B)) → ((n : ℕ) (x : PsObj) → IsThere s x → test' n x ≡ test n x) → (n : ℕ) (xs : List PsObj) → All xs
      → all_from test' n xs ≡ all_from test n xs
  every_kept test test' h n [] all = refl
  every_kept {B} test test' h n (x ∷ xs) all =
      on (test n x) (test' n x) _ _ (h n x all.0) (λ ys e. ap (λ (z : Walked (List B)). z >>= λ zs. Ok (ys ++ zs)) (every_kept test test' h (suc n) xs all.1))

  -- ---- functions and points

  functions_in_kept : (n : ℕ) (x : PsObj) → IsThere s x → functions_in s' n x ≡ functions_in s n x
  functions_in_kept n (Array a b) h = ap Ok (list_kept a h)
  functions_in_kept n (Str t true) h = refl
  functions_in_kept n (Str t false) h = refl
  functions_in_kept n (Int i) h = refl
  functions_in_kept n (Truth b) h = refl
  functions_in_kept n (Name t b) h = refl
  functions_in_kept n (Dict d) h = refl
  functions_in_kept n (Op i) h = refl
  functions_in_kept n Mark h = refl
  functions_in_kept n Null h = refl

  functions_in_there : (n : ℕ) (x : PsObj) (xs : List PsObj) → functions_in s n x ≡ Ok xs → All xs
  functions_in_there n (Array a b) xs e = items_there (Array a b) xs e
  functions_in_there n (Str t true) xs e = cc
  functions_in_there n (Str t false) xs e = cc
  functions_in_there n (Int i) xs e = cc
  functions_in_there n (Truth b) xs e = cc
  functions_in_there n (Name t b) xs e = cc
  functions_in_there n (Dict d) xs e = cc
  functions_in_there n (Op i) xs e = cc
  functions_in_there n Mark xs e = cc
  functions_in_there n Null xs e = cc

  covers_kept : (pc : ℕ) (f : DictId) → covers s' pc f ≡ covers s pc f
  covers_kept pc f =
      on (number_at s f (codes "entry")) (number_at s' f (codes "entry")) _ _ (number_kept f (codes "entry"))
      (λ from e. ap (λ (z : Walked ℕ). z >>= λ end. Ok (nat_le from pc && nat_lt pc end)) (number_kept f (codes "end")))

  covering_kept : (pc : ℕ) (unit : DictId) (x : PsObj) → covering s' pc unit x ≡ covering s pc unit x
  covering_kept pc unit x =
      on (dict_in x) (dict_in x) _ _ refl (λ f e. ap (λ (z : Walked Bool). z >>= λ b. Ok (if b then Some (record { unit = unit; function = f }) else None)) (covers_kept pc f))

  functions_kept : (n : ℕ) (unit : DictId) → functions_of s' n unit ≡ functions_of s n unit
  functions_kept n unit =
      on (entry s unit (codes "functions")) (entry s' unit (codes "functions")) (functions_in s n) (functions_in s' n) (entry_kept unit (codes "functions"))
      (λ x e. functions_in_kept n x (value_there unit (codes "functions") x e))

  functions_there : (n : ℕ) (unit : DictId) (xs : List PsObj) → functions_of s n unit ≡ Ok xs → All xs
  functions_there n unit xs e = let h = split (entry s unit (codes "functions")) (functions_in s n) xs e in functions_in_there n h.first xs h.is_second

  covering_in_kept : (pc n : ℕ) (x : PsObj) → covering_in s' pc n x ≡ covering_in s pc n x
  covering_in_kept pc n x =
      on (dict_in x) (dict_in x) _ _ refl (λ unit e. on (functions_of s n unit) (functions_of s' n unit) _ _ (functions_kept n unit)
      (λ fs e. first_kept (λ n x. covering s pc unit x) (λ n x. covering s' pc unit x) (λ n x h. covering_kept pc unit x) 0 fs (functions_there n unit fs e)))

  units_kept : units_of s' ≡ units_of s
  units_kept = on (top_of s) (top_of s') _ _ top_kept (λ top e. items_kept top (codes "units"))

  units_there : (xs : List PsObj) → units_of s ≡ Ok xs → All xs
  units_there xs e = let h = split (top_of s) (λ top. items_at s top (codes "units")) xs e in all_there h.first (codes "units") xs h.is_second

  function_kept : (pc : ℕ) → function_at s' pc ≡ function_at s pc
  unfolding function_at
  function_kept pc = on (units_of s) (units_of s') _ _ units_kept (λ us e. first_kept (covering_in s pc) (covering_in s' pc) (λ n x h. covering_in_kept pc n x) 0 us (units_there us e))

  standing_kept : (pc : ℕ) (x : PsObj) → standing_at s' pc x ≡ standing_at s pc x
  standing_kept pc x = on (dict_in x) (dict_in x) _ _ refl (λ p e. ap (λ (z : Walked ℕ). z >>= λ at. Ok (if nat_eq at pc then Some p else None)) (number_kept p (codes "address")))

  below_kept : (pc : ℕ) (best : Option (ℕ × DictId)) (xs : List PsObj) → point_below_from s' pc best xs ≡ point_below_from s pc best xs
  below_kept pc best [] = refl
  below_kept pc best (x ∷ xs) =
      on (dict_in x) (dict_in x) _ _ refl (λ p e. on (point_address s p) (point_address s' p) _ _ (number_kept p (codes "address")) (λ at e. below_kept pc (nearest best pc at p) xs))

  point_in_kept : (is_inner : Bool) (pc : ℕ) (ps : List PsObj) → All ps → point_in s' is_inner pc ps ≡ point_in s is_inner pc ps
  point_in_kept true pc ps all = first_kept (λ n x. standing_at s pc x) (λ n x. standing_at s' pc x) (λ n x h. standing_kept pc x) 0 ps all
  point_in_kept false pc ps all = below_kept pc None ps

  point_row_kept : (is_inner : Bool) (pc : ℕ) (o : Option FunctionRow) → point_of_row s' is_inner pc o ≡ point_of_row s is_inner pc o
  point_row_kept is_inner pc None = refl
  point_row_kept is_inner pc (Some r) =
      on (points_of s r.function) (points_of s' r.function) _ _ (items_kept r.function (codes "points"))
      (λ ps e. ap (λ (z : Walked (Option DictId)). z >>= or_no_point) (point_in_kept is_inner pc ps (all_there r.function (codes "points") ps e)))

  point_kept : (n : ℕ) (f : Frame) → point_of s' n f ≡ point_of s n f
  unfolding point_of
  point_kept n f = on (function_at s f.pc) (function_at s' f.pc) _ _ (function_kept f.pc) (λ o e. point_row_kept (nat_eq n 0) f.pc o)

  scope_kept : (n : ℕ) (f : Frame) → scope_of s' n f ≡ scope_of s n f
  unfolding scope_of
  scope_kept n f = on (point_of s n f) (point_of s' n f) _ _ (point_kept n f) (λ p e. link_kept p (codes "symbols"))

  -- ---- frames

  saved_kept : (f : DictId) → saved_of s' f ≡ saved_of s f
  saved_kept f =
      on (items_at s f (codes "saved")) (items_at s' f (codes "saved")) _ _ (items_kept f (codes "saved"))
      (λ xs e. every_kept (λ n x. items_in s x >>= saved_pair) (λ n x. items_in s' x >>= saved_pair) (λ n x h. ap (λ (z : Walked (List PsObj)). z >>= saved_pair) (items_in_kept x h)) 0 xs
      (all_there f (codes "saved") xs e))

  saving_kept : (pc sp : ℕ) (places : List (Option ℕ)) (f : DictId) → saving_frame s' pc sp places f ≡ saving_frame s pc sp places f
  saving_kept pc sp places f =
      on (saved_of s f) (saved_of s' f) _ _ (saved_kept f) (λ saved e.
      ap (λ (z : Walked ℕ). z >>= λ n. Ok (record { pc = pc; base = sum_of sp n; places = places })) (number_kept f (codes "frame")))

  framed_kept : (o : Option FunctionRow) (f f' : DictId → Walked Frame) → ((d : DictId) → f' d ≡ f d) → framed o f' ≡ framed o f
  framed_kept None f f' h = refl
  framed_kept (Some r) f f' h = ap (λ (z : Walked Frame). z >>= λ f. Ok (Some f)) (h r.function)

  module _ (row : TargetRow) (b : Bytes) where
    frame_in_kept : (r : TargetRow) (context pc : ℕ) (f : DictId) → frame_in r s' b context pc f ≡ frame_in r s b context pc f
    frame_in_kept (Saving target) context pc f =
        on (context_word b context target.stack_pointer) (context_word b context target.stack_pointer) _ _ refl (λ sp e. saving_kept pc sp (words_from 32 context) f)
    frame_in_kept Windows context pc f = refl

    first_frame_kept : (context : ℕ) → first_frame row s' b context ≡ first_frame row s b context
    unfolding first_frame
    first_frame_kept context =
        on (context_word b context 34) (context_word b context 34) _ _ refl (λ pc e. on (function_at s pc) (function_at s' pc) _ _ (function_kept pc)
        (λ f e. framed_kept f (frame_in row s b context pc) (frame_in row s' b context pc) (frame_in_kept row context pc)))

    caller_kept : (target : SavingRow) (f : Frame) (saved : List Saved) (o : Option ℕ) → caller_saving target s' b f saved o ≡ caller_saving target s b f saved o
    caller_kept target f saved None = refl
    caller_kept target f saved (Some at) =
        on _ _ _ _ refl (λ return e. on (function_at s (difference_of return target.distance)) (function_at s' (difference_of return target.distance)) _ _ (function_kept (difference_of return target.distance))
        (λ o e. framed_kept o (saving_frame s (difference_of return target.distance) f.base (outer_places target.preserved 0 f.base f.places saved))
        (saving_frame s' (difference_of return target.distance) f.base (outer_places target.preserved 0 f.base f.places saved))
        (saving_kept (difference_of return target.distance) f.base (outer_places target.preserved 0 f.base f.places saved))))

    next_saving_kept : (target : SavingRow) (f : Frame) (o : Option FunctionRow) → next_saving target s' b f o ≡ next_saving target s b f o
    next_saving_kept target f None = refl
    next_saving_kept target f (Some r) = on (saved_of s r.function) (saved_of s' r.function) _ _ (saved_kept r.function) (λ saved e. caller_kept target f saved (kept_at f.base saved target.return_register))

    next_window_kept : (f : Frame) → next_window s' b f ≡ next_window s b f
    next_window_kept f =
        on (or_outside (word_address f.places 31)) (or_outside (word_address f.places 31)) _ _ refl (λ at e. on _ _ _ _ refl (λ pc e.
        ap (λ (z : Walked (Option FunctionRow)). z >>= λ row. framed row (λ g. window_frame b pc (window_places f.base f.places))) (function_kept pc)))

    next_kept : (r : TargetRow) (f : Frame) → next_frame r s' b f ≡ next_frame r s b f
    unfolding next_frame
    next_kept (Saving target) f = on (function_at s f.pc) (function_at s' f.pc) _ _ (function_kept f.pc) (λ o e. next_saving_kept target f o)
    next_kept Windows f = next_window_kept f

    outward_kept : (n : ℕ) (f : Frame) → outward row s' b n f ≡ outward row s b n f
    outward_kept zero f = refl
    outward_kept (suc n) f = on (next_frame row s b f) (next_frame row s' b f) _ _ (next_kept row f) (λ g e. by (outward_kept n) g)
      where
        by : ((g : Frame) → outward row s' b n g ≡ outward row s b n g) → (g : Option Frame)
            → ◌≡◌ {A = Walked (List Frame)} (elim g [ None ↦ Ok [] | Some g ↦ outward row s' b n g >>= λ gs. Ok (g ∷ gs) ]) (elim g [ None ↦ Ok [] | Some g ↦ outward row s b n g >>= λ gs. Ok (g ∷ gs) ])
        by same None = refl
        by same (Some g) = ap (λ (z : Walked (List Frame)). z >>= λ gs. Ok (g ∷ gs)) (same g)

  -- ---- places that procedures say

  called_kept : (text : List ℕ) (x : PsObj) → IsThere s x → is_called s' text x ≡ is_called s text x
  called_kept text (Name t true) h = ap (λ (b : List ℕ). bytes_eq b text) (text_kept t h)
  called_kept text (Name t false) h = refl
  called_kept text (Int n) h = refl
  called_kept text (Truth b) h = refl
  called_kept text (Str t b) h = refl
  called_kept text (Array a b) h = refl
  called_kept text (Dict d) h = refl
  called_kept text (Op n) h = refl
  called_kept text Mark h = refl
  called_kept text Null h = refl

  local_kept : (xs : List PsObj) → All xs → is_local s' xs ≡ is_local s xs
  local_kept [] all = refl
  local_kept (x ∷ xs) all =
      ap (λ (b : Bool). (b || is_called s' (codes "Register") x) || is_local s' xs) (called_kept (codes "Local") x all.0)
      ∙ ap (λ (b : Bool). (is_called s (codes "Local") x || b) || is_local s' xs) (called_kept (codes "Register") x all.0)
      ∙ ap (λ (b : Bool). (is_called s (codes "Local") x || is_called s (codes "Register") x) || b) (local_kept xs all.1)

  form_kept : (xs : List PsObj) → All xs → form_of s' xs ≡ form_of s xs
  form_kept [] all = refl
  form_kept (Int n ∷ []) all = refl
  form_kept (Int n ∷ x ∷ []) all =
      ap (λ (b : Bool). if b then FromBase (word_of_signed n) else if is_called s' (codes "Absolute") x then Absolute (word_of_signed n) else Other) (called_kept (codes "Local") x all.1.0)
      ∙ ap (λ (b : Bool). if is_called s (codes "Local") x then FromBase (word_of_signed n) else if b then Absolute (word_of_signed n) else Other) (called_kept (codes "Absolute") x all.1.0)
  form_kept (Int n ∷ Name t false ∷ x ∷ y ∷ []) all =
      ap (λ (b : Bool). if b && is_called s' (codes "Absolute") y then FromAnchor (word_of_signed n) (bytes_of s' t) else Other) (called_kept (codes "Anchor") x all.1.1.0)
      ∙ ap (λ (b : Bool). if is_called s (codes "Anchor") x && b then FromAnchor (word_of_signed n) (bytes_of s' t) else Other) (called_kept (codes "Absolute") y all.1.1.1.0)
      ∙ ap (λ (text : List ℕ). if is_called s (codes "Anchor") x && is_called s (codes "Absolute") y then FromAnchor (word_of_signed n) text else Other) (text_kept t all.1.0)
  form_kept (Int n ∷ Name t false ∷ x ∷ []) all = refl
  form_kept (Int n ∷ Name t false ∷ x ∷ y ∷ z ∷ xs) all = refl
  form_kept (Int n ∷ Name t true ∷ x ∷ xs) all = refl
  form_kept (Int n ∷ Int m ∷ x ∷ xs) all = refl
  form_kept (Int n ∷ Truth b ∷ x ∷ xs) all = refl
  form_kept (Int n ∷ Str t b ∷ x ∷ xs) all = refl
  form_kept (Int n ∷ Array a b ∷ x ∷ xs) all = refl
  form_kept (Int n ∷ Dict d ∷ x ∷ xs) all = refl
  form_kept (Int n ∷ Op m ∷ x ∷ xs) all = refl
  form_kept (Int n ∷ Mark ∷ x ∷ xs) all = refl
  form_kept (Int n ∷ Null ∷ x ∷ xs) all = refl
  form_kept (Truth b ∷ xs) all = refl
  form_kept (Name t b ∷ xs) all = refl
  form_kept (Str t b ∷ xs) all = refl
  form_kept (Array a b ∷ xs) all = refl
  form_kept (Dict d ∷ xs) all = refl
  form_kept (Op n ∷ xs) all = refl
  form_kept (Mark ∷ xs) all = refl
  form_kept (Null ∷ xs) all = refl

  pub anchor_kept : (name : List ℕ) → anchor_of s' name ≡ anchor_of s name
  anchor_kept name =
      on (top_of s) (top_of s') _ _ top_kept (λ top e. on (dict_at s top (codes "anchors")) (dict_at s' top (codes "anchors")) _ _ (dict_kept top (codes "anchors")) (λ anchors e. number_kept anchors name))

  address_kept : (base : Option ℕ) (form : Form) → address_of s' base form ≡ address_of s base form
  address_kept base (Absolute n) = refl
  address_kept base (FromAnchor n name) = ap (λ (z : Walked ℕ). z >>= λ at. Ok (Some (sum_of n at))) (anchor_kept name)
  address_kept (Some base) (FromBase n) = refl
  address_kept None (FromBase n) = refl
  address_kept base Other = refl

  -- ---- objects

  module _ (p : ℕ) where
    object_kept : (x : DictId) (base : ℕ) → object_at s' x p base ≡ object_at s x p base
    object_kept x base =
        on (dict_at s x (codes "type")) (dict_at s' x (codes "type")) _ _ (dict_kept x (codes "type")) (λ t e. on (number_at s t (codes "size")) (number_at s' t (codes "size")) _ _ (number_kept t (codes "size"))
        (λ n e. by t n (belongs base n p)))
      where
        by : (t : DictId) (n : ℕ) (b : Bool)
            → ◌≡◌ {A = Walked (Option Found)} (elim b [
              | false ↦ Ok None
              | true ↦ string_at s' x (codes "label") >>= λ label. Ok (Some (record { label = label; ctype = t; activation = None; base = base; size = n; at = p - base; literal = false }))
            ]) (elim b [
              | false ↦ Ok None
              | true ↦ string_at s x (codes "label") >>= λ label. Ok (Some (record { label = label; ctype = t; activation = None; base = base; size = n; at = p - base; literal = false }))
            ])
        by t n false = refl
        by t n true =
            ap (λ (z : Walked StringId). z >>= λ label. Ok (Some (record { label = label; ctype = t; activation = None; base = base; size = n; at = p - base; literal = false }))) (label_kept x (codes "label"))

    object_there_kept : (x : DictId) (o : Option ℕ) → object_or_none s' x p o ≡ object_or_none s x p o
    object_there_kept x None = refl
    object_there_kept x (Some base) = object_kept x base

    symbol_kept : (base : Option ℕ) (x : DictId) (code : List PsObj) → All code → found_symbol s' base p x code ≡ found_symbol s base p x code
    symbol_kept base x code all =
        on (address_of s base (form_of s code)) (address_of s' base (form_of s' code)) _ _ (ap (λ (f : Form). address_of s' base f) (form_kept code all) ∙ address_kept base (form_of s code)) (λ o e. object_there_kept x o)

    static_kept : (x : PsObj) → static_object s' p x ≡ static_object s p x
    static_kept x =
        on (dict_in x) (dict_in x) _ _ refl (λ d e. on (procedure_at s d (codes "where")) (procedure_at s' d (codes "where")) _ _ (code_kept d (codes "where"))
        (λ code e. on (found_symbol s None p d code) (found_symbol s' None p d code) _ _ (symbol_kept None d code (code_there d (codes "where") code e)) (λ o e. ap Ok (as_kept d o))))
      where
        as_kept : (d : DictId) (o : Option Found) → as_static s' d o ≡ as_static s d o
        as_kept d None = refl
        as_kept d (Some o) = ap (λ (es : List (Key × Pair)). Some (record o { literal = is_none (value_at es (NameKey (codes "name"))) })) (entries_kept u s s' g d)

    statics_kept : (o : Option PsObj) → ((x : PsObj) → o ≡ Some x → IsThere s x) → statics_in s' p o ≡ statics_in s p o
    statics_kept None h = refl
    statics_kept (Some x) h =
        on (items_in s x) (items_in s' x) _ _ (items_in_kept x (h x refl)) (λ xs e. first_kept (λ n x. static_object s p x) (λ n x. static_object s' p x) (λ n x k. static_kept x) 0 xs (items_there x xs e))

    static_at_kept : static_at s' p ≡ static_at s p
    unfolding static_at
    static_at_kept =
        on (top_of s) (top_of s') _ _ top_kept (λ top e. ap (λ (es : List (Key × Pair)). statics_in s' p (value_at es (NameKey (codes "objects")))) (entries_kept u s s' g top)
        ∙ statics_kept (value_at (entries_of s top) (NameKey (codes "objects"))) (λ x e. whole.values top (NameKey (codes "objects")) x e))

    abbrev or_onward : Walked (Option Found) → Option Found → Walked (Option Found)
    or_onward onward found = elim found [ Some o ↦ Ok (Some o) | None ↦ onward ]

    abbrev if_local : StoreState → (base : ℕ) → DictId → Walked (Option Found) → List PsObj → Bool → Walked (Option Found)
    if_local k base x onward code b = elim b [
      | false ↦ Ok None
      | true ↦ found_symbol k (Some base) p x code >>= or_onward onward
    ]

    here_kept : (base : ℕ) (x : DictId) (onward onward' : Walked (Option Found)) → onward' ≡ onward → local_here s' base p x onward' ≡ local_here s base p x onward
    here_kept base x onward onward' same =
        on (procedure_at s x (codes "where")) (procedure_at s' x (codes "where")) _ _ (code_kept x (codes "where")) (λ code e.
        ap (λ (b : Bool). if_local s' base x onward' code b) (local_kept code (code_there x (codes "where") code e)) ∙ by code (code_there x (codes "where") code e) (is_local s code))
      where
        goes_on : (found : Option Found) → or_onward onward' found ≡ or_onward onward found
        goes_on (Some o) = refl
        goes_on None = same

        by : (code : List PsObj) → All code → (b : Bool) → if_local s' base x onward' code b ≡ if_local s base x onward code b
        by code all false = refl
        by code all true = on (found_symbol s (Some base) p x code) (found_symbol s' (Some base) p x code) (or_onward onward) (or_onward onward') (symbol_kept (Some base) x code all) (λ found e. goes_on found)

    among_kept : (n base : ℕ) (o : Option DictId) → local_among n s' base p o ≡ local_among n s base p o
    among_kept n base None = refl
    among_kept zero base (Some x) = here_kept base x (Ok None) (Ok None) refl
    among_kept (suc n) base (Some x) =
        here_kept base x (uplink_of s x >>= local_among n s base p) (uplink_of s' x >>= local_among n s' base p)
        (on (uplink_of s x) (uplink_of s' x) (local_among n s base p) (local_among n s' base p) (link_kept x (codes "uplink")) (λ o e. among_kept n base o))

    local_at_kept : (number : ℕ) (f : Frame) → local_at s' number f p ≡ local_at s number f p
    unfolding local_at
    local_at_kept number f = on (scope_of s number f) (scope_of s' number f) _ _ (scope_kept number f) (λ o e. among_kept (MOST_SYMBOLS - 1) f.base o)

    module _ (row : TargetRow) (b : Bytes) where
      abbrev onward : StoreState → (n number : ℕ) → Option Frame → Walked (Option Found)
      onward k n number g = elim g [ None ↦ Ok None | Some g ↦ found_outward row k b p n number g ]

      abbrev outer : StoreState → (n number : ℕ) → Frame → Option Found → Walked (Option Found)
      outer k n number f found = elim found [
        | Some o ↦ outward row k b (suc n) f >>= λ outer. Ok (Some (with_activation o outer))
        | None ↦ next_frame row k b f >>= onward k n (suc number)
      ]

      onward_kept : (n number : ℕ) → ((f : Frame) → found_outward row s' b p n number f ≡ found_outward row s b p n number f) → (g : Option Frame) → onward s' n number g ≡ onward s n number g
      onward_kept n number h None = refl
      onward_kept n number h (Some g) = h g

      outer_kept : (n number : ℕ) (f : Frame) → ((f : Frame) → found_outward row s' b p n (suc number) f ≡ found_outward row s b p n (suc number) f) → (found : Option Found)
          → outer s' n number f found ≡ outer s n number f found
      outer_kept n number f h (Some o) = ap (λ (z : Walked (List Frame)). z >>= λ outer. Ok (Some (with_activation o outer))) (outward_kept row b (suc n) f)
      outer_kept n number f h None = on (next_frame row s b f) (next_frame row s' b f) (onward s n (suc number)) (onward s' n (suc number)) (next_kept row b row f) (λ g e. onward_kept n (suc number) h g)

      found_outward_kept : (n number : ℕ) (f : Frame) → found_outward row s' b p n number f ≡ found_outward row s b p n number f
      found_outward_kept zero number f = ap (λ (z : Walked (Option Found)). z >>= λ found. elim found [ None ↦ Ok None | Some o ↦ Ok (Some (with_activation o [])) ]) (local_at_kept number f)
      found_outward_kept (suc n) number f =
          on (local_at s number f p) (local_at s' number f p) (outer s n number f) (outer s' n number f) (local_at_kept number f) (λ found e. outer_kept n number f (found_outward_kept n (suc number)) found)

      abbrev behind_statics : StoreState → (context : ℕ) → Option Found → Walked (Option Found)
      behind_statics k context found = elim found [
        | Some o ↦ Ok (Some o)
        | None ↦ first_frame row k b context >>= onward k (MOST_FRAMES - 1) 0
      ]

      pub found_at_kept : (context : ℕ) → found_at row s' b context p ≡ found_at row s b context p
      unfolding found_at
      found_at_kept context = on (static_at s p) (static_at s' p) (behind_statics s context) (behind_statics s' context) static_at_kept (λ found e. by found)
        where
          by : (found : Option Found) → behind_statics s' context found ≡ behind_statics s context found
          by (Some o) = refl
          by None =
              on (first_frame row s b context) (first_frame row s' b context) (onward s (MOST_FRAMES - 1) 0) (onward s' (MOST_FRAMES - 1) 0) (first_frame_kept row b context)
              (λ g e. onward_kept (MOST_FRAMES - 1) 0 (found_outward_kept (MOST_FRAMES - 1) 0) g)

  -- ---- names

  name_here_kept : (text : List ℕ) (x : DictId) (onward onward' : Walked (Option DictId)) → onward' ≡ onward
      → ◌≡◌ {A = Walked (Option DictId)} (text_at s' x (codes "name") >>= λ name. elim (bytes_eq name text) [ true ↦ Ok (Some x) | false ↦ onward' ])
      (text_at s x (codes "name") >>= λ name. elim (bytes_eq name text) [ true ↦ Ok (Some x) | false ↦ onward ])
  name_here_kept text x onward onward' same = on (text_at s x (codes "name")) (text_at s' x (codes "name")) _ _ (text_at_kept x (codes "name")) (λ name e. by (bytes_eq name text))
    where
      by : (b : Bool) → ◌≡◌ {A = Walked (Option DictId)} (elim b [ true ↦ Ok (Some x) | false ↦ onward' ]) (elim b [ true ↦ Ok (Some x) | false ↦ onward ])
      by true = refl
      by false = same

  named_among_kept : (n : ℕ) (text : List ℕ) (o : Option DictId) → named_among n s' text o ≡ named_among n s text o
  named_among_kept n text None = refl
  named_among_kept zero text (Some x) = name_here_kept text x (Ok None) (Ok None) refl
  named_among_kept (suc n) text (Some x) =
      name_here_kept text x (uplink_of s x >>= named_among n s text) (uplink_of s' x >>= named_among n s' text)
      (on (uplink_of s x) (uplink_of s' x) (named_among n s text) (named_among n s' text) (link_kept x (codes "uplink")) (λ o e. named_among_kept n text o))

  symbol_named_kept : (scope : Option DictId) (text : List ℕ) → symbol_named s' scope text ≡ symbol_named s scope text
  unfolding symbol_named
  symbol_named_kept scope text = named_among_kept (MOST_SYMBOLS - 1) text scope

  -- ---- expressions

  module _ (sc : Scene) (names : List Symbol) where
    leads_kept : (code : Code) (p : Place) → Leads sc s code p → Leads sc s' code p
    leads_kept _ _ (at_anchor n at name low short there) = at_anchor n at name low short (anchor_kept name ∙ there)
    leads_kept _ _ (in_frame n low) = in_frame n low
    leads_kept _ _ (in_frame_as_register n low) = in_frame_as_register n low
    leads_kept _ _ (at_address n low) = at_address n low
    leads_kept _ _ (in_register n low) = in_register n low

    named_kept : (n : ℕ) (p : Place) → IsNamed sc s names n p → IsNamed sc s' names n p
    named_kept n p x =
        let there : IsArray s' x.body (elements_of s x.body) = array_kept u s s' x.body (elements_of s x.body) g (record { has = x.has; items = refl }) in
        record {
          symbol = x.symbol;
          row = x.row;
          body = x.body;
          code = x.code;
          symbol_is = x.symbol_is;
          row_is = x.row_is;
          plain = x.plain;
          short = x.short;
          found = symbol_named_kept sc.scope x.row.name ∙ x.found;
          where_is = entry_kept x.symbol (codes "where") ∙ x.where_is;
          has = there.has;
          spells = subst (λ (l : List PsObj). Spells s' l x.code) (sym there.items) (spells_kept x.code u s s' (elements_of s x.body) g x.spells);
          leads = leads_kept x.code p x.leads;
        }

    stands_kept : (e : Typed) (t : CType) (p : Place) → Stands sc s names e t p → Stands sc s' names e t p
    stands_kept _ _ _ (at_name h n p x) = at_name h n p (named_kept n p x)
    stands_kept _ _ _ (in_struct h b a t k m row p st is get low) = in_struct h b a t k m row p (stands_kept a t p st) is get low
    stands_kept _ _ _ (place_in_parens h b a t p st) = place_in_parens h b a t p (stands_kept a t p st)

    read_kept : (e : Typed) → IsRead sc s names e → IsRead sc s' names e
    read_kept _ (scalar e t p st is) = scalar e t p (stands_kept e t p st) is
    read_kept _ (array e t p st is) = array e t p (stands_kept e t p st) is
    read_kept _ (address h b e t p st) = address h b e t p (stands_kept e t p st)

    there_kept : (p : ℕ) → object_there sc s' p ≡ object_there sc s p
    there_kept p = found_at_kept p sc.target.row (bytes_with sc 0) sc.target.context

    settled_kept : IsSettled sc s → IsSettled sc s'
    settled_kept settled p n e = settled p n (sym (there_kept p) ∙ e)

    small_kept : HasSmallObjects sc s → HasSmallObjects sc s'
    small_kept objects = record {
      small = λ p o e. objects.small p o (sym (there_kept p) ∙ e);
      told = λ p i o l e within h. objects.told p i o l (sym (there_kept p) ∙ e) within (sym (there_kept (sum_of o.base i)) ∙ h);
    }

    count_kept : (t : CType) → IsCount sc s t → IsCount sc s' t
    count_kept t (inl plain) = inl plain
    count_kept t (inr objects) = inr (small_kept objects)

    offset_kept : (n : ℕ) → IsOffset sc s n → IsOffset sc s' n
    offset_kept n (inl low) = inl low
    offset_kept n (inr x) = inr (x.0, small_kept x.1)

    moves_kept : (op : BinaryOp) (k l : CType) → OnPointers sc s op k l → OnPointers sc s' op k l
    moves_kept _ _ _ (moves_on k l a e e' count low) = moves_on k l a e e' (count_kept l count) low
    moves_kept _ _ _ (on_by k l a e e' count low) = on_by k l a e e' (count_kept k count) low
    moves_kept _ _ _ (back k l a e e' count low) = back k l a e e' (count_kept l count) low
    moves_kept _ _ _ (ordered op k l a b is e e') = ordered op k l a b is e e'
    moves_kept _ _ _ (apart k l a b e e' low) = apart k l a b e e' low

    mutual
      pub evaluated_kept : (e : Typed) → IsEvaluated sc s names e → IsEvaluated sc s' names e
      evaluated_kept _ (constant h n low) = constant h n low
      evaluated_kept _ (size h p a low) = size h p a low
      evaluated_kept _ (size_of_type h t low) = size_of_type h t low
      evaluated_kept _ (by_name e is) = by_name e (read_kept e is)
      evaluated_kept _ (in_parens h p a is) = in_parens h p a (evaluated_kept a is)
      evaluated_kept _ (cast h p a is) = cast h p a (evaluated_kept a is)
      evaluated_kept _ (on_one h op p a is) = on_one h op p a (evaluated_kept a is)
      evaluated_kept _ (on_two h p a op q b taken is is') = on_two h p a op q b taken (evaluated_kept a is) (evaluated_kept b is')
      evaluated_kept _ (in_turn h p a q b is is') = in_turn h p a q b (evaluated_kept a is) (evaluated_kept b is')
      evaluated_kept _ (one_of h p c q a r b is is' is'') = one_of h p c q a r b (evaluated_kept c is) (evaluated_kept a is') (evaluated_kept b is'')
      evaluated_kept _ (either h p a q b is is') = either h p a q b (evaluated_kept a is) (evaluated_kept b is')
      evaluated_kept _ (both h p a q b is is') = both h p a q b (evaluated_kept a is) (evaluated_kept b is')
      evaluated_kept _ (pointed_array e t is at_array) = pointed_array e t (pointed_kept e t is) at_array
      evaluated_kept _ (pointed_address h p e t is) = pointed_address h p e t (pointed_kept e t is)
      evaluated_kept _ (pointed_scalar e t is at_scalar settled) = pointed_scalar e t (pointed_kept e t is) at_scalar (settled_kept settled)
      evaluated_kept _ (on_pointers h p a op q b moves settled is is') = on_pointers h p a op q b (moves_kept op (type_of a) (type_of b) moves) (settled_kept settled) (evaluated_kept a is) (evaluated_kept b is')

      pointed_kept : (e : Typed) (t : CType) → IsPointed sc s names e t → IsPointed sc s' names e t
      pointed_kept _ _ (followed h p a is) = followed h p a (evaluated_kept a is)
      pointed_kept _ _ (item h p a q b moves settled is is') = item h p a q b (moves_kept Add (type_of a) (type_of b) moves) (settled_kept settled) (evaluated_kept a is) (evaluated_kept b is')
      pointed_kept _ _ (member h p a k m row to get low settled is) = member h p a k m row to get (offset_kept row.at low) (settled_kept settled) (evaluated_kept a is)
      pointed_kept _ _ (member_there h p a t k m row is get low settled at) = member_there h p a t k m row is get (offset_kept row.at low) (settled_kept settled) (pointed_kept a t at)
      pointed_kept _ _ (followed_in_parens h p a t is) = followed_in_parens h p a t (pointed_kept a t is)
