-- The functions of a unit are made.
use Rattle.std.proofs.Common.{◌≡◌, ℕ, ℤ, pos, zero, suc, ◌+◌, ◌*◌, ◌<◌, ◌≤◌, ◌^◌, Bool, true, false, Option, Some, None, List, [], ◌∷◌, ◌++◌, length, reverse, codes, slice_get, refl, sym, ap, ◌∙◌, subst, arith, append_assoc, append-nil, length-append}
use Rattle.std.proofs.lemmas.List.{reverse-append}
use Rattle.std.specs.List.{AllByRecursion}
use Rattle.ldb_words.specs.Word.{signed}
use Rattle.ps_scan.specs.Bytes.{is_regular, is_white, is_special}
use Rattle.obj_file.specs.declared.object.FunctionRow.{FunctionRow as Placed}
use Rattle.obj_file.specs.declared.object.LocalPlace.{LocalPlace}
use Rattle.c_tree.specs.declared.rows.Program.{Program}
use Rattle.c_tree.specs.declared.rows.Function.{Function}
use Rattle.c_tree.specs.declared.rows.Point.{Point}
use Rattle.ps_store.specs.declared.object.PsObj.{PsObj}
use Rattle.ps_store.specs.declared.object.PsObj.TheVariants.{Int, Bool as Truth, Str, Array, Dict, Op, Mark}
use Rattle.ps_store.specs.declared.object.ArrayId.{ArrayId}
use Rattle.ps_store.specs.declared.object.DictId.{DictId}
use Rattle.ps_store.specs.declared.object.StringId.{StringId}
use Rattle.ps_store.specs.declared.key.Key.TheVariants.{Name as NameKey}
use Rattle.ps_store.specs.Entries.{value_at}
use Rattle.ps_store.specs.Operators.{operator_number}
use Rattle.ps_store.specs.StoreState.{StoreState}
use Rattle.ps_store.specs.Store.{entries_of, text_units}
use Rattle.ps_step.specs.declared.item.Item.{Item}
use Rattle.ps_step.specs.declared.item.Item.TheVariants.{Text as TextItem}
use Rattle.ps_step.specs.declared.machine.PsCore.{PsCore}
use Rattle.ps_text.specs.Code.{Code, Stop, Num, Word, Text, render}
use Rattle.ps_text.specs.Grown.{IsArray, IsString}
use Rattle.ps_text.specs.Spells.{Fine, units}
use Rattle.ps_text.proofs.Checks.{fine}
use Rattle.ps_terms.specs.Machine.{Does}
use Rattle.ps_terms.specs.Stands.{core, Means}
use Rattle.ps_terms.specs.Printing.{further}
use Rattle.ps_emit.specs.Terms.{◌⋯◌}
use Rattle.ps_emit.specs.Places.{Homes, homes}
use Rattle.ps_emit.specs.Functions.{truth, saved_code, points_code, made_by, function_code, function_in, made_in, functions_code}
use Rattle.ps_emit.specs.Lengths.{IsInteger}
use Rattle.ps_tables.specs.Taken.{Takes}
use Rattle.ps_tables.specs.Dictionaries.{Fields, filled}
use Rattle.ps_tables.specs.Making.{IsMaking, HasFields, AreShort}
use Rattle.ps_tables.specs.Later.{Later, StandsAt}
use Rattle.ps_tables.specs.Makers.{body, calls}
use Rattle.ps_tables.specs.TableWords.{new_function}
use Rattle.ps_tables.specs.Pieces.{Piece, End, Number, Value, Row, code, cost, steps, left_by, IsValue, truth as gives_true, falsehood, Knows, HasRoom, Values, Bottom, This, Listed, after, Show, Performs}
use Rattle.ps_tables.specs.TablePieces.{saved}
use Rattle.ps_tables.specs.Defined.{in_table}
use Rattle.ps_tables.specs.Senses.{Called, HasSense}
use Rattle.ps_tables.specs.WordsKnown.{word_senses, function_body}
use Rattle.ps_tables.proofs.Going.{takes_then, takes_one}
use Rattle.ps_tables.proofs.Types.{value_of, fields_value}
use Rattle.ps_tables.proofs.TypeTexts.{small_integer}
use Rattle.ps_tables.proofs.Tokens.{Pushed}
use Rattle.ps_tables.proofs.PieceSteps.{open_fine, open_number, opens, Closes, closes}
use Rattle.ps_tables.proofs.Pieces.{performs}
use Rattle.ps_tables.proofs.TablePieces.{assoc}
use Rattle.ps_tables.proofs.MembersRun.{further_is}
use Rattle.ps_tables.proofs.WordsKnown.{sense_is}
use Rattle.unit_tables.specs.Amended.{Amended, HasNoNames}
use Rattle.unit_tables.specs.Shown.{ArePoints, AreSaved, IsFunction}
use Rattle.unit_tables.specs.Running.{IsMade, Running}
use Rattle.unit_tables.specs.Symbols.{RunsPlace, ArePlaces}
use Rattle.unit_tables.specs.Points.{with_point, point_rows, points_steps, points_made, AreFollowed}
use Rattle.unit_tables.specs.Conditions.{RunsPlaced, RunsFunction, RunsUnits, IsFollowedIn, FunctionsFollowed}
use Rattle.unit_tables.specs.Functions.{truth_word, saved_parts, front_parts, rows_of, function_steps, function_made, steps_in, units_in, functions_steps, functions_made, with_function, function_rows, AreFunctions}
use Rattle.unit_tables.proofs.Amended.{amended_none, amended_then, amended_within, later_amended}
use Rattle.unit_tables.proofs.Staying.{points_amended, saved_amended, function_amended, running_later}
use Rattle.unit_tables.proofs.Exactly.{MakesDict, makes_exactly}
use Rattle.unit_tables.proofs.Symbols.{any_fine, integer_fine}
use Rattle.unit_tables.proofs.Points.{PointsDone, points_done, by_within, all_then}

new_function_fine : Fine (Word (codes "NewFunction") Stop)
unfolding is_white is_special is_regular
new_function_fine = fine (Word (codes "NewFunction") Stop) refl

true_fine : Fine (Word (codes "true") Stop)
unfolding is_white is_special is_regular
true_fine = fine (Word (codes "true") Stop) refl

false_fine : Fine (Word (codes "false") Stop)
unfolding is_white is_special is_regular
false_fine = fine (Word (codes "false") Stop) refl

true_number : operator_number (codes "true") ≡ Some 58
unfolding operator_number
true_number = refl

false_number : operator_number (codes "false") ≡ Some 59
unfolding operator_number
false_number = refl

-- ---- values of operands

abbrev pub these : List PsObj → Values
these [] = Bottom
these (x ∷ xs) = This x (these xs)

pub show_these : (s : StoreState) (xs : List PsObj) → AllByRecursion IsValue xs → Show s xs (these xs)
show_these s [] h = refl
show_these s (x ∷ xs) h = (xs, refl, h.0, show_these s xs h.1)

-- ---- what stands in front of the points

saved_is : (rs : List (ℕ × ℤ)) (k : Code) → code (saved_parts rs) k ≡ (saved_code rs ⋯ k)
saved_is [] k = refl
saved_is (r ∷ rs) k = ap (λ c. Word (codes "[") (Num (pos r.0) (Num r.1 (Word (codes "]") c)))) (saved_is rs k)

saved_takes : (rs : List (ℕ × ℤ)) → steps (saved_parts rs) ≡ 4 * length rs
saved_takes [] = refl
saved_takes (r ∷ rs) = let e = saved_takes rs in omega arith

saved_makes : (rs : List (ℕ × ℤ)) → cost (saved_parts rs) ≡ 7 * length rs
saved_makes [] = refl
saved_makes (r ∷ rs) = let e = saved_makes rs in omega arith

saved_left : (rs : List (ℕ × ℤ)) → left_by (saved_parts rs) ≡ length rs
saved_left [] = refl
saved_left (r ∷ rs) = ap suc (saved_left rs)

saved_room : (rs : List (ℕ × ℤ)) (n : ℕ) → n + length rs + 120 ≤ 100000 → HasRoom n (saved_parts rs)
saved_room [] n h = omega arith
saved_room (r ∷ rs) n h = (omega arith, saved_room rs (suc n) (omega arith))

saved_known : (s : StoreState) (ds : List DictId) (rs : List (ℕ × ℤ)) → AllByRecursion (λ (r : ℕ × ℤ). (r.0 < 2 ^ 31) × IsInteger r.1) rs → Knows s ds (saved_parts rs)
saved_known s ds [] h = tt
saved_known s ds (r ∷ rs) h = (omega arith, ((small_integer r.0 h.0.0, tt), (integer_fine r.1 h.0.1, tt)), saved_known s ds rs h.1)

-- what is shown of them, the last one first
record SavedShown (s : StoreState) (zs : List PsObj) (rs : List (ℕ × ℤ)) (vs : Values) : Type 0 where
  pub front : List PsObj
  pub back : List PsObj
  pub are : zs ≡ front ++ back
  pub shows : Show s back vs
  pub saved : AreSaved s (reverse front) rs

saved_shown : (s : StoreState) (rs : List (ℕ × ℤ)) (zs : List PsObj) (vs : Values) → Show s zs (after (saved_parts rs) vs) → SavedShown s zs rs vs
saved_shown s [] zs vs h = record { front = []; back = zs; are = refl; shows = h; saved = tt }
saved_shown s (r ∷ rs) zs vs h =
    let one : SavedShown s zs rs (Listed (This (Int r.1) (This (Int (pos r.0)) Bottom)) vs) = saved_shown s rs zs (Listed (This (Int r.1) (This (Int (pos r.0)) Bottom)) vs) h in
    let l = one.shows in
    let a : ArrayId = l.0 in
    let items = l.5 in
    let two : l.1 ≡ Int r.1 ∷ Int (pos r.0) ∷ [] = items.1 ∙ ap (λ (ys : List PsObj). Int r.1 ∷ ys) (items.3.1 ∙ ap (λ (ys : List PsObj). Int (pos r.0) ∷ ys) items.3.3) in
    let turned : reverse (one.front ++ Array a false ∷ []) ≡ Array a false ∷ reverse one.front = reverse-append one.front (Array a false ∷ []) in
    record {
      front = one.front ++ Array a false ∷ [];
      back = l.2;
      are = one.are ∙ ap (λ (ys : List PsObj). one.front ++ ys) l.3 ∙ sym (append_assoc one.front (Array a false ∷ []) l.2);
      shows = l.6;
      saved = subst (λ (ys : List PsObj). AreSaved s ys (r ∷ rs)) (sym turned) ((a, refl, subst (λ (ys : List PsObj). IsArray s a (reverse ys)) two l.4), one.saved);
    }

word_of : (b : Bool) (k : Code) → Word (truth_word b) k ≡ (truth b ⋯ k)
word_of true k = refl
word_of false k = refl

two_units : (b : Bool) → text_units (truth_word b) ≡ 2
two_units true = refl
two_units false = refl

front_is : (f : Function) (at : Placed) (k : Code)
    → code (front_parts f at) k ≡ Text f.name (truth f.is_static ⋯ Num (signed at.entry) (Num (signed at.end) (Num (signed at.frame) (Word (codes "[") (saved_code at.saved ⋯ Word (codes "]") k)))))
front_is f at k =
    ap (λ c. Text f.name c)
    (word_of f.is_static _ ∙ ap (λ c. truth f.is_static ⋯ Num (signed at.entry) (Num (signed at.end) (Num (signed at.frame) (Word (codes "[") c)))) (saved_is at.saved (Word (codes "]") k)))

-- a function's text, with its points between two others
whole_is : (b : Bool) (name : List ℕ) (entry end frame : ℤ) (saved points k : Code)
    → ((Text name (truth b ⋯ Num entry (Num end (Num frame ((Word (codes "[") (saved ⋯ Word (codes "]") Stop)) ⋯ ((Word (codes "[") (points ⋯ Word (codes "]") Stop)) ⋯ Word (codes "NewFunction") Stop)))))) ⋯ k)
    ≡ Text name (truth b ⋯ Num entry (Num end (Num frame (Word (codes "[") (saved ⋯ Word (codes "]") (Word (codes "[") (points ⋯ Word (codes "]") (Word (codes "NewFunction") k))))))))
whole_is b name entry end frame saved points k = on b
  where
    inner : (((saved ⋯ Word (codes "]") Stop) ⋯ Word (codes "[") ((points ⋯ Word (codes "]") Stop) ⋯ Word (codes "NewFunction") Stop)) ⋯ k) ≡ (saved ⋯ Word (codes "]") (Word (codes "[") (points ⋯ Word (codes "]") (Word (codes "NewFunction") k))))
    inner =
        assoc (saved ⋯ Word (codes "]") Stop) (Word (codes "[") ((points ⋯ Word (codes "]") Stop) ⋯ Word (codes "NewFunction") Stop)) k
        ∙ assoc saved (Word (codes "]") Stop) (Word (codes "[") (((points ⋯ Word (codes "]") Stop) ⋯ Word (codes "NewFunction") Stop) ⋯ k))
        ∙ ap (λ c. saved ⋯ Word (codes "]") (Word (codes "[") c)) (assoc (points ⋯ Word (codes "]") Stop) (Word (codes "NewFunction") Stop) k ∙ assoc points (Word (codes "]") Stop) (Word (codes "NewFunction") k))

    on : (c : Bool) → ((Text name (truth c ⋯ Num entry (Num end (Num frame (Word (codes "[") ((saved ⋯ Word (codes "]") Stop) ⋯ Word (codes "[") ((points ⋯ Word (codes "]") Stop) ⋯ Word (codes "NewFunction") Stop))))))) ⋯ k)
        ≡ Text name (truth c ⋯ Num entry (Num end (Num frame (Word (codes "[") (saved ⋯ Word (codes "]") (Word (codes "[") (points ⋯ Word (codes "]") (Word (codes "NewFunction") k))))))))
    on true = ap (λ c. Text name (Word (codes "true") (Num entry (Num end (Num frame (Word (codes "[") c)))))) inner
    on false = ap (λ c. Text name (Word (codes "false") (Num entry (Num end (Num frame (Word (codes "[") c)))))) inner

pub all_places : (f : Function) (at : Placed) → RunsPlaced at → ArePlaces (homes at.locals f.locals)
all_places f at h x = on at.locals x h.locals
  where
    on : (ls : List LocalPlace) (n : ℕ) → AllByRecursion (λ (l : LocalPlace). RunsPlace (Some l)) ls → RunsPlace (slice_get ls n)
    on [] n k = tt
    on (l ∷ ls) zero k = k.0
    on (l ∷ ls) (suc n) k = on ls n k.1

-- no more functions than numbers
pub functions_few : (program : Program) (fs : List Placed) (xs : List ℕ) → length (function_rows program fs xs) ≤ length xs
functions_few program fs [] = omega arith
functions_few program fs (x ∷ xs) = on (slice_get program.functions x) (slice_get fs x) (functions_few program fs xs)
  where
    on : (f : Option Function) (at : Option Placed) → length (function_rows program fs xs) ≤ length xs → length (with_function program fs f at (function_rows program fs xs)) ≤ suc (length xs)
    on None None h = omega arith
    on None (Some at) h = omega arith
    on (Some f) None h = omega arith
    on (Some f) (Some at) h = omega arith

-- ---- room

abbrev function_keys : List (List ℕ)
function_keys = codes "points" ∷ codes "saved" ∷ codes "frame" ∷ codes "end" ∷ codes "entry" ∷ codes "static" ∷ codes "name" ∷ []

keys_short : AreShort function_keys
keys_short = (omega arith, (omega arith, (omega arith, (omega arith, (omega arith, (omega arith, (omega arith, tt)))))))

few_keys : length function_keys ≤ 90
few_keys = omega arith

no_calls : calls new_function ≤ 80
no_calls = omega arith

seven : 7 ≤ 7
seven = omega arith

-- of an array of points: so many units for them, and what was made before
module _ (before rows points : ℕ) (room : before + (5 + rows + points) ≤ 8000000) where
  room_mark : before + 2 ≤ 8000000
  room_mark = omega arith

  room_points : (a : ℕ) → a ≤ before + 2 → a + points ≤ 8000000
  room_points a made_a = omega arith

  room_close : (a : ℕ) → a ≤ before + 2 → (b items : ℕ) → b ≤ a + points → items ≡ rows → b + (2 + (1 + items)) ≤ 8000000
  room_close a made_a b items made_b same = omega arith

fits_row : (rows points items : ℕ) → items ≡ rows → 2 + points + (2 + (1 + items)) ≤ 5 + rows + points
fits_row rows points items same = omega arith

row_steps : (n : ℕ) → further 1 (further n 1) ≡ 2 + n
row_steps n = let f = further_is n 1 in omega arith

-- of a function: its name, its saved registers, its points
module _ (before name saved rows points : ℕ) (room : before + (name + 22 + 8 * saved + rows + points) ≤ 8000000) where
  room_front : before + (name + 7 + 8 * saved) ≤ 8000000
  room_front = omega arith

  module _ (a : ℕ) (made_a : a ≤ before + (name + 7 + 8 * saved)) where
    room_row : a + (5 + rows + points) ≤ 8000000
    room_row = omega arith

    room_word : (b : ℕ) → b ≤ a + (5 + rows + points) → b + 10 ≤ 8000000
    room_word b made_b = omega arith

fits_all : (name saved rows points : ℕ) → name + 7 + 8 * saved + (5 + rows + points + 10) ≤ name + 22 + 8 * saved + rows + points
fits_all name saved rows points = omega arith

few_items : (items rows points : ℕ) → items ≡ rows → rows ≤ points → points ≤ 40000 → items ≤ 1000000
few_items items rows points same less few = omega arith

all_steps : (saved points : ℕ) → further (7 + 4 * saved) (further (2 + points) 45) ≡ 54 + 4 * saved + points
all_steps saved points = let e = further_is (7 + 4 * saved) (further (2 + points) 45) in let f = further_is (2 + points) 45 in omega arith

-- ---- runs

module _ (program : Program) (fs : List Placed) (is_unit : RunsUnits program fs) (i : ℕ) (ds : List DictId) (t : StringId) (under : List Item) (items_fit : length under + 100 ≤ 1000) (post : List ℕ) where
  abbrev D : DictId
  D = in_table i

  abbrev all : List DictId
  all = D ∷ ds

  abbrev Done : StoreState → ℕ → Type 0
  Done s made = Running program.defs program.symbols (length program.objects) s i ds made (IsMade program.symbols made)

  rows_few : (xs addresses : List ℕ) → length (point_rows program.defs program.symbols program.points xs addresses) ≤ length xs
  rows_few [] addresses = omega arith
  rows_few (x ∷ xs) [] = omega arith
  rows_few (x ∷ xs) (a ∷ rest) = on (slice_get program.points x) (rows_few xs rest)
    where
      on : (q : Option Point) → length (point_rows program.defs program.symbols program.points xs rest) ≤ length xs
          → length (with_point program.defs program.symbols program.points q a (point_rows program.defs program.symbols program.points xs rest)) ≤ suc (length xs)
      on None h = omega arith
      on (Some q) h = omega arith

  -- ---- a function

  record FunctionDone (cost steps : ℕ) (s : StoreState) (made : ℕ) (o : List PsObj) (from : ℕ) (rest : List ℕ) (f : Function) (at : Placed) : Type 0 where
    pub store : StoreState
    pub object : PsObj
    pub to : ℕ
    pub running : Done store made
    pub amended : Amended cost D s store
    pub is : IsFunction store program.defs program.symbols object f at (rows_of program fs f at)
    pub stands : StandsAt store t to rest
    pub takes : Takes steps (core s all o (TextItem t from ∷ under)) (core store all (object ∷ o) (TextItem t to ∷ under))

  -- the name, the addresses and the saved registers
  record Front (f : Function) (at : Placed) (s : StoreState) (o : List PsObj) (from : ℕ) (rest : List ℕ) : Type 0 where
    pub store : StoreState
    pub to : ℕ
    pub name : StringId
    pub named : IsString store name f.name
    pub array : ArrayId
    pub registers : List PsObj
    pub holds : IsArray store array registers
    pub saved : AreSaved store registers at.saved
    pub later : Later (text_units f.name + 7 + 8 * length at.saved) s store
    pub stands : StandsAt store t to rest
    pub takes : Takes (7 + 4 * length at.saved) (core s all o (TextItem t from ∷ under))
        (core store all (Array array false ∷ Int (signed at.frame) ∷ Int (signed at.end) ∷ Int (signed at.entry) ∷ Truth f.is_static ∷ Str name false ∷ o) (TextItem t to ∷ under))

  truth_known : (s : StoreState) → IsMaking s all → (b : Bool) (rest : Piece) → Knows s all rest → Knows s all (Value (truth_word b) (Truth b) rest)
  truth_known s is true rest h = (true_fine, Op 58, is.operators (codes "true") 58 true_number, gives_true, h)
  truth_known s is false rest h = (false_fine, Op 59, is.operators (codes "false") 59 false_number, falsehood, h)

  front_done : (f : Function) (at : Placed) (k : Code) (s : StoreState) (o : List PsObj) (from : ℕ) → RunsFunction f → RunsPlaced at → IsMaking s all → length o + length at.saved + 140 ≤ 100000
      → s.table.units + s.command.units + (text_units f.name + 7 + 8 * length at.saved) ≤ 8000000 → StandsAt s t from (render (code (front_parts f at) k) ++ post) → Front f at s o from (render k ++ post)
  front_done f at k s o from of_function placed is stack room stands =
      let row : Piece = Row (saved_parts at.saved) End in
      let numbers : Piece = Number (signed at.entry) (Number (signed at.end) (Number (signed at.frame) row)) in
      let piece : Piece = front_parts f at in
      let few_saved = placed.few_saved in
      let n : ℕ = length o in
      let made : cost (saved_parts at.saved) ≡ 7 * length at.saved = saved_makes at.saved in
      let taken : steps (saved_parts at.saved) ≡ 4 * length at.saved = saved_takes at.saved in
      let left : left_by (saved_parts at.saved) ≡ length at.saved = saved_left at.saved in
      let two : text_units (truth_word f.is_static) ≡ 2 = two_units f.is_static in
      let size : cost piece ≡ text_units f.name + 7 + 8 * length at.saved = omega arith in
      let number : steps piece ≡ 7 + 4 * length at.saved = let e = further_is (steps (saved_parts at.saved)) 1 in omega arith in
      let p : Performs (cost piece) (steps piece) (after piece Bottom) s all o o t from (render k ++ post) under =
      performs all t under items_fit post piece k Bottom s [] o from is (
        (of_function.name, tt),
        truth_known s is f.is_static numbers (any_fine at.entry, (any_fine at.end, (any_fine at.frame, (omega arith, saved_known s all at.saved placed.saved, tt)))),
      )
      (saved_room at.saved (suc (suc (suc (suc (suc (suc n)))))) (omega arith), omega arith) (omega arith) refl stands in
      let s₁ : StoreState = p.store in
      let shows = p.shows in
      let l = shows in
      let a : ArrayId = l.0 in
      let sv : SavedShown s₁ l.1 at.saved Bottom = saved_shown s₁ at.saved l.1 Bottom l.5 in
      let none : l.1 ≡ sv.front = sv.are ∙ ap (λ (ys : List PsObj). sv.front ++ ys) sv.shows ∙ append-nil sv.front in
      let v₁ = l.6 in
      let v₂ = v₁.3 in
      let v₃ = v₂.3 in
      let v₄ = v₃.3 in
      let v₅ = v₄.3 in
      let whole : p.operands ≡ Array a false ∷ Int (signed at.frame) ∷ Int (signed at.end) ∷ Int (signed at.entry) ∷ Truth f.is_static ∷ Str v₅.0 false ∷ [] =
      l.3
      ∙ ap (λ (ys : List PsObj). Array a false ∷ ys)
      (v₁.1
      ∙ ap (λ (ys : List PsObj). Int (signed at.frame) ∷ ys)
      (v₂.1
      ∙ ap (λ (ys : List PsObj). Int (signed at.end) ∷ ys)
      (v₃.1 ∙ ap (λ (ys : List PsObj). Int (signed at.entry) ∷ ys) (v₄.1 ∙ ap (λ (ys : List PsObj). Truth f.is_static ∷ ys) (v₅.2 ∙ ap (λ (ys : List PsObj). Str v₅.0 false ∷ ys) v₅.4))))) in
      let c₀ : PsCore = core s all o (TextItem t from ∷ under) in
      let there : Takes (steps piece) c₀ (core s₁ all (Array a false ∷ Int (signed at.frame) ∷ Int (signed at.end) ∷ Int (signed at.entry) ∷ Truth f.is_static ∷ Str v₅.0 false ∷ o) (TextItem t p.to ∷ under)) =
      subst (λ (ys : List PsObj). Takes (steps piece) c₀ (core s₁ all (ys ++ o) (TextItem t p.to ∷ under))) whole p.takes in
      record {
        store = s₁;
        to = p.to;
        name = v₅.0;
        named = v₅.3;
        array = a;
        registers = reverse l.1;
        holds = l.4;
        saved = subst (λ (ys : List PsObj). AreSaved s₁ (reverse ys) at.saved) (sym none) sv.saved;
        later = subst (λ (j : ℕ). Later j s s₁) size p.later;
        stands = p.stands;
        takes = subst (λ (j : ℕ). Takes j c₀ (core s₁ all (Array a false ∷ Int (signed at.frame) ∷ Int (signed at.end) ∷ Int (signed at.entry) ∷ Truth f.is_static ∷ Str v₅.0 false ∷ o) (TextItem t p.to ∷ under))) number there;
      }

  -- the array of its points
  record PointsRow (f : Function) (at : Placed) (made : ℕ) (s : StoreState) (o : List PsObj) (from : ℕ) (rest : List ℕ) : Type 0 where
    pub store : StoreState
    pub array : ArrayId
    pub items : List PsObj
    pub to : ℕ
    pub running : Done store (made_by program fs made f.points at.points)
    pub holds : IsArray store array items
    pub are : ArePoints store program.defs program.symbols items (rows_of program fs f at)
    pub amended : Amended (5 + length (rows_of program fs f at) + points_made program.defs program.symbols program.points (homes at.locals f.locals) made f.points at.points) D s store
    pub stands : StandsAt store t to rest
    pub takes : Takes (2 + points_steps program.defs program.symbols program.points made f.points at.points) (core s all o (TextItem t from ∷ under)) (core store all (Array array false ∷ o) (TextItem t to ∷ under))

  points_row : (made : ℕ) (f : Function) (at : Placed) (k : Code) (s : StoreState) (o : List PsObj) (from : ℕ) → RunsFunction f → RunsPlaced at → AreFollowed program.defs program.symbols program.points made f.points at.points → made ≤ length program.symbols
      → Done s made → length o ≤ 50010 → s.table.units + s.command.units + (5 + length (rows_of program fs f at) + points_made program.defs program.symbols program.points (homes at.locals f.locals) made f.points at.points) ≤ 8000000
      → StandsAt s t from (render (Word (codes "[") (points_code program fs (homes at.locals f.locals) made f.points at.points ⋯ Word (codes "]") k)) ++ post) → PointsRow f at made s o from (render k ++ post)
  points_row made f at k s o from of_function placed followed bound run stack room stands =
      let few_points = of_function.few_points in
      let fits_mark : length o + 110 ≤ 100000 = omega arith in
      let fits_points : suc (length o) + length f.points + 131 ≤ 100000 = omega arith in
      let rows : List (Point × ℕ) = rows_of program fs f at in
      let h : Homes = homes at.locals f.locals in
      let m₁ : ℕ = made_by program fs made f.points at.points in
      let c : ℕ = points_made program.defs program.symbols program.points h made f.points at.points in
      let n : ℕ = points_steps program.defs program.symbols program.points made f.points at.points in
      let before : ℕ = s.table.units + s.command.units in
      let points : Code = points_code program fs h made f.points at.points in
      let closing : Code = Word (codes "]") k in
      let u : ℕ = units (Word (codes "[") Stop) in
      let begun : Pushed s all o t from under Mark u (render (points ⋯ closing) ++ post) =
      opens all t under post s (codes "[") 9 open_fine open_number (λ c. refl) (points ⋯ closing) o from run.knowing.making stands (room_mark before (length rows) c room) fits_mark in
      let s₁ : StoreState = begun.store in
      let counted₁ : s₁.table.units + s₁.command.units ≤ s.table.units + s.command.units + u = begun.later.counted in
      let run₁ : Done s₁ made = running_later program.defs program.symbols (length program.objects) i ds u made (IsMade program.symbols made) s s₁ begun.later run in
      let r : PointsDone program fs is_unit i ds t under items_fit post h (all_places f at placed) c n s₁ m₁ (Mark ∷ o) begun.to (render closing ++ post) rows =
      points_done program fs is_unit i ds t under items_fit post h (all_places f at placed) f.points at.points closing made s₁ (Mark ∷ o) begun.to followed bound run₁ fits_points
      (room_points before (length rows) c room (s₁.table.units + s₁.command.units) counted₁) begun.stands in
      let s₂ : StoreState = r.store in
      let counted₂ : s₂.table.units + s₂.command.units ≤ s₁.table.units + s₁.command.units + c = r.amended.counted in
      let is₂ : IsMaking s₂ all = r.running.knowing.making in
      let many : length r.items ≡ length rows = r.many in
      let v : ℕ = units (Word (codes "]") Stop) + (1 + length r.items) in
      let w : Closes s₂ all is₂ t under r.items o r.to (render k ++ post) v =
      closes s₂ all is₂ t under (these r.items) k post r.items o r.to (show_these s₂ r.items r.values) (few_items (length r.items) (length rows) (length f.points) many (rows_few f.points at.points) few_points)
      (room_close before (length rows) c room (s₁.table.units + s₁.command.units) counted₁ (s₂.table.units + s₂.command.units) (length r.items) counted₂ many) r.stands in
      let s₃ : StoreState = w.store in
      let a₁ : Amended u D s s₁ = later_amended u D s s₁ begun.later in
      let a₂ : Amended v D s₂ s₃ = later_amended v D s₂ s₃ w.later in
      let k₀ : PsCore = core s all o (TextItem t from ∷ under) in
      let k₁ : PsCore = core s₁ all (Mark ∷ o) (TextItem t begun.to ∷ under) in
      let k₂ : PsCore = core s₂ all (r.items ++ Mark ∷ o) (TextItem t r.to ∷ under) in
      let k₃ : PsCore = core s₃ all (Array w.array false ∷ o) (TextItem t w.to ∷ under) in
      let going : Takes (further 1 (further n 1)) k₀ k₃ = takes_then 1 (further n 1) k₀ k₁ k₃ (takes_one k₀ k₁ begun.steps) (takes_then n 1 k₁ k₂ k₃ r.takes (takes_one k₂ k₃ w.steps)) in
      record {
        store = s₃;
        array = w.array;
        items = reverse r.items;
        to = w.to;
        running = running_later program.defs program.symbols (length program.objects) i ds v m₁ (IsMade program.symbols m₁) s₂ s₃ w.later r.running;
        holds = w.is_array;
        are = points_amended v i s₂ s₃ a₂ r.running.nameless program.defs program.symbols (reverse r.items) rows r.are;
        amended = amended_within (u + c + v) (5 + length rows + c) D s s₃ (fits_row (length rows) c (length r.items) many) (amended_then (u + c) v D s s₂ s₃ (amended_then u c D s s₁ s₂ a₁ r.amended) a₂);
        stands = w.stands;
        takes = subst (λ (j : ℕ). Takes j k₀ k₃) (row_steps n) going;
      }

  -- the word that makes its dictionary
  record WordDone (zs : List PsObj) (s : StoreState) (o : List PsObj) (from : ℕ) (rest : List ℕ) : Type 0 where
    pub store : StoreState
    pub dict : DictId
    pub to : ℕ
    pub later : Later 10 s store
    pub has : HasFields store dict (filled [] function_keys zs)
    pub stands : StandsAt store t to rest
    pub takes : Takes 45 (core s all (zs ++ o) (TextItem t from ∷ under)) (core store all (Dict dict ∷ o) (TextItem t to ∷ under))

  word_done : (made : ℕ) (a b c d e f g : PsObj) (k : Code) (s : StoreState) (o : List PsObj) (from : ℕ) → Done s made → length o ≤ 50000 → s.table.units + s.command.units + 10 ≤ 8000000
      → StandsAt s t from (render (Word (codes "NewFunction") k) ++ post) → WordDone (a ∷ b ∷ c ∷ d ∷ e ∷ f ∷ g ∷ []) s o from (render k ++ post)
  word_done made a b c d e f g k s o from run stack room stands =
      let fits_seven : suc (suc (suc (suc (suc (suc (suc (length o))))))) + 110 ≤ 100000 = omega arith in
      let zs : List PsObj = a ∷ b ∷ c ∷ d ∷ e ∷ f ∷ g ∷ [] in
      let word : List ℕ = codes "NewFunction" in
      let is : IsMaking s all = run.knowing.making in
      let sense : HasSense s all word (Called function_body) = sense_is s all word_senses word (Called function_body) run.knowing.have refl in
      let means : Means s all word (Does (body new_function)) = (sense.2.0, sense.1 ∙ ap Some sense.2.1, sense.2.2, sense.2.3) in
      let w = makes_exactly s all is t under word new_function k post zs o from 7 new_function_fine means (keys_short, few_keys) refl no_calls fits_seven room items_fit stands
      (λ s' fields same. subst (λ (x : Fields). length x ≤ 7) (sym same) seven) in
      let m : MakesDict s all is t under 45 w.0 (zs ++ o) o from (render k ++ post) 10 = w.1 in
      record { store = m.store; dict = m.dict; to = m.to; later = m.later; has = subst (λ (x : Fields). HasFields m.store m.dict x) w.2.1 m.has; stands = m.stands; takes = m.takes }

  -- what is known of the dictionary
  function_is : (s₁ s₂ s₃ : StoreState) (f : Function) (at : Placed) (rows : List (Point × ℕ)) (u v : ℕ) → Amended u D s₁ s₃ → Amended v D s₂ s₃ → HasNoNames s₁ D → HasNoNames s₂ D → (dict : DictId) (name : StringId) (saved points : ArrayId)
      (registers items : List PsObj) → IsString s₁ name f.name → IsArray s₁ saved registers → AreSaved s₁ registers at.saved → IsArray s₂ points items → ArePoints s₂ program.defs program.symbols items rows
      → HasFields s₃ dict (filled [] function_keys (Array points false ∷ Array saved false ∷ Int (signed at.frame) ∷ Int (signed at.end) ∷ Int (signed at.entry) ∷ Truth f.is_static ∷ Str name false ∷ []))
      → IsFunction s₃ program.defs program.symbols (Dict dict) f at rows
  function_is s₁ s₂ s₃ f at rows u v a b none₁ none₂ dict name saved points registers items named holds are held points_are has =
      let zs : List PsObj = Array points false ∷ Array saved false ∷ Int (signed at.frame) ∷ Int (signed at.end) ∷ Int (signed at.entry) ∷ Truth f.is_static ∷ Str name false ∷ [] in
      let value : (key : List ℕ) → value_at (entries_of s₃ dict) (NameKey key) ≡ value_of (filled [] function_keys zs) key = λ key. fields_value s₃ (entries_of s₃ dict) (filled [] function_keys zs) key has.are in
      record {
        dict = dict;
        is = refl;
        there = has.is_there;
        name = name;
        has_name = value (codes "name");
        named = a.strings name f.name named;
        has_static = value (codes "static");
        has_entry = value (codes "entry");
        has_end = value (codes "end");
        has_frame = value (codes "frame");
        saved = saved;
        has_saved = value (codes "saved");
        registers = registers;
        holds_saved = a.arrays saved registers holds;
        are_saved = saved_amended u i s₁ s₃ a none₁ program.defs program.symbols registers at.saved are;
        points = points;
        has_points = value (codes "points");
        items = items;
        holds_points = b.arrays points items held;
        are_points = points_amended v i s₂ s₃ b none₂ program.defs program.symbols items rows points_are;
      }

  function_done : (made : ℕ) (f : Function) (at : Placed) (k : Code) (s : StoreState) (o : List PsObj) (from : ℕ) → RunsFunction f → RunsPlaced at → AreFollowed program.defs program.symbols program.points made f.points at.points → made ≤ length program.symbols
      → Done s made → length o ≤ 50000 → s.table.units + s.command.units + function_made program fs made f at ≤ 8000000 → StandsAt s t from (render (function_code program fs made f at ⋯ k) ++ post)
      → FunctionDone (function_made program fs made f at) (function_steps program fs made f at) s (made_by program fs made f.points at.points) o from (render k ++ post) f at
  function_done made f at k s o from of_function placed followed bound run stack room stands =
      let few_saved = placed.few_saved in
      let fits_saved : length o + length at.saved + 140 ≤ 100000 = omega arith in
      let fits_six : suc (suc (suc (suc (suc (suc (length o)))))) ≤ 50010 = omega arith in
      let rows : List (Point × ℕ) = rows_of program fs f at in
      let h : Homes = homes at.locals f.locals in
      let m₁ : ℕ = made_by program fs made f.points at.points in
      let c : ℕ = points_made program.defs program.symbols program.points h made f.points at.points in
      let n : ℕ = points_steps program.defs program.symbols program.points made f.points at.points in
      let c₁ : ℕ = text_units f.name + 7 + 8 * length at.saved in
      let c₂ : ℕ = 5 + length rows + c in
      let before : ℕ = s.table.units + s.command.units in
      let points : Code = points_code program fs h made f.points at.points in
      let third : Code = Word (codes "NewFunction") k in
      let second : Code = Word (codes "[") (points ⋯ Word (codes "]") third) in
      let g : Front f at s o from (render second ++ post) =
      front_done f at second s o from of_function placed run.knowing.making fits_saved (room_front before (text_units f.name) (length at.saved) (length rows) c room)
      (subst (λ (x : Code). StandsAt s t from (render x ++ post))
      (whole_is f.is_static f.name (signed at.entry) (signed at.end) (signed at.frame) (saved_code at.saved) points k ∙ sym (front_is f at second)) stands) in
      let s₁ : StoreState = g.store in
      let counted₁ : s₁.table.units + s₁.command.units ≤ s.table.units + s.command.units + c₁ = g.later.counted in
      let run₁ : Done s₁ made = running_later program.defs program.symbols (length program.objects) i ds c₁ made (IsMade program.symbols made) s s₁ g.later run in
      let below : List PsObj = Array g.array false ∷ Int (signed at.frame) ∷ Int (signed at.end) ∷ Int (signed at.entry) ∷ Truth f.is_static ∷ Str g.name false ∷ o in
      let r : PointsRow f at made s₁ below g.to (render third ++ post) =
      points_row made f at third s₁ below g.to of_function placed followed bound run₁ fits_six (room_row before (text_units f.name) (length at.saved) (length rows) c room (s₁.table.units + s₁.command.units) counted₁) g.stands in
      let s₂ : StoreState = r.store in
      let counted₂ : s₂.table.units + s₂.command.units ≤ s₁.table.units + s₁.command.units + c₂ = r.amended.counted in
      let d : WordDone (Array r.array false ∷ Array g.array false ∷ Int (signed at.frame) ∷ Int (signed at.end) ∷ Int (signed at.entry) ∷ Truth f.is_static ∷ Str g.name false ∷ []) s₂ o r.to (render k ++ post) =
      word_done m₁ (Array r.array false) (Array g.array false) (Int (signed at.frame)) (Int (signed at.end)) (Int (signed at.entry)) (Truth f.is_static) (Str g.name false) k s₂ o r.to r.running stack
      (room_word before (text_units f.name) (length at.saved) (length rows) c room (s₁.table.units + s₁.command.units) counted₁ (s₂.table.units + s₂.command.units) counted₂) r.stands in
      let s₃ : StoreState = d.store in
      let a₁ : Amended c₁ D s s₁ = later_amended c₁ D s s₁ g.later in
      let a₃ : Amended 10 D s₂ s₃ = later_amended 10 D s₂ s₃ d.later in
      let a₁₃ : Amended (c₂ + 10) D s₁ s₃ = amended_then c₂ 10 D s₁ s₂ s₃ r.amended a₃ in
      let n₁ : ℕ = 7 + 4 * length at.saved in
      let k₀ : PsCore = core s all o (TextItem t from ∷ under) in
      let k₁ : PsCore = core s₁ all below (TextItem t g.to ∷ under) in
      let k₂ : PsCore = core s₂ all (Array r.array false ∷ below) (TextItem t r.to ∷ under) in
      let k₃ : PsCore = core s₃ all (Dict d.dict ∷ o) (TextItem t d.to ∷ under) in
      let going : Takes (further n₁ (further (2 + n) 45)) k₀ k₃ = takes_then n₁ (further (2 + n) 45) k₀ k₁ k₃ g.takes (takes_then (2 + n) 45 k₁ k₂ k₃ r.takes d.takes) in
      record {
        store = s₃;
        object = Dict d.dict;
        to = d.to;
        running = running_later program.defs program.symbols (length program.objects) i ds 10 m₁ (IsMade program.symbols m₁) s₂ s₃ d.later r.running;
        amended = amended_within (c₁ + (c₂ + 10)) (function_made program fs made f at) D s s₃ (fits_all (text_units f.name) (length at.saved) (length rows) c) (amended_then c₁ (c₂ + 10) D s s₁ s₃ a₁ a₁₃);
        is = function_is s₁ s₂ s₃ f at rows (c₂ + 10) 10 a₁₃ a₃ run₁.nameless r.running.nameless d.dict g.name g.array r.array g.registers r.items g.named g.holds g.saved r.holds r.are d.has;
        stands = d.stands;
        takes = subst (λ (j : ℕ). Takes j k₀ k₃) (all_steps (length at.saved) n) going;
      }

  -- ---- functions

  pub record FunctionsDone (cost steps : ℕ) (s : StoreState) (made : ℕ) (o : List PsObj) (from : ℕ) (rest : List ℕ) (rows : List (Function × Placed)) : Type 0 where
    pub store : StoreState
    pub items : List PsObj
    pub to : ℕ
    pub running : Done store made
    pub amended : Amended cost D s store
    pub are : AreFunctions program fs store (reverse items) rows
    pub values : AllByRecursion IsValue items
    pub many : length items ≡ length rows
    pub stands : StandsAt store t to rest
    pub takes : Takes steps (core s all o (TextItem t from ∷ under)) (core store all (items ++ o) (TextItem t to ∷ under))

  -- below which number all symbols are made, once a unit's functions are
  abbrev pub made_after : (made : ℕ) → List ℕ → ℕ
  made_after made [] = made
  made_after made (x ∷ xs) = made_after (made_in program fs made (slice_get program.functions x) (slice_get fs x)) xs

  pub functions_amended : (u : ℕ) (s s' : StoreState) → Amended u D s s' → HasNoNames s D → (xs : List PsObj) (rows : List (Function × Placed)) → AreFunctions program fs s xs rows → AreFunctions program fs s' xs rows
  functions_amended u s s' a none [] [] h = tt
  functions_amended u s s' a none (x ∷ xs) (f ∷ rows) h =
      (function_amended u i s s' a none program.defs program.symbols x f.0 f.1 (rows_of program fs f.0 f.1) h.0, functions_amended u s s' a none xs rows h.1)
  functions_amended u s s' a none [] (f ∷ rows) h = absurd h
  functions_amended u s s' a none (x ∷ xs) [] h = absurd h

  at_in : {A : Type 0} (P : A → Type 0) (xs : List A) (n : ℕ) (x : A) → AllByRecursion P xs → slice_get xs n ≡ Some x → P x
  at_in P [] n x h e = absurd cc
  at_in P (y ∷ ys) zero x h e = let same : y ≡ x = cc in subst P same h.0
  at_in P (y ∷ ys) (suc n) x h e = at_in P ys n x h.1 e

  abbrev FunctionsRun : List ℕ → Code → Type 0
  FunctionsRun xs k =
      (made : ℕ) (s : StoreState) (o : List PsObj) (from : ℕ) → FunctionsFollowed program fs made xs → made ≤ length program.symbols → Done s made → length o + length xs ≤ 50000
      → s.table.units + s.command.units + functions_made program fs made xs ≤ 8000000 → StandsAt s t from (render (functions_code program fs made xs ⋯ k) ++ post)
      → FunctionsDone (functions_made program fs made xs) (functions_steps program fs made xs) s (made_after made xs) o from (render k ++ post) (function_rows program fs xs)

  pub functions_done : (xs : List ℕ) (k : Code) → FunctionsRun xs k
  functions_done [] k made s o from followed bound run stack room stands =
      record { store = s; items = []; to = from; running = run; amended = amended_none D s; are = tt; values = tt; many = refl; stands = stands; takes = refl }
  functions_done (x ∷ xs) k made s o from followed bound run stack room stands =
      by (functions_done xs k) (slice_get program.functions x) (slice_get fs x) followed.0 followed.1 (λ f e. at_in RunsFunction program.functions x f is_unit.functions e) (λ at e. at_in RunsPlaced fs x at is_unit.placed e) room stands
    where
      skipped : FunctionsRun xs k → FunctionsFollowed program fs made xs → s.table.units + s.command.units + (0 + functions_made program fs made xs) ≤ 8000000 → StandsAt s t from (render (functions_code program fs made xs ⋯ k) ++ post)
          → FunctionsDone (0 + functions_made program fs made xs) (0 + functions_steps program fs made xs) s (made_after made xs) o from (render k ++ post) (function_rows program fs xs)
      skipped next others fits here =
          let r = next made s o from others bound run (omega arith) (omega arith) here in
          let none_more : functions_steps program fs made xs ≡ 0 + functions_steps program fs made xs = omega arith in
          record {
            store = r.store;
            items = r.items;
            to = r.to;
            running = r.running;
            amended = amended_within _ _ D s r.store (omega arith) r.amended;
            are = r.are;
            values = r.values;
            many = r.many;
            stands = r.stands;
            takes = subst (λ (j : ℕ). Takes j (core s all o (TextItem t from ∷ under)) (core r.store all (r.items ++ o) (TextItem t r.to ∷ under))) none_more r.takes;
          }

      by : FunctionsRun xs k → (g : Option Function) (l : Option Placed) → IsFollowedIn program made g l → FunctionsFollowed program fs (made_in program fs made g l) xs → ((f : Function) → g ≡ Some f → RunsFunction f) → ((at : Placed) → l ≡ Some at → RunsPlaced at)
          → s.table.units + s.command.units + (units_in program fs made g l + functions_made program fs (made_in program fs made g l) xs) ≤ 8000000
          → StandsAt s t from (render ((function_in program fs made g l ⋯ functions_code program fs (made_in program fs made g l) xs) ⋯ k) ++ post)
          → FunctionsDone (units_in program fs made g l + functions_made program fs (made_in program fs made g l) xs) (steps_in program fs made g l + functions_steps program fs (made_in program fs made g l) xs) s
          (made_after (made_in program fs made g l) xs) o from (render k ++ post) (with_function program fs g l (function_rows program fs xs))
      by next None None first others runs places fits here = skipped next others fits here
      by next None (Some at) first others runs places fits here = skipped next others fits here
      by next (Some f) None first others runs places fits here = skipped next others fits here
      by next (Some f) (Some at) first others runs places fits here =
          let m₁ : ℕ = made_by program fs made f.points at.points in
          let c : ℕ = function_made program fs made f at in
          let c' : ℕ = functions_made program fs m₁ xs in
          let n : ℕ = function_steps program fs made f at in
          let n' : ℕ = functions_steps program fs m₁ xs in
          let behind : Code = functions_code program fs m₁ xs ⋯ k in
          let p : FunctionDone c n s m₁ o from (render behind ++ post) f at =
          function_done made f at behind s o from (runs f refl) (places at refl) first bound run (omega arith) (omega arith)
          (subst (λ (y : Code). StandsAt s t from (render y ++ post)) (assoc (function_code program fs made f at) (functions_code program fs m₁ xs) k) here) in
          let counted : p.store.table.units + p.store.command.units ≤ s.table.units + s.command.units + c = p.amended.counted in
          let r : FunctionsDone c' n' p.store (made_after m₁ xs) (p.object ∷ o) p.to (render k ++ post) (function_rows program fs xs) =
          next m₁ p.store (p.object ∷ o) p.to others (by_within program fs is_unit i ds t under items_fit post made f.points at.points first bound) p.running (omega arith) (omega arith) p.stands in
          let turned : reverse (r.items ++ p.object ∷ []) ≡ p.object ∷ reverse r.items = reverse-append r.items (p.object ∷ []) in
          let on : (r.items ++ p.object ∷ []) ++ o ≡ r.items ++ p.object ∷ o = append_assoc r.items (p.object ∷ []) o in
          let c₀ : PsCore = core s all o (TextItem t from ∷ under) in
          let c₁ : PsCore = core p.store all (p.object ∷ o) (TextItem t p.to ∷ under) in
          let c₂ : PsCore = core r.store all (r.items ++ p.object ∷ o) (TextItem t r.to ∷ under) in
          let both : Takes (n + n') c₀ c₂ = subst (λ (j : ℕ). Takes j c₀ c₂) (further_is n n') (takes_then n n' c₀ c₁ c₂ p.takes r.takes) in
          record {
            store = r.store;
            items = r.items ++ p.object ∷ [];
            to = r.to;
            running = r.running;
            amended = amended_then c c' D s p.store r.store p.amended r.amended;
            are = subst (λ (l : List PsObj). AreFunctions program fs r.store l ((f, at) ∷ function_rows program fs xs)) (sym turned)
                (function_amended c' i p.store r.store r.amended p.running.nameless program.defs program.symbols p.object f at (rows_of program fs f at) p.is, r.are);
            values = all_then IsValue r.items (p.object ∷ []) r.values (subst IsValue (sym p.is.is) tt, tt);
            many = let e : length (r.items ++ p.object ∷ []) ≡ length r.items + 1 = length-append r.items (p.object ∷ []) in let f' = r.many in omega arith;
            stands = r.stands;
            takes = subst (λ (l : List PsObj). Takes (n + n') c₀ (core r.store all l (TextItem t r.to ∷ under))) (sym on) both;
          }
