-- The same of frames, of what they tell, and of the symbols in scope there.
use Rattle.std.proofs.Common.{ℕ, zero, suc, ◌-◌, ◌*◌, Bool, true, false, nat_eq, nat_le, nat_lt, ◌&&◌, if◌then◌else◌, List, [], ◌∷◌, codes, Option, Some, None, Ok}
use Rattle.ldb_words.specs.Word.{sum_of, difference_of}
use Rattle.ldb_words.specs.declared.kinds.Kind.TheVariants.{Word}
use Rattle.ps_store.specs.declared.object.PsObj.{PsObj}
use Rattle.ps_store.specs.declared.object.DictId.{DictId}
use Rattle.ps_store.specs.StoreState.{StoreState}
use Rattle.ps_step.specs.Results.{◌>>=◌}
use Rattle.frame_bytes.specs.Bytes.{Bytes, fetched, word_address}
use Rattle.frame_bytes.specs.declared.frame.Frame.{Frame}
use Rattle.frame_bytes.specs.declared.frame.Space.TheVariants.{Memory}
use Rattle.table_model.specs.declared.lack.Lack.TheVariants as lack
use Rattle.table_model.specs.declared.row.FunctionRow.{FunctionRow}
use Rattle.table_model.specs.declared.row.SavingRow.{SavingRow}
use Rattle.table_model.specs.declared.row.TargetRow.{TargetRow}
use Rattle.table_model.specs.declared.row.TargetRow.TheVariants.{Saving, Windows}
use Rattle.table_model.specs.Reading.{Walked, or_outside, fetch_at, dict_in, items_in, items_at, number_in, number_at, text_at, first_in, all_in}
use Rattle.table_model.specs.Rows.{PointRow, functions_of, covers, covering, covering_in, function_at, points_of, point_address, standing_at, nearest, point_below_from, or_no_point}
use Rattle.table_model.specs.Frames.{Saved, saved_pair, saved_of, kept_at, words_from, outer_places, saving_frame, window_places, window_frame, framed, context_word, frame_in, first_frame, caller_saving, next_saving, next_window, next_frame, MOST_FRAMES, outward_by, frame_at, point_in, point_of_row, point_of, told_row, told_frame, told_outward, told_frames, told_frame_at}
use Rattle.table_model.specs.Symbols.{scope_of_point, scope_of}
use Rattle.table_asks.proofs.Fair.{Fair, IsUnit, gives, lacking, wrong, behind, reads, items_fair, text_fair, number_fair, link_fair, first_in_fair, all_in_fair, units_first, functions_fair}

-- ---- functions and points

covers_fair : (s : StoreState) (pc : ℕ) (f : DictId) → Fair s (covers s pc f)
covers_fair s pc f =
    behind s (number_at s f (codes "entry")) (λ from. number_at s f (codes "end") >>= λ end. Ok (nat_le from pc && nat_lt pc end)) (number_fair s f (codes "entry")) (λ from e.
    behind s (number_at s f (codes "end")) (λ end. Ok (nat_le from pc && nat_lt pc end)) (number_fair s f (codes "end")) (λ end i. gives s (nat_le from pc && nat_lt pc end)))

abbrev covered : DictId → DictId → Bool → Walked (Option FunctionRow)
covered unit f b = Ok (if b then Some (record { unit = unit; function = f }) else None)

covering_fair : (s : StoreState) (pc : ℕ) (unit : DictId) (x : PsObj) → Fair s (covering s pc unit x)
covering_fair s pc unit x =
    behind s (dict_in x) (λ f. covers s pc f >>= covered unit f) (reads s x).dict (λ f e.
    behind s (covers s pc f) (covered unit f) (covers_fair s pc f) (λ b i. gives s (if b then Some (record { unit = unit; function = f }) else None)))

covering_in_fair : (s : StoreState) (pc u : ℕ) (x : PsObj) → IsUnit s u x → Fair s (covering_in s pc u x)
covering_in_fair s pc u x there =
    behind s (dict_in x) (λ unit. functions_of s u unit >>= λ fs. first_in (covering s pc unit) fs) (reads s x).dict (λ unit e.
    behind s (functions_of s u unit) (λ fs. first_in (covering s pc unit) fs) (functions_fair s u x unit there e) (λ fs i. first_in_fair s (covering s pc unit) fs (covering_fair s pc unit)))

pub function_fair : (s : StoreState) (pc : ℕ) → Fair s (function_at s pc)
unfolding function_at
function_fair s pc = units_first s (covering_in s pc) (covering_in_fair s pc)

standing_fair : (s : StoreState) (pc : ℕ) (x : PsObj) → Fair s (standing_at s pc x)
standing_fair s pc x =
    behind s (dict_in x) (λ p. point_address s p >>= λ at. Ok (if nat_eq at pc then Some p else None)) (reads s x).dict (λ p e.
    behind s (point_address s p) (λ at. Ok (if nat_eq at pc then Some p else None)) (number_fair s p (codes "address")) (λ at i. gives s (if nat_eq at pc then Some p else None)))

below_fair : (s : StoreState) (pc : ℕ) (best : Option (ℕ × DictId)) (xs : List PsObj) → Fair s (point_below_from s pc best xs)
below_fair s pc best [] = gives s (elim best [ None ↦ None | Some b ↦ Some b.1 ])
below_fair s pc best (x ∷ xs) =
    behind s (dict_in x) (λ p. point_address s p >>= λ at. point_below_from s pc (nearest best pc at p) xs) (reads s x).dict (λ p e.
    behind s (point_address s p) (λ at. point_below_from s pc (nearest best pc at p) xs) (number_fair s p (codes "address")) (λ at i. below_fair s pc (nearest best pc at p) xs))

point_in_fair : (s : StoreState) (is_inner : Bool) (pc : ℕ) (ps : List PsObj) → Fair s (point_in s is_inner pc ps)
point_in_fair s true pc ps = first_in_fair s (standing_at s pc) ps (standing_fair s pc)
point_in_fair s false pc ps = below_fair s pc None ps

no_point_fair : (s : StoreState) (o : Option DictId) → Fair s (or_no_point o)
no_point_fair s None = lacking DictId s lack.NoPoint tt
no_point_fair s (Some p) = gives s p

point_row_fair : (s : StoreState) (is_inner : Bool) (pc : ℕ) (o : Option FunctionRow) → Fair s (point_of_row s is_inner pc o)
point_row_fair s is_inner pc None = lacking DictId s lack.NoPoint tt
point_row_fair s is_inner pc (Some row) =
    behind s (points_of s row.function) (λ ps. point_in s is_inner pc ps >>= or_no_point) (items_fair s row.function (codes "points")) (λ ps e.
    behind s (point_in s is_inner pc ps) or_no_point (point_in_fair s is_inner pc ps) (λ o i. no_point_fair s o))

-- ---- what a frame tells, and the symbols in scope there

pub scope_fair : (s : StoreState) (n : ℕ) (f : Frame) → Fair s (scope_of s n f)
unfolding scope_of point_of
scope_fair s n f =
    behind s (function_at s f.pc >>= point_of_row s (nat_eq n 0) f.pc) (scope_of_point s)
    (behind s (function_at s f.pc) (point_of_row s (nat_eq n 0) f.pc) (function_fair s f.pc) (λ row e. point_row_fair s (nat_eq n 0) f.pc row))
    (λ p e. link_fair s p (codes "symbols"))

told_row_fair : (s : StoreState) (is_inner : Bool) (pc : ℕ) (o : Option FunctionRow) → Fair s (told_row s is_inner pc o)
told_row_fair s is_inner pc None = lacking PointRow s lack.NoPoint tt
told_row_fair s is_inner pc (Some row) =
    let told : (file name : List ℕ) (line column at : ℕ) → Walked PointRow = λ file name line column at. Ok (record { file = file; function = name; line = line; column = column; at = at }) in
    behind s (text_at s row.function (codes "name"))
    (λ name. text_at s row.unit (codes "file") >>= λ file. point_of_row s is_inner pc (Some row) >>= λ p. number_at s p (codes "line") >>= λ line. number_at s p (codes "column") >>= λ column. point_address s p >>= told file name line column)
    (text_fair s row.function (codes "name")) (λ name e.
    behind s (text_at s row.unit (codes "file"))
    (λ file. point_of_row s is_inner pc (Some row) >>= λ p. number_at s p (codes "line") >>= λ line. number_at s p (codes "column") >>= λ column. point_address s p >>= told file name line column)
    (text_fair s row.unit (codes "file")) (λ file e.
    behind s (point_of_row s is_inner pc (Some row))
    (λ p. number_at s p (codes "line") >>= λ line. number_at s p (codes "column") >>= λ column. point_address s p >>= told file name line column)
    (point_row_fair s is_inner pc (Some row)) (λ p e.
    behind s (number_at s p (codes "line")) (λ line. number_at s p (codes "column") >>= λ column. point_address s p >>= told file name line column)
    (number_fair s p (codes "line")) (λ line e.
    behind s (number_at s p (codes "column")) (λ column. point_address s p >>= told file name line column)
    (number_fair s p (codes "column")) (λ column e.
    behind s (point_address s p) (told file name line column)
    (number_fair s p (codes "address")) (λ at e. gives s (record { file = file; function = name; line = line; column = column; at = at })))))))

pub told_fair : (s : StoreState) (n : ℕ) (f : Frame) → Fair s (told_frame s n f)
unfolding told_frame
told_fair s n f = behind s (function_at s f.pc) (told_row s (nat_eq n 0) f.pc) (function_fair s f.pc) (λ row e. told_row_fair s (nat_eq n 0) f.pc row)

-- ---- frames

fetched_fair : (s : StoreState) (o : Option ℕ) → Fair s (or_outside o)
fetched_fair s None = lacking ℕ s lack.Outside tt
fetched_fair s (Some x) = gives s x

fetch_fair : (s : StoreState) (b : Bytes) (at : ℕ) → Fair s (fetch_at b at Word)
fetch_fair s b at = fetched_fair s (fetched b Memory at Word)

pair_fair : (s : StoreState) (xs : List PsObj) → Fair s (saved_pair xs)
pair_fair s [] = wrong (List Saved) s
pair_fair s (x ∷ []) = wrong (List Saved) s
pair_fair s (r ∷ offset ∷ []) =
    behind s (number_in r) (λ n. number_in offset >>= λ o. Ok (record { register = n; offset = o } ∷ [])) (reads s r).number (λ n e.
    behind s (number_in offset) (λ o. Ok (record { register = n; offset = o } ∷ [])) (reads s offset).number (λ o i. gives s (record { register = n; offset = o } ∷ [])))
pair_fair s (x ∷ y ∷ z ∷ xs) = wrong (List Saved) s

saved_fair : (s : StoreState) (f : DictId) → Fair s (saved_of s f)
saved_fair s f =
    behind s (items_at s f (codes "saved")) (λ xs. all_in (λ x. items_in s x >>= saved_pair) xs) (items_fair s f (codes "saved")) (λ xs e.
    all_in_fair s (λ x. items_in s x >>= saved_pair) xs (λ x. behind s (items_in s x) saved_pair (reads s x).items (λ ys i. pair_fair s ys)))

saving_fair : (s : StoreState) (pc sp : ℕ) (places : List (Option ℕ)) (f : DictId) → Fair s (saving_frame s pc sp places f)
saving_fair s pc sp places f =
    let made : ℕ → Walked Frame = λ size. Ok (record { pc = pc; base = sum_of sp size; places = places }) in
    behind s (saved_of s f) (λ saved. number_at s f (codes "frame") >>= made) (saved_fair s f) (λ saved e.
    behind s (number_at s f (codes "frame")) made (number_fair s f (codes "frame")) (λ size i. gives s (record { pc = pc; base = sum_of sp size; places = places })))

window_fair : (s : StoreState) (b : Bytes) (pc : ℕ) (places : List (Option ℕ)) → Fair s (window_frame b pc places)
window_fair s b pc places =
    let made : ℕ → Walked Frame = λ base. Ok (record { pc = pc; base = base; places = places }) in
    behind s (or_outside (word_address places 30)) (λ at. fetch_at b at Word >>= made) (fetched_fair s (word_address places 30)) (λ at e.
    behind s (fetch_at b at Word) made (fetch_fair s b at) (λ base i. gives s (record { pc = pc; base = base; places = places })))

framed_fair : (s : StoreState) (o : Option FunctionRow) (go : DictId → Walked Frame) → ((f : DictId) → Fair s (go f)) → Fair s (framed o go)
framed_fair s None go h = gives s None
framed_fair s (Some row) go h = behind s (go row.function) (λ f. Ok (Some f)) (h row.function) (λ f e. gives s (Some f))

frame_in_fair : (row : TargetRow) (s : StoreState) (b : Bytes) (context pc : ℕ) (f : DictId) → Fair s (frame_in row s b context pc f)
frame_in_fair (Saving target) s b context pc f =
    behind s (context_word b context target.stack_pointer) (λ sp. saving_frame s pc sp (words_from 32 context) f) (fetch_fair s b (sum_of context (4 * target.stack_pointer))) (λ sp e. saving_fair s pc sp (words_from 32 context) f)
frame_in_fair Windows s b context pc f = window_fair s b pc (words_from 32 context)

pub first_frame_fair : (row : TargetRow) (s : StoreState) (b : Bytes) (context : ℕ) → Fair s (first_frame row s b context)
unfolding first_frame
first_frame_fair row s b context =
    behind s (context_word b context 34) (λ pc. function_at s pc >>= λ f. framed f (frame_in row s b context pc)) (fetch_fair s b (sum_of context (4 * 34))) (λ pc e.
    behind s (function_at s pc) (λ f. framed f (frame_in row s b context pc)) (function_fair s pc) (λ o i. framed_fair s o (frame_in row s b context pc) (frame_in_fair row s b context pc)))

caller_fair : (target : SavingRow) (s : StoreState) (b : Bytes) (f : Frame) (saved : List Saved) (o : Option ℕ) → Fair s (caller_saving target s b f saved o)
caller_fair target s b f saved None = gives s None
caller_fair target s b f saved (Some at) =
    let pc : (return : ℕ) → ℕ = λ return. difference_of return target.distance in
    let places = outer_places target.preserved 0 f.base f.places saved in
    let outer : (return : ℕ) → DictId → Walked Frame = λ return. saving_frame s (pc return) f.base places in
    behind s (fetch_at b at Word) (λ return. function_at s (pc return) >>= λ row. framed row (outer return)) (fetch_fair s b at) (λ return e.
    behind s (function_at s (pc return)) (λ row. framed row (outer return)) (function_fair s (pc return)) (λ row i. framed_fair s row (outer return) (saving_fair s (pc return) f.base places)))

next_saving_fair : (target : SavingRow) (s : StoreState) (b : Bytes) (f : Frame) (o : Option FunctionRow) → Fair s (next_saving target s b f o)
next_saving_fair target s b f None = gives s None
next_saving_fair target s b f (Some row) =
    let kept : List Saved → Option ℕ = λ saved. kept_at f.base saved target.return_register in
    behind s (saved_of s row.function) (λ saved. caller_saving target s b f saved (kept saved)) (saved_fair s row.function) (λ saved e. caller_fair target s b f saved (kept saved))

next_window_fair : (s : StoreState) (b : Bytes) (f : Frame) → Fair s (next_window s b f)
next_window_fair s b f =
    let outer : (pc : ℕ) → DictId → Walked Frame = λ pc g. window_frame b pc (window_places f.base f.places) in
    behind s (or_outside (word_address f.places 31)) (λ at. fetch_at b at Word >>= λ pc. function_at s pc >>= λ row. framed row (outer pc)) (fetched_fair s (word_address f.places 31)) (λ at e.
    behind s (fetch_at b at Word) (λ pc. function_at s pc >>= λ row. framed row (outer pc)) (fetch_fair s b at) (λ pc e.
    behind s (function_at s pc) (λ row. framed row (outer pc)) (function_fair s pc) (λ row i. framed_fair s row (outer pc) (λ g. window_fair s b pc (window_places f.base f.places)))))

pub next_frame_fair : (row : TargetRow) (s : StoreState) (b : Bytes) (f : Frame) → Fair s (next_frame row s b f)
unfolding next_frame
next_frame_fair (Saving target) s b f = behind s (function_at s f.pc) (next_saving target s b f) (function_fair s f.pc) (λ row e. next_saving_fair target s b f row)
next_frame_fair Windows s b f = next_window_fair s b f

-- ---- by number, and all

module _ (row : TargetRow) (s : StoreState) (b : Bytes) where
  abbrev on_outward : ℕ → Option Frame → Walked (Option Frame)
  on_outward n g = elim g [ None ↦ Ok None | Some g ↦ outward_by row s b n g ]

  outward_fair : (n : ℕ) (f : Frame) → Fair s (outward_by row s b n f)
  outward_fair zero f = gives s (Some f)
  outward_fair (suc n) f =
      behind s (next_frame row s b f) (on_outward n) (next_frame_fair row s b f) (λ g e. elim g as (λ o. Fair s (on_outward n o)) [ None ↦ gives s None | Some g ↦ outward_fair n g ])

  abbrev by_number : ℕ → Option Frame → Walked (Option Frame)
  by_number n f = elim f [ None ↦ Ok None | Some f ↦ outward_by row s b n f ]

  frame_fair_below : (context n : ℕ) → Fair s (first_frame row s b context >>= by_number n)
  frame_fair_below context n =
      behind s (first_frame row s b context) (by_number n) (first_frame_fair row s b context) (λ f e. elim f as (λ o. Fair s (by_number n o)) [ None ↦ gives s None | Some f ↦ outward_fair n f ])

  pub frame_fair : (context n : ℕ) → Fair s (frame_at row s b context n)
  unfolding frame_at
  frame_fair context n =
      elim (nat_le MOST_FRAMES n) as (λ v. Fair s (elim v [ true ↦ Ok None | false ↦ first_frame row s b context >>= by_number n ])) [ true ↦ gives s None | false ↦ frame_fair_below context n ]

  abbrev told_by : ℕ → Option Frame → Walked (Option PointRow)
  told_by n f = elim f [ None ↦ Ok None | Some f ↦ told_frame s n f >>= λ t. Ok (Some t) ]

  pub told_at_fair : (context n : ℕ) → Fair s (told_frame_at row s b context n)
  unfolding told_frame_at
  told_at_fair context n =
      behind s (frame_at row s b context n) (told_by n) (frame_fair context n)
      (λ f e. elim f as (λ o. Fair s (told_by n o)) [ None ↦ gives s None | Some f ↦ behind s (told_frame s n f) (λ t. Ok (Some t)) (told_fair s n f) (λ t i. gives s (Some t)) ])

  abbrev told_on : ℕ → ℕ → PointRow → Option Frame → Walked (List PointRow)
  told_on n number t g = elim g [ None ↦ Ok (t ∷ []) | Some g ↦ told_outward row s b n (suc number) g >>= λ ts. Ok (t ∷ ts) ]

  told_outward_fair : (n number : ℕ) (f : Frame) → Fair s (told_outward row s b n number f)
  told_outward_fair zero number f = behind s (told_frame s number f) (λ t. Ok (t ∷ [])) (told_fair s number f) (λ t e. gives s (t ∷ []))
  told_outward_fair (suc n) number f =
      behind s (told_frame s number f) (λ t. next_frame row s b f >>= told_on n number t) (told_fair s number f) (λ t e.
      behind s (next_frame row s b f) (told_on n number t) (next_frame_fair row s b f) (λ g i. elim g as (λ o. Fair s (told_on n number t o)) [
        | None ↦ gives s (t ∷ [])
        | Some g ↦ behind s (told_outward row s b n (suc number) g) (λ ts. Ok (t ∷ ts)) (told_outward_fair n (suc number) g) (λ ts j. gives s (t ∷ ts))
      ]))

  abbrev told_all : Option Frame → Walked (List PointRow)
  told_all f = elim f [ None ↦ Ok [] | Some f ↦ told_outward row s b (MOST_FRAMES - 1) 0 f ]

  pub told_frames_fair : (context : ℕ) → Fair s (told_frames row s b context)
  unfolding told_frames
  told_frames_fair context =
      behind s (first_frame row s b context) told_all (first_frame_fair row s b context) (λ f e. elim f as (λ o. Fair s (told_all o)) [ None ↦ gives s [] | Some f ↦ told_outward_fair (MOST_FRAMES - 1) 0 f ])
