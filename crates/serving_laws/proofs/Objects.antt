-- What is found at an address: by the bytes of memory alone, within the object, and no further from its start than the address itself; and a type's leaves are read without units.
use Rattle.std.proofs.Common.{◌≡◌, refl, ap, ◌∙◌, ℕ, zero, suc, ◌+◌, ◌-◌, ◌*◌, ◌/◌, ◌%◌, ◌≤◌, nat_lt, nat_le, leb-true, Bool, true, false, if◌then◌else◌, Option, Some, None, Ok, Err, List, [], ◌∷◌, codes, arith}
use Rattle.std.specs.Prelude.{bytes_eq, ◌&&◌}
use Rattle.ldb_words.specs.Word.{sum_of, difference_of}
use Rattle.ldb_words.specs.declared.kinds.Kind.{Kind}
use Rattle.ldb_words.specs.declared.kinds.Kind.TheVariants.{Byte, Word, Address}
use Rattle.ps_store.specs.declared.object.PsObj.{PsObj}
use Rattle.ps_store.specs.declared.object.PsObj.TheVariants.{Int, Name, Str, Array, Dict}
use Rattle.ps_store.specs.declared.object.DictId.{DictId}
use Rattle.ps_store.specs.declared.key.Key.TheVariants.{Name as NameKey}
use Rattle.ps_store.specs.StoreState.{StoreState}
use Rattle.ps_store.specs.Store.{entries_of}
use Rattle.ps_store.specs.Entries.{value_at}
use Rattle.ps_step.specs.Results.{◌>>=◌}
use Rattle.frame_bytes.specs.Bytes.{Bytes, word_address}
use Rattle.frame_bytes.specs.declared.frame.Frame.{Frame}
use Rattle.table_model.specs.declared.lack.Lack.{Lack}
use Rattle.table_model.specs.declared.lack.Lack.TheVariants.{Missing, WrongType, Outside, NoPoint, TooDeep, Unforced}
use Rattle.table_model.specs.declared.row.FunctionRow.{FunctionRow}
use Rattle.table_model.specs.declared.row.SavingRow.{SavingRow}
use Rattle.table_model.specs.declared.row.TargetRow.{TargetRow}
use Rattle.table_model.specs.declared.row.TargetRow.TheVariants.{Saving, Windows}
use Rattle.table_model.specs.declared.found.Found.{Found}
use Rattle.table_model.specs.Reading.{Walked, or_missing, entry, dict_in, items_in, text_in, name_in, number_in, dict_at, items_at, procedure_at, string_at, number_at, name_at, top_of, or_outside, fetch_at, first_from}
use Rattle.table_model.specs.Rows.{function_at}
use Rattle.table_model.specs.Frames.{Saved, saved_of, saving_frame, window_frame, framed, context_word, frame_in, first_frame, caller_saving, next_saving, next_window, next_frame, outward, window_places, outer_places, kept_at, words_from, MOST_FRAMES}
use Rattle.table_model.specs.Symbols.{MOST_SYMBOLS, scope_of, uplink_of, is_local}
use Rattle.table_model.specs.Objects.{form_of, address_of, belongs, object_at, object_or_none, found_symbol, as_static, static_object, statics_in, static_at, local_here, local_among, local_at, with_activation, found_outward, found_at}
use Rattle.table_model.specs.Types.{TypeKind, IntKind, UnsignedKind, CharKind, PointerKind, ArrayKind, StructKind, kind_named, type_kind, member_row, member_in, each_part, is_within}
use Rattle.table_types.specs.Offsets.{item_at, nearer, holder, member_at, leaf_within, leaf_in, kind_live, checked, checked_found, scalar_at}

-- what follows a result is the same
behind_same : {A B : Type 0} (m : Walked A) (f g : A → Walked B) → ((x : A) → f x ≡ g x) → (m >>= f) ≡ (m >>= g)
behind_same (Ok x) f g h = h x
behind_same (Err l) f g h = refl

-- ---- by memory alone

module _ (row : TargetRow) (s : StoreState) (b b' : Bytes) (same : (at : ℕ) (k : Kind) → fetch_at b at k ≡ fetch_at b' at k) where
  window_same : (pc : ℕ) (places : List (Option ℕ)) → window_frame b pc places ≡ window_frame b' pc places
  window_same pc places = behind_same (or_outside (word_address places 30)) _ _ (λ at. ap (λ (z : Walked ℕ). z >>= λ base. Ok (record { pc = pc; base = base; places = places })) (same at Word))

  framed_same : (o : Option FunctionRow) (f g : DictId → Walked Frame) → ((d : DictId) → f d ≡ g d) → framed o f ≡ framed o g
  framed_same None f g h = refl
  framed_same (Some r) f g h = ap (λ (z : Walked Frame). z >>= λ f. Ok (Some f)) (h r.function)

  frame_in_same : (r : TargetRow) (context pc : ℕ) (f : DictId) → frame_in r s b context pc f ≡ frame_in r s b' context pc f
  frame_in_same (Saving target) context pc f = ap (λ (z : Walked ℕ). z >>= λ sp. saving_frame s pc sp (words_from 32 context) f) (same (sum_of context (4 * target.stack_pointer)) Word)
  frame_in_same Windows context pc f = window_same pc (words_from 32 context)

  first_same : (context : ℕ) → first_frame row s b context ≡ first_frame row s b' context
  unfolding first_frame
  first_same context =
      ap (λ (z : Walked ℕ). z >>= λ pc. function_at s pc >>= λ f. framed f (frame_in row s b context pc)) (same (sum_of context (4 * 34)) Word)
      ∙ behind_same (context_word b' context 34) _ _ (λ pc. behind_same (function_at s pc) _ _ (λ f. framed_same f (frame_in row s b context pc) (frame_in row s b' context pc) (frame_in_same row context pc)))

  caller_same : (target : SavingRow) (f : Frame) (saved : List Saved) (o : Option ℕ) → caller_saving target s b f saved o ≡ caller_saving target s b' f saved o
  caller_same target f saved None = refl
  caller_same target f saved (Some at) =
      ap (λ (z : Walked ℕ). z >>= λ return. function_at s (difference_of return target.distance) >>= λ row.
      framed row (saving_frame s (difference_of return target.distance) f.base (outer_places target.preserved 0 f.base f.places saved))) (same at Word)

  next_saving_same : (target : SavingRow) (f : Frame) (o : Option FunctionRow) → next_saving target s b f o ≡ next_saving target s b' f o
  next_saving_same target f None = refl
  next_saving_same target f (Some r) = behind_same (saved_of s r.function) _ _ (λ saved. caller_same target f saved (kept_at f.base saved target.return_register))

  next_window_same : (f : Frame) → next_window s b f ≡ next_window s b' f
  next_window_same f =
      behind_same (or_outside (word_address f.places 31)) _ _ (λ at.
      ap (λ (z : Walked ℕ). z >>= λ pc. function_at s pc >>= λ row. framed row (λ g. window_frame b pc (window_places f.base f.places))) (same at Word)
      ∙ behind_same (fetch_at b' at Word) _ _ (λ pc. behind_same (function_at s pc) _ _ (λ row.
      framed_same row (λ g. window_frame b pc (window_places f.base f.places)) (λ g. window_frame b' pc (window_places f.base f.places)) (λ g. window_same pc (window_places f.base f.places)))))

  next_same : (r : TargetRow) (f : Frame) → next_frame r s b f ≡ next_frame r s b' f
  unfolding next_frame
  next_same (Saving target) f = behind_same (function_at s f.pc) (next_saving target s b f) (next_saving target s b' f) (next_saving_same target f)
  next_same Windows f = next_window_same f

  outward_same : (n : ℕ) (f : Frame) → outward row s b n f ≡ outward row s b' n f
  outward_same zero f = refl
  outward_same (suc n) f =
      ap (λ (z : Walked (Option Frame)). z >>= λ g. elim g [ None ↦ Ok [] | Some g ↦ outward row s b n g >>= λ gs. Ok (g ∷ gs) ]) (next_same row f)
      ∙ behind_same (next_frame row s b' f) _ _ (by (outward_same n))
    where
      by : ((g : Frame) → outward row s b n g ≡ outward row s b' n g) → (g : Option Frame)
          → ◌≡◌ {A = Walked (List Frame)} (elim g [ None ↦ Ok [] | Some g ↦ outward row s b n g >>= λ gs. Ok (g ∷ gs) ]) (elim g [ None ↦ Ok [] | Some g ↦ outward row s b' n g >>= λ gs. Ok (g ∷ gs) ])
      by same None = refl
      by same (Some g) = ap (λ (z : Walked (List Frame)). z >>= λ gs. Ok (g ∷ gs)) (same g)

  found_outward_same : (address n number : ℕ) (f : Frame) → found_outward row s b address n number f ≡ found_outward row s b' address n number f
  found_outward_same address zero number f = refl
  found_outward_same address (suc n) number f = behind_same (local_at s number f address) _ _ (by (behind (found_outward_same address n (suc number))))
    where
      behind : ((g : Frame) → found_outward row s b address n (suc number) g ≡ found_outward row s b' address n (suc number) g) → (g : Option Frame)
          → ◌≡◌ {A = Walked (Option Found)} (elim g [ None ↦ Ok None | Some g ↦ found_outward row s b address n (suc number) g ]) (elim g [ None ↦ Ok None | Some g ↦ found_outward row s b' address n (suc number) g ])
      behind same None = refl
      behind same (Some g) = same g

      by : ((g : Option Frame)
          → ◌≡◌ {A = Walked (Option Found)} (elim g [ None ↦ Ok None | Some g ↦ found_outward row s b address n (suc number) g ]) (elim g [ None ↦ Ok None | Some g ↦ found_outward row s b' address n (suc number) g ]))
          → (found : Option Found)
          → ◌≡◌ {A = Walked (Option Found)} (elim found [
            | Some o ↦ outward row s b (suc n) f >>= λ outer. Ok (Some (with_activation o outer))
            | None ↦ next_frame row s b f >>= λ g. elim g [ None ↦ Ok None | Some g ↦ found_outward row s b address n (suc number) g ]
          ]) (elim found [
            | Some o ↦ outward row s b' (suc n) f >>= λ outer. Ok (Some (with_activation o outer))
            | None ↦ next_frame row s b' f >>= λ g. elim g [ None ↦ Ok None | Some g ↦ found_outward row s b' address n (suc number) g ]
          ])
      by same (Some o) = ap (λ (z : Walked (List Frame)). z >>= λ outer. Ok (Some (with_activation o outer))) (outward_same (suc n) f)
      by same None =
          ap (λ (z : Walked (Option Frame)). z >>= λ g. elim g [ None ↦ Ok None | Some g ↦ found_outward row s b address n (suc number) g ]) (next_same row f)
          ∙ behind_same (next_frame row s b' f) _ _ same

  pub found_same : (context address : ℕ) → found_at row s b context address ≡ found_at row s b' context address
  unfolding found_at
  found_same context address = behind_same (static_at s address) _ _ by
    where
      behind : (f : Option Frame)
          → ◌≡◌ {A = Walked (Option Found)} (elim f [ None ↦ Ok None | Some f ↦ found_outward row s b address (MOST_FRAMES - 1) 0 f ]) (elim f [ None ↦ Ok None | Some f ↦ found_outward row s b' address (MOST_FRAMES - 1) 0 f ])
      behind None = refl
      behind (Some f) = found_outward_same address (MOST_FRAMES - 1) 0 f

      by : (found : Option Found)
          → ◌≡◌ {A = Walked (Option Found)}
          (elim found [ Some o ↦ Ok (Some o) | None ↦ first_frame row s b context >>= λ f. elim f [ None ↦ Ok None | Some f ↦ found_outward row s b address (MOST_FRAMES - 1) 0 f ] ])
          (elim found [ Some o ↦ Ok (Some o) | None ↦ first_frame row s b' context >>= λ f. elim f [ None ↦ Ok None | Some f ↦ found_outward row s b' address (MOST_FRAMES - 1) 0 f ] ])
      by (Some o) = refl
      by None =
          ap (λ (z : Walked (Option Frame)). z >>= λ f. elim f [ None ↦ Ok None | Some f ↦ found_outward row s b address (MOST_FRAMES - 1) 0 f ]) (first_same context)
          ∙ behind_same (first_frame row s b' context) _ _ behind

-- ---- no further from an object's start than the address, and within the object

abbrev pub LowIn : ℕ → Option Found → Type 0
LowIn p None = Unit {0}
LowIn p (Some o) = (o.at ≤ p) × (o.at ≤ o.size)

abbrev pub Low : ℕ → Walked (Option Found) → Type 0
Low p (Ok o) = LowIn p o
Low p (Err l) = Unit {0}

module _ (p : ℕ) where
  low_on : {A : Type 0} (m : Walked A) (f : A → Walked (Option Found)) → ((x : A) → Low p (f x)) → Low p (m >>= f)
  low_on (Ok x) f h = h x
  low_on (Err l) f h = tt

  low_then : (m : Walked (Option Found)) (f : Option Found → Walked (Option Found)) → Low p m → ((o : Option Found) → LowIn p o → Low p (f o)) → Low p (m >>= f)
  low_then (Ok o) f h k = k o h
  low_then (Err l) f h k = tt

  module _ (s : StoreState) where
    object_low : (x : DictId) (base : ℕ) → Low p (object_at s x p base)
    object_low x base = low_on (dict_at s x (codes "type")) _ (λ t. low_on (number_at s t (codes "size")) _ (λ size. by t size (belongs base size p) refl))
      where
        second : (a b : Bool) → (a && b) ≡ true → b ≡ true
        second true b e = e
        second false b e = cc

        within : (size : ℕ) → belongs base size p ≡ true → p - base ≤ size
        within size e = let last = leb-true p (base + size) (second (nat_le base p) (nat_le p (base + size)) e) in omega (arith, last)

        by : (t : DictId) (size : ℕ) (b : Bool) → belongs base size p ≡ b → Low p (elim b [
          | false ↦ Ok None
          | true ↦ string_at s x (codes "label") >>= λ label. Ok (Some (record { label = label; ctype = t; activation = None; base = base; size = size; at = p - base; literal = false }))
        ])
        by t size false e = tt
        by t size true e = low_on (string_at s x (codes "label")) _ (λ label. (omega arith, within size e))

    symbol_low : (base : Option ℕ) (x : DictId) (code : List PsObj) → Low p (found_symbol s base p x code)
    symbol_low base x code = low_on (address_of s base (form_of s code)) (object_or_none s x p) by
      where
        by : (o : Option ℕ) → Low p (object_or_none s x p o)
        by None = tt
        by (Some base) = object_low x base

    static_low : (x : PsObj) → Low p (static_object s p x)
    static_low x =
        low_on (dict_in x) _ (λ d. low_on (procedure_at s d (codes "where")) _ (λ code. low_then (found_symbol s None p d code) (λ o. Ok (as_static s d o)) (symbol_low None d code) (by d)))
      where
        by : (d : DictId) (o : Option Found) → LowIn p o → LowIn p (as_static s d o)
        by d None h = tt
        by d (Some o) h = h

    first_low : (test : ℕ → PsObj → Walked (Option Found)) → ((n : ℕ) (x : PsObj) → Low p (test n x)) → (n : ℕ) (xs : List PsObj) → Low p (first_from test n xs)
    first_low test h n [] = tt
    first_low test h n (x ∷ xs) = low_then (test n x) _ (h n x) (by (first_low test h (suc n) xs))
      where
        by : Low p (first_from test (suc n) xs) → (found : Option Found) → LowIn p found → Low p (elim found [ Some y ↦ Ok (Some y) | None ↦ first_from test (suc n) xs ])
        by rest (Some o) low = low
        by rest None low = rest

    statics_low : Low p (static_at s p)
    unfolding static_at
    statics_low = low_on (top_of s) _ (λ top. by (value_at (entries_of s top) (NameKey (codes "objects"))))
      where
        by : (o : Option PsObj) → Low p (statics_in s p o)
        by None = tt
        by (Some x) = low_on (items_in s x) _ (λ xs. first_low (λ n x. static_object s p x) (λ n x. static_low x) 0 xs)

    local_here_low : (base : ℕ) (x : DictId) (onward : Walked (Option Found)) → Low p onward → Low p (local_here s base p x onward)
    local_here_low base x onward h = low_on (procedure_at s x (codes "where")) _ (λ code. by code (is_local s code))
      where
        kept : (found : Option Found) → LowIn p found → Low p (elim found [ Some o ↦ Ok (Some o) | None ↦ onward ])
        kept (Some o) k = k
        kept None k = h

        by : (code : List PsObj) (b : Bool) → Low p (elim b [
          | false ↦ Ok None
          | true ↦ found_symbol s (Some base) p x code >>= λ found. elim found [ Some o ↦ Ok (Some o) | None ↦ onward ]
        ])
        by code false = tt
        by code true = low_then (found_symbol s (Some base) p x code) _ (symbol_low (Some base) x code) kept

    among_low : (n base : ℕ) (o : Option DictId) → Low p (local_among n s base p o)
    among_low n base None = tt
    among_low zero base (Some x) = local_here_low base x (Ok None) tt
    among_low (suc n) base (Some x) = local_here_low base x (uplink_of s x >>= local_among n s base p) (low_on (uplink_of s x) (local_among n s base p) (among_low n base))

    local_low : (number : ℕ) (f : Frame) → Low p (local_at s number f p)
    unfolding local_at
    local_low number f = low_on (scope_of s number f) _ (among_low (MOST_SYMBOLS - 1) f.base)

    module _ (row : TargetRow) (b : Bytes) where
      outward_low : (n number : ℕ) (f : Frame) → Low p (found_outward row s b p n number f)
      outward_low zero number f = low_then (local_at s number f p) _ (local_low number f) by
        where
          by : (found : Option Found) → LowIn p found → Low p (elim found [ None ↦ Ok None | Some o ↦ Ok (Some (with_activation o [])) ])
          by None h = tt
          by (Some o) h = h
      outward_low (suc n) number f = low_then (local_at s number f p) _ (local_low number f) (by (outward_low n (suc number)))
        where
          behind : ((g : Frame) → Low p (found_outward row s b p n (suc number) g)) → (g : Option Frame) → Low p (elim g [ None ↦ Ok None | Some g ↦ found_outward row s b p n (suc number) g ])
          behind h None = tt
          behind h (Some g) = h g

          by : ((g : Frame) → Low p (found_outward row s b p n (suc number) g)) → (found : Option Found) → LowIn p found → Low p (elim found [
            | Some o ↦ outward row s b (suc n) f >>= λ outer. Ok (Some (with_activation o outer))
            | None ↦ next_frame row s b f >>= λ g. elim g [ None ↦ Ok None | Some g ↦ found_outward row s b p n (suc number) g ]
          ])
          by h (Some o) low = low_on (outward row s b (suc n) f) _ (λ outer. low)
          by h None low = low_on (next_frame row s b f) _ (behind h)

      pub found_low : (context : ℕ) → Low p (found_at row s b context p)
      unfolding found_at
      found_low context = low_then (static_at s p) _ statics_low by
        where
          behind : (f : Option Frame) → Low p (elim f [ None ↦ Ok None | Some f ↦ found_outward row s b p (MOST_FRAMES - 1) 0 f ])
          behind None = tt
          behind (Some f) = outward_low (MOST_FRAMES - 1) 0 f

          by : (found : Option Found) → LowIn p found → Low p (elim found [
            | Some o ↦ Ok (Some o)
            | None ↦ first_frame row s b context >>= λ f. elim f [ None ↦ Ok None | Some f ↦ found_outward row s b p (MOST_FRAMES - 1) 0 f ]
          ])
          by (Some o) h = h
          by None h = low_on (first_frame row s b context) _ behind

-- ---- without units

abbrev FreeOf : Lack → Type 0
FreeOf Missing = Unit {0}
FreeOf WrongType = Unit {0}
FreeOf Outside = Unit {0}
FreeOf NoPoint = Unit {0}
FreeOf TooDeep = Unit {0}
FreeOf (Unforced u) = ⊥

abbrev pub Free : {A : Type 0} → Walked A → Type 0
Free (Ok x) = Unit {0}
Free (Err l) = FreeOf l

pub free_on : {A B : Type 0} (m : Walked A) (f : A → Walked B) → Free m → ((x : A) → Free (f x)) → Free (m >>= f)
free_on (Ok x) f h k = k x
free_on (Err l) f h k = h

missing_free : {A : Type 0} (o : Option A) → Free (or_missing o)
missing_free None = tt
missing_free (Some x) = tt

dict_free : (x : PsObj) → Free (dict_in x)
dict_free (Dict d) = tt
dict_free x = tt

number_free : (x : PsObj) → Free (number_in x)
number_free (Int n) = tt
number_free x = tt

module _ (s : StoreState) where
  items_free : (x : PsObj) → Free (items_in s x)
  items_free (Array a b) = tt
  items_free x = tt

  text_free : (x : PsObj) → Free (text_in s x)
  text_free (Str t b) = tt
  text_free x = tt

  name_free : (x : PsObj) → Free (name_in s x)
  name_free (Name t b) = tt
  name_free x = tt

  entry_free : (d : DictId) (name : List ℕ) → Free (entry s d name)
  entry_free d name = missing_free (value_at (entries_of s d) (NameKey name))

  dict_at_free : (d : DictId) (name : List ℕ) → Free (dict_at s d name)
  dict_at_free d name = free_on (entry s d name) dict_in (entry_free d name) dict_free

  items_at_free : (d : DictId) (name : List ℕ) → Free (items_at s d name)
  items_at_free d name = free_on (entry s d name) (items_in s) (entry_free d name) items_free

  number_at_free : (d : DictId) (name : List ℕ) → Free (number_at s d name)
  number_at_free d name = free_on (entry s d name) number_in (entry_free d name) number_free

  kind_named_free : (text : List ℕ) → Free (kind_named text)
  kind_named_free text = by (bytes_eq text (codes "int")) (bytes_eq text (codes "unsigned")) (bytes_eq text (codes "char")) (bytes_eq text (codes "pointer")) (bytes_eq text (codes "array")) (bytes_eq text (codes "struct"))
    where
      by : (a b c d e f : Bool)
          → Free (if a then Ok IntKind else if b then Ok UnsignedKind else if c then Ok CharKind else if d then Ok PointerKind else if e then Ok ArrayKind else if f then Ok StructKind else Err WrongType)
      by true b c d e f = tt
      by false true c d e f = tt
      by false false true d e f = tt
      by false false false true e f = tt
      by false false false false true f = tt
      by false false false false false true = tt
      by false false false false false false = tt

  type_kind_free : (t : DictId) → Free (type_kind s t)
  type_kind_free t = free_on (name_at s t (codes "kind")) kind_named (free_on (entry s t (codes "kind")) (name_in s) (entry_free t (codes "kind")) name_free) kind_named_free

  member_row_free : (xs : List PsObj) → Free (member_row s xs)
  member_row_free [] = tt
  member_row_free (x ∷ []) = tt
  member_row_free (x ∷ y ∷ []) = tt
  member_row_free (name ∷ at ∷ t ∷ []) = free_on (text_in s name) _ (text_free name) (λ text. free_on (number_in at) _ (number_free at) (λ n. free_on (dict_in t) _ (dict_free t) (λ d. tt)))
  member_row_free (x ∷ y ∷ z ∷ w ∷ xs) = tt

  member_free : (x : PsObj) → Free (member_in s x)
  member_free x = free_on (items_in s x) (member_row s) (items_free x) member_row_free

  parts_free : (go : DictId → Walked (Unit {0})) → ((t : DictId) → Free (go t)) → (xs : List PsObj) → Free (each_part s go xs)
  parts_free go h [] = tt
  parts_free go h (x ∷ xs) = free_on (member_in s x) _ (member_free x) (λ m. free_on (go m.ctype) _ (h m.ctype) (λ u. parts_free go h xs))

  within_free : (deep : ℕ) (t : DictId) → Free (is_within s deep t)
  within_free zero t = tt
  within_free (suc deep) t = free_on (type_kind s t) _ (type_kind_free t) (by (within_free deep))
    where
      pointed : (to : DictId) → Free (is_within s deep to) → (k : TypeKind) → Free {A = Unit {0}} (elim k [ StructKind ↦ Ok tt | _ ↦ is_within s deep to ])
      pointed to h StructKind = tt
      pointed to h IntKind = h
      pointed to h UnsignedKind = h
      pointed to h CharKind = h
      pointed to h PointerKind = h
      pointed to h ArrayKind = h

      by : ((to : DictId) → Free (is_within s deep to)) → (k : TypeKind) → Free {A = Unit {0}} (elim k [
        | IntKind ↦ Ok tt
        | UnsignedKind ↦ Ok tt
        | CharKind ↦ Ok tt
        | PointerKind ↦ dict_at s t (codes "to") >>= λ to. type_kind s to >>= λ kind. elim kind [ StructKind ↦ Ok tt | _ ↦ is_within s deep to ]
        | ArrayKind ↦ dict_at s t (codes "to") >>= λ item. is_within s deep item
        | StructKind ↦ items_at s t (codes "members") >>= each_part s (λ m. is_within s deep m)
      ])
      by h IntKind = tt
      by h UnsignedKind = tt
      by h CharKind = tt
      by h PointerKind = free_on (dict_at s t (codes "to")) _ (dict_at_free t (codes "to")) (λ to. free_on (type_kind s to) _ (type_kind_free to) (pointed to (h to)))
      by h ArrayKind = free_on (dict_at s t (codes "to")) _ (dict_at_free t (codes "to")) h
      by h StructKind = free_on (items_at s t (codes "members")) _ (items_at_free t (codes "members")) (parts_free (λ m. is_within s deep m) h)

  pub checked_free : (o : Option Found) → Free (checked_found s o)
  unfolding checked
  checked_free None = tt
  checked_free (Some o) = within_free 64 o.ctype

  item_free : (leaf : ℕ → Walked (Option Kind)) → ((j : ℕ) → Free (leaf j)) → (b : Bool) (j : ℕ) → Free (if b then leaf j else Ok None)
  item_free leaf h true j = h j
  item_free leaf h false j = tt

  holder_free : (i : ℕ) (best : Option (ℕ × DictId)) (xs : List PsObj) → Free (holder s i best xs)
  holder_free i best [] = tt
  holder_free i best (x ∷ xs) = free_on (member_in s x) _ (member_free x) (λ m. holder_free i (nearer i best m.at m.ctype) xs)

  leaf_free : (deep : ℕ) (t : DictId) (i : ℕ) → Free (leaf_within s deep t i)
  leaf_free zero t i = tt
  leaf_free (suc deep) t i = free_on (type_kind s t) _ (type_kind_free t) (by (leaf_free deep))
    where
      member : ((m : DictId) (j : ℕ) → Free (leaf_within s deep m j)) → (m : Option (ℕ × DictId)) → Free (member_at (λ m j. leaf_within s deep m j) i m)
      member h None = tt
      member h (Some m) = h m.1 (i - m.0)

      by : ((m : DictId) (j : ℕ) → Free (leaf_within s deep m j)) → (k : TypeKind) → Free (elim k [
        | IntKind ↦ Ok (scalar_at Word i)
        | UnsignedKind ↦ Ok (scalar_at Word i)
        | CharKind ↦ Ok (scalar_at Byte i)
        | PointerKind ↦ Ok (scalar_at Address i)
        | ArrayKind ↦ dict_at s t (codes "to") >>= λ item. number_at s item (codes "size") >>= λ size. number_at s t (codes "count") >>= λ count. item_at (λ j. leaf_within s deep item j) size count i
        | StructKind ↦ items_at s t (codes "members") >>= λ xs. holder s i None xs >>= member_at (λ m j. leaf_within s deep m j) i
      ])
      by h IntKind = tt
      by h UnsignedKind = tt
      by h CharKind = tt
      by h PointerKind = tt
      by h ArrayKind =
          free_on (dict_at s t (codes "to")) _ (dict_at_free t (codes "to")) (λ item. free_on (number_at s item (codes "size")) _ (number_at_free item (codes "size"))
          (λ size. free_on (number_at s t (codes "count")) _ (number_at_free t (codes "count")) (λ count. item_free (λ j. leaf_within s deep item j) (h item) (nat_lt 0 size && nat_lt (i / size) count) (i % size))))
      by h StructKind = free_on (items_at s t (codes "members")) _ (items_at_free t (codes "members")) (λ xs. free_on (holder s i None xs) _ (holder_free i None xs) (member h))

  leaf_in_free : (o : Option Found) (i : ℕ) → Free (leaf_in s o i)
  leaf_in_free None i = tt
  leaf_in_free (Some o) i = leaf_free 64 o.ctype i

  pub kind_live_free : (o : Option Found) (k : Kind) (i : ℕ) → Free (kind_live s o k i)
  kind_live_free o k i = free_on (leaf_in s o i) _ (leaf_in_free o i) (λ leaf. tt)
