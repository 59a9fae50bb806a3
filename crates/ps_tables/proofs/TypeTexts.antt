-- The text of a type leaves its object.
use Rattle.std.proofs.Common.{◌≡◌, ℕ, ℤ, pos, suc, ◌+◌, ◌*◌, ◌*ℤ◌, ◌<◌, ◌≤◌, ◌^◌, Bool, true, false, nat_lt, if◌then◌else◌, Option, Some, Result, Ok, Err, List, [], ◌∷◌, ◌++◌, length, codes, slice_get, refl, sym, ap, ◌∙◌, subst, arith, length-append, lt-ltb}
use Rattle.std.specs.Int.{w32}
use Rattle.std.proofs.lemmas.Int.{to_z_pos}
use Rattle.ldb_words.specs.Word.{signed}
use Rattle.ps_scan.specs.Bytes.{is_regular, is_white, is_special}
use Rattle.ps_store.specs.declared.object.PsObj.{PsObj}
use Rattle.ps_store.specs.declared.object.PsObj.TheVariants.{Int, Array, Dict, Op, Null}
use Rattle.ps_store.specs.declared.object.ArrayId.{ArrayId}
use Rattle.ps_store.specs.declared.object.DictId.{DictId}
use Rattle.ps_store.specs.declared.object.StringId.{StringId}
use Rattle.ps_store.specs.declared.object.Pair.{Pair}
use Rattle.ps_store.specs.declared.key.Key.{Key}
use Rattle.ps_store.specs.declared.key.Key.TheVariants.{Name as NameKey}
use Rattle.ps_store.specs.Entries.{value_at}
use Rattle.ps_store.specs.Operators.{operator_number}
use Rattle.ps_store.specs.StoreState.{StoreState}
use Rattle.ps_store.specs.Store.{elements_of, entries_of}
use Rattle.ps_step.specs.declared.fault.PsError.{PsError}
use Rattle.ps_step.specs.declared.fault.PsError.TheVariants.{RangeCheck}
use Rattle.ps_step.specs.Arithmetic.{is_integer, product}
use Rattle.ps_step.specs.declared.item.Item.{Item}
use Rattle.ps_step.specs.declared.item.Item.TheVariants.{Text as TextItem}
use Rattle.ps_step.specs.declared.machine.PsCore.{PsCore}
use Rattle.ps_step.specs.Results.{at as at_state}
use Rattle.ps_step.specs.State.{Made}
use Rattle.ps_step.specs.Keys.{named}
use Rattle.ps_step.specs.Executing.{alone}
use Rattle.ps_run.specs.Step.{Next, settled, step}
use Rattle.ps_text.specs.Code.{Code, Stop, Num, Word, render}
use Rattle.ps_text.specs.Grown.{HasArray}
use Rattle.ps_text.specs.Spells.{Spells, Fine, units}
use Rattle.ps_text.proofs.Checks.{fine}
use Rattle.ps_terms.specs.Machine.{Does, entered}
use Rattle.ps_terms.specs.Stands.{bottom, core, Means}
use Rattle.ps_terms.specs.Printing.{further}
use Rattle.ps_terms.proofs.Sound.{Enters, enters}
use Rattle.ps_tables.specs.Taken.{Takes}
use Rattle.ps_tables.specs.Dictionaries.{Fields, AreFields, filled, joined, with_dict, next_dict}
use Rattle.ps_tables.specs.Making.{IsMaking, HasFields, Makes}
use Rattle.ps_tables.specs.Later.{Later, StandsAt}
use Rattle.ps_tables.specs.Makers.{body, Ready}
use Rattle.ps_tables.specs.TableWords.{pointer_to}
use Rattle.ps_tables.specs.Pieces.{Bottom, Gives, itself, nothing}
use Rattle.ps_tables.specs.Types.{Type', Basic, Nothing, To, Many, Numbered, type_term, bytes_of_type, type_steps, type_cost, IsSized, IsType, IsSome, KnowsType, of_pointers, of_arrays, array_body}
use Rattle.ps_tables.proofs.Going.{takes_then, takes_one}
use Rattle.ps_tables.proofs.Putting.{entries_there}
use Rattle.ps_tables.proofs.Copies.{fields_length}
use Rattle.ps_tables.proofs.Arrays.{array_made}
use Rattle.ps_tables.proofs.Stores.{later_then, later_within, later_made, making_later, means_later, ready_later, named_later, fields_later, fields_are_later, has_array_later, body_later, stands_later}
use Rattle.ps_tables.proofs.Types.{fields_value, sized_later, type_later, knows_type_later}
use Rattle.ps_tables.proofs.Tokens.{Pushed, Acted, word_acts, word_pushes, number_pushes}
use Rattle.ps_tables.proofs.Values.{sized_value}
use Rattle.ps_tables.proofs.PieceSteps.{MakesEntry, makes_entry, Gets, gets}

pub null_fine : Fine (Word (codes "null") Stop)
unfolding is_white is_special is_regular
null_fine = fine (Word (codes "null") Stop) refl

pub null_number : operator_number (codes "null") ≡ Some 60
unfolding operator_number
null_number = refl

pointer_fine : Fine (Word (codes "PointerTo") Stop)
unfolding is_white is_special is_regular
pointer_fine = fine (Word (codes "PointerTo") Stop) refl

array_fine : Fine (Word (codes "ArrayOf") Stop)
unfolding is_white is_special is_regular
array_fine = fine (Word (codes "ArrayOf") Stop) refl

pub structs_fine : Fine (Word (codes "structs") Stop)
unfolding is_white is_special is_regular
structs_fine = fine (Word (codes "structs") Stop) refl

pub small_signed : (n : ℕ) → n < 2 ^ 31 → signed n ≡ pos n
small_signed n h = to_z_pos w32 n h

pub small_integer : (n : ℕ) → n < 2 ^ 31 → is_integer (pos n) ≡ true
small_integer n h = lt-ltb _ _ h

pub small_fine : (n : ℕ) → n < 2 ^ 31 → Fine (Num (signed n) Stop)
small_fine n h = (ap is_integer (small_signed n h) ∙ small_integer n h, tt)

small_product : (n m : ℕ) → n * m < 2 ^ 31 → product (pos n) (pos m) ≡ Ok (pos (n * m))
small_product n m h = ap (λ (b : Bool). if b then Ok (pos (n * m)) else Err RangeCheck) (small_integer (n * m) h)

-- ---- the word for arrays

module _ (s : StoreState) (ds : List DictId) (is : IsMaking s ds) (t : StringId) (under : List Item) where
  record MakesArray (size total count : ℕ) (o : List PsObj) (x : PsObj) (at : ℕ) (text : List ℕ) : Type 0 where
    pub store : StoreState
    pub object : PsObj
    pub to : ℕ
    pub later : Later 8 s store
    pub sized : IsSized store object total
    pub stands : StandsAt store t to text
    pub takes : Takes 29 (core s ds (Int (pos count) ∷ x ∷ o) (TextItem t at ∷ under)) (core store ds (object ∷ o) (TextItem t to ∷ under))

  makes_array : (k : Code) (post : List ℕ) (count size : ℕ) (d : DictId) (dict : DictId) (kind printer : PsObj) (o : List PsObj) (at : ℕ) → Means s ds (codes "ArrayOf") (Does array_body)
      → named s ds (codes "ArrayType") ≡ Some (Dict dict) → HasFields s dict (of_arrays kind printer) → IsSized s (Dict d) size → count * size < 2 ^ 31 → length o + 110 ≤ 100000
      → s.table.units + s.command.units + 8 ≤ 8000000 → length under + 100 ≤ 1000 → StandsAt s t at (render (Word (codes "ArrayOf") k) ++ post) → MakesArray size (count * size) count o (Dict d) at (render k ++ post)
  makes_array k post count size d dict kind printer o at means kinds fields sized few stack units_fit items_fit h =
      let word : List ℕ = codes "ArrayOf" in
      let keys : List (List ℕ) = codes "size" ∷ codes "count" ∷ codes "to" ∷ [] in
      let all : List PsObj = Int (pos count) ∷ Dict d ∷ o in
      let a : Acted s ds all t at under (Array means.0 true) (units (Word word Stop)) (render k ++ post) = word_acts s ds all t at under word k post (Array means.0 true) array_fine means.1 is.there h (omega arith) in
      let s₁ : StoreState = a.store in
      let is₁ : IsMaking s₁ ds = making_later (units (Word word Stop)) s s₁ a.later ds is in
      let has₁ : HasArray s₁ means.0 = (has_array_later (units (Word word Stop)) s s₁ a.later means.0 means.2).has in
      let spells₁ : Spells s₁ (elements_of s₁ means.0) array_body = body_later (units (Word word Stop)) s s₁ a.later array_body means.0 means.2 means.3 in
      let own : List Item = TextItem t a.to ∷ under in
      let e : Enters s₁ s₁ ds own own means.0 (entered array_body []) = enters s₁ s₁ ds own own means.0 [] bottom (omega arith) has₁ refl array_body spells₁ in
      let counted : s₁.table.units + s₁.command.units ≤ s.table.units + s.command.units + units (Word word Stop) = a.later.counted in
      let sized₁ : IsSized s₁ (Dict d) size = sized_later (units (Word word Stop)) s s₁ a.later (Dict d) size sized in
      let same : Dict d ≡ Dict sized₁.dict = sized₁.is in
      let at_d : d ≡ sized₁.dict = cc in
      let found : value_at (entries_of s₁ d) (NameKey (codes "size")) ≡ Some (Int (pos size)) = subst (λ (e : DictId). value_at (entries_of s₁ e) (NameKey (codes "size")) ≡ Some (Int (pos size))) (sym at_d) sized₁.has in
      let vs : List PsObj = Int (pos (count * size)) ∷ Int (pos count) ∷ Dict d ∷ [] in
      let made : Fields = filled (joined [] (of_arrays kind printer)) keys vs in
      let m : Makes 28 s₁ ds made all e.after o own =
      array_made s₁ ds is₁ own (pos count) (pos size) (pos (count * size)) d found (small_product count size few) o stack (codes "ArrayType") dict (of_arrays kind printer) e.after
      (named_later (units (Word word Stop)) s s₁ a.later ds (codes "ArrayType") is.there ∙ kinds) (fields_later (units (Word word Stop)) s s₁ a.later dict (of_arrays kind printer) fields) (omega arith) (omega arith) (omega arith) e.frames in
      let es : List (Key × Pair) = m.entries in
      let s₂ : StoreState = with_dict s₁ es in
      let put : Later (1 + length es) s₁ s₂ = later_made s₁ es is₁.part in
      let size_is : length es ≡ length made = fields_length s₁ es made m.are in
      let five : length made ≡ 5 = refl in
      let there : entries_of s₂ (next_dict s₁) ≡ es = entries_there s₁ is₁.closed es in
      let c₀ : PsCore = core s ds all (TextItem t at ∷ under) in
      let c₁ : PsCore = core s₁ ds all e.after in
      let c₂ : PsCore = core s₂ ds (Dict (next_dict s₁) ∷ o) own in
      let entering : step c₀ ≡ Next c₁ = a.steps ∙ ap (λ (r : Made). settled (alone (at_state (core s₁ ds all own) r))) (e.calls all) in
      record {
        store = s₂;
        object = Dict (next_dict s₁);
        to = a.to;
        later = later_within (units (Word word Stop) + (1 + length es)) 8 s s₂ (omega arith) (later_then (units (Word word Stop)) (1 + length es) s s₁ s₂ a.later put);
        sized = record {
          dict = next_dict s₁;
          is = refl;
          there = let len : length (s₁.table.dicts ++ es ∷ []) ≡ length s₁.table.dicts + 1 = length-append s₁.table.dicts (es ∷ []) in omega arith;
          has = ap (λ (l : List (Key × Pair)). value_at l (NameKey (codes "size"))) there ∙ fields_value s₁ es made (codes "size") m.are;
        };
        stands = stands_later (1 + length es) s₁ s₂ put t a.to (render k ++ post) a.stands;
        takes = takes_then 1 28 c₀ c₁ c₂ (takes_one c₀ c₁ entering) m.takes;
      }

-- ---- types

module _ (ds : List DictId) (t : StringId) (under : List Item) (items_fit : length under + 100 ≤ 1000) (post : List ℕ) where
  -- its object comes on top
  pub record TypeDone (t' : Type') (k : Code) (s : StoreState) (xs : List PsObj) (at : ℕ) : Type 0 where
    pub store : StoreState
    pub object : PsObj
    pub to : ℕ
    pub later : Later (type_cost t') s store
    pub is : IsType store object t'
    pub stands : StandsAt store t to (render k ++ post)
    pub takes : Takes (type_steps t') (core s ds xs (TextItem t at ∷ under)) (core store ds (object ∷ xs) (TextItem t to ∷ under))

  abbrev Doing : Type' → Type 0
  Doing t' =
      (k : Code) (s : StoreState) (xs : List PsObj) (at : ℕ) → IsMaking s ds → KnowsType s ds t' → length xs + 111 ≤ 100000 → s.table.units + s.command.units + type_cost t' ≤ 8000000
      → StandsAt s t at (render (type_term t' k) ++ post) → TypeDone t' k s xs at

  basic_done : (word : List ℕ) (size : ℕ) → Doing (Basic word size)
  basic_done word size k s xs at is knows room units_fit h =
      let x : PsObj = knows.1 in
      let u : ℕ = units (Word word Stop) in
      let p : Pushed s ds xs t at under x u (render k ++ post) =
      word_pushes s ds xs t at under word k post x x knows.0 knows.2 (itself x (sized_value s x size knows.3)) is.there h (omega arith) (omega arith) in
      record {
        store = p.store;
        object = x;
        to = p.to;
        later = later_within u (type_cost (Basic word size)) s p.store (omega arith) p.later;
        is = sized_later u s p.store p.later x size knows.3;
        stands = p.stands;
        takes = takes_one (core s ds xs (TextItem t at ∷ under)) (core p.store ds (x ∷ xs) (TextItem t p.to ∷ under)) p.steps;
      }

  nothing_done : Doing Nothing
  nothing_done k s xs at is knows room units_fit h =
      let u : ℕ = units (Word (codes "null") Stop) in
      let p : Pushed s ds xs t at under Null u (render k ++ post) =
      word_pushes s ds xs t at under (codes "null") k post (Op 60) Null null_fine (is.operators (codes "null") 60 null_number) nothing is.there h (omega arith) (omega arith) in
      record {
        store = p.store;
        object = Null;
        to = p.to;
        later = later_within u (type_cost Nothing) s p.store (omega arith) p.later;
        is = refl;
        stands = p.stands;
        takes = takes_one (core s ds xs (TextItem t at ∷ under)) (core p.store ds (Null ∷ xs) (TextItem t p.to ∷ under)) p.steps;
      }

  numbered_done : (n size : ℕ) → Doing (Numbered n size)
  numbered_done n size k s xs at is knows room units_fit h =
      let u : ℕ = units (Word (codes "structs") Stop) in
      let v : ℕ = units (Word (codes "get") Stop) in
      let a : ArrayId = knows.1 in
      let x : PsObj = knows.3 in
      let last : Code = Word (codes "get") k in
      let same : signed n ≡ pos n = small_signed n knows.0 in
      let p : Pushed s ds xs t at under (Array a false) u (render (Num (signed n) last) ++ post) =
      word_pushes s ds xs t at under (codes "structs") (Num (signed n) last) post (Array a false) (Array a false) structs_fine knows.4 (itself (Array a false) tt) is.there h (omega arith) (omega arith) in
      let s₁ : StoreState = p.store in
      let counted₁ : s₁.table.units + s₁.command.units ≤ s.table.units + s.command.units + u = p.later.counted in
      let is₁ : IsMaking s₁ ds = making_later u s s₁ p.later ds is in
      let q : Pushed s₁ ds (Array a false ∷ xs) t p.to under (Int (signed n)) 0 (render last ++ post) = number_pushes s₁ ds (Array a false ∷ xs) t p.to under (signed n) last post (small_fine n knows.0) p.stands (omega arith) (omega arith) in
      let s₂ : StoreState = q.store in
      let counted₂ : s₂.table.units + s₂.command.units ≤ s₁.table.units + s₁.command.units + 0 = q.later.counted in
      let two : Later (u + 0) s s₂ = later_then u 0 s s₁ s₂ p.later q.later in
      let w : Gets ds t under post s₂ k x xs a n q.to = gets ds t under post s₂ k x xs knows.2 a n q.to (making_later 0 s₁ s₂ q.later ds is₁) (two.arrays a knows.2 knows.5) knows.6 q.stands (omega arith) in
      let s₃ : StoreState = w.store in
      let all : Later (u + 0 + v) s s₃ = later_then (u + 0) v s s₂ s₃ two w.later in
      let c₀ : PsCore = core s ds xs (TextItem t at ∷ under) in
      let c₁ : PsCore = core s₁ ds (Array a false ∷ xs) (TextItem t p.to ∷ under) in
      let c₂ : PsCore = core s₂ ds (Int (pos n) ∷ Array a false ∷ xs) (TextItem t q.to ∷ under) in
      let c₃ : PsCore = core s₃ ds (x ∷ xs) (TextItem t w.to ∷ under) in
      let second : step c₁ ≡ Next c₂ = q.steps ∙ ap (λ (z : ℤ). Next (core s₂ ds (Int z ∷ Array a false ∷ xs) (TextItem t q.to ∷ under))) same in
      record {
        store = s₃;
        object = x;
        to = w.to;
        later = later_within (u + 0 + v) (type_cost (Numbered n size)) s s₃ (omega arith) all;
        is = sized_later (u + 0 + v) s s₃ all x size knows.7;
        stands = w.stands;
        takes = takes_then 1 2 c₀ c₁ c₃ (takes_one c₀ c₁ p.steps) (takes_then 1 1 c₁ c₂ c₃ (takes_one c₁ c₂ second) (takes_one c₂ c₃ w.steps));
      }

  to_done : (t' : Type') → Doing t' → Doing (To t')
  to_done t' of_target k s xs at is knows room units_fit h =
      let word : List ℕ = codes "PointerTo" in
      let dict : DictId = knows.1 in
      let own : Fields = of_pointers knows.2 knows.3 in
      let u : ℕ = units (Word word Stop) + (1 + 4) in
      let p : TypeDone t' (Word word k) s xs at = of_target (Word word k) s xs at is knows.0 room (omega arith) h in
      let s₁ : StoreState = p.store in
      let counted : s₁.table.units + s₁.command.units ≤ s.table.units + s.command.units + type_cost t' = p.later.counted in
      let is₁ : IsMaking s₁ ds = making_later (type_cost t') s s₁ p.later ds is in
      let w : MakesEntry s₁ ds is₁ t under (pointer_to dict own) Bottom (p.object ∷ []) xs p.to (render k ++ post) u =
      makes_entry s₁ ds is₁ t under word (pointer_to dict own) k post Bottom (p.object ∷ []) xs p.to pointer_fine (means_later (type_cost t') s s₁ p.later ds word (body (pointer_to dict own)) is.there knows.4)
      (ready_later (type_cost t') s s₁ p.later ds is.there (pointer_to dict own) knows.5) refl (omega arith) (omega arith) (omega arith) items_fit p.stands in
      let s₂ : StoreState = w.store in
      let made : Fields = filled (joined [] own) (codes "to" ∷ []) (p.object ∷ []) in
      let same : w.fields ≡ made = w.are in
      let are : AreFields s₂ (entries_of s₂ w.dict) made = subst (λ (fs : Fields). AreFields s₂ (entries_of s₂ w.dict) fs) same w.has.are in
      let c₀ : PsCore = core s ds xs (TextItem t at ∷ under) in
      let c₁ : PsCore = core s₁ ds (p.object ∷ xs) (TextItem t p.to ∷ under) in
      let c₂ : PsCore = core s₂ ds (Dict w.dict ∷ xs) (TextItem t w.to ∷ under) in
      record {
        store = s₂;
        object = Dict w.dict;
        to = w.to;
        later = later_within (type_cost t' + u) (type_cost (To t')) s s₂ (omega arith) (later_then (type_cost t') u s s₁ s₂ p.later w.later);
        is = record { dict = w.dict; is = refl; there = w.has.is_there; has = fields_value s₂ (entries_of s₂ w.dict) made (codes "size") are };
        stands = w.stands;
        takes = takes_then (type_steps t') 11 c₀ c₁ c₂ p.takes w.takes;
      }

  some_sized : (t' : Type') (s : StoreState) (x : PsObj) → IsSome t' → IsType s x t' → IsSized s x (bytes_of_type t')
  some_sized (Basic word size) s x some h = h
  some_sized Nothing s x some h = absurd some
  some_sized (To t') s x some h = h
  some_sized (Many t' n) s x some h = h
  some_sized (Numbered n size) s x some h = h

  many_done : (t' : Type') (n : ℕ) → Doing t' → Doing (Many t' n)
  many_done t' n of_item k s xs at is knows room units_fit h =
      let size : ℕ = bytes_of_type t' in
      let last : Code = Word (codes "ArrayOf") k in
      let p : TypeDone t' (Num (signed n) last) s xs at = of_item (Num (signed n) last) s xs at is knows.0 room (omega arith) h in
      let s₁ : StoreState = p.store in
      let counted₁ : s₁.table.units + s₁.command.units ≤ s.table.units + s.command.units + type_cost t' = p.later.counted in
      let is₁ : IsMaking s₁ ds = making_later (type_cost t') s s₁ p.later ds is in
      let sized : IsSized s₁ p.object size = some_sized t' s₁ p.object knows.1 p.is in
      let q : Pushed s₁ ds (p.object ∷ xs) t p.to under (Int (signed n)) 0 (render last ++ post) = number_pushes s₁ ds (p.object ∷ xs) t p.to under (signed n) last post (small_fine n knows.2) p.stands (omega arith) (omega arith) in
      let s₂ : StoreState = q.store in
      let counted₂ : s₂.table.units + s₂.command.units ≤ s₁.table.units + s₁.command.units + 0 = q.later.counted in
      let two : Later (type_cost t' + 0) s s₂ = later_then (type_cost t') 0 s s₁ s₂ p.later q.later in
      let sized₂ : IsSized s₂ p.object size = sized_later 0 s₁ s₂ q.later p.object size sized in
      let sized₃ : IsSized s₂ (Dict sized₂.dict) size = record { dict = sized₂.dict; is = refl; there = sized₂.there; has = sized₂.has } in
      let v : ℕ = type_cost t' + 0 in
      let w : MakesArray s₂ ds (making_later 0 s₁ s₂ q.later ds is₁) t under size (n * size) n xs (Dict sized₂.dict) q.to (render k ++ post) =
      makes_array s₂ ds (making_later 0 s₁ s₂ q.later ds is₁) t under k post n size sized₂.dict knows.4 knows.5 knows.6 xs q.to (means_later v s s₂ two ds (codes "ArrayOf") array_body is.there knows.7)
      (named_later v s s₂ two ds (codes "ArrayType") is.there ∙ knows.8) (fields_later v s s₂ two knows.4 (of_arrays knows.5 knows.6) knows.9) sized₃ knows.3 (omega arith) (omega arith) items_fit q.stands in
      let c₀ : PsCore = core s ds xs (TextItem t at ∷ under) in
      let c₁ : PsCore = core s₁ ds (p.object ∷ xs) (TextItem t p.to ∷ under) in
      let c₂ : PsCore = core s₂ ds (Int (pos n) ∷ Dict sized₂.dict ∷ xs) (TextItem t q.to ∷ under) in
      let c₃ : PsCore = core w.store ds (w.object ∷ xs) (TextItem t w.to ∷ under) in
      let second : step c₁ ≡ Next c₂ =
      q.steps ∙ ap (λ (z : ℤ). Next (core s₂ ds (Int z ∷ p.object ∷ xs) (TextItem t q.to ∷ under))) (small_signed n knows.2)
      ∙ ap (λ (x : PsObj). Next (core s₂ ds (Int (pos n) ∷ x ∷ xs) (TextItem t q.to ∷ under))) sized₂.is in
      record {
        store = w.store;
        object = w.object;
        to = w.to;
        later = later_within (v + 8) (type_cost (Many t' n)) s w.store (omega arith) (later_then v 8 s s₂ w.store two w.later);
        is = w.sized;
        stands = w.stands;
        takes = takes_then (type_steps t') 30 c₀ c₁ c₃ p.takes (takes_then 1 29 c₁ c₂ c₃ (takes_one c₁ c₂ second) w.takes);
      }

  pub type_done : (t' : Type') → Doing t'
  type_done (Basic word size) = basic_done word size
  type_done Nothing = nothing_done
  type_done (To t') = to_done t' (type_done t')
  type_done (Many t' n) = many_done t' n (type_done t')
  type_done (Numbered n size) = numbered_done n size
