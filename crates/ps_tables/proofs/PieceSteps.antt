-- Steps of which pieces of a text are made.
use Rattle.std.proofs.Common.{◌≡◌, ℕ, ℤ, pos, suc, ◌+◌, ◌*◌, ◌<◌, ◌≤◌, true, false, Option, Some, None, Result, Ok, Err, List, [], ◌∷◌, ◌++◌, length, reverse, take, drop, slice_get, codes, refl, sym, ap, ◌∙◌, subst, arith, length-append, take_at, drop_at, append_assoc}
use Rattle.std.proofs.lemmas.List.{length-reverse}
use Rattle.ps_scan.specs.Bytes.{is_regular, is_white, is_special}
use Rattle.ps_store.specs.declared.object.Part.TheVariants.{Table}
use Rattle.ps_store.specs.declared.object.PsObj.{PsObj}
use Rattle.ps_store.specs.declared.object.PsObj.TheVariants.{Int, Name, Str, Array, Dict, Op, Mark}
use Rattle.ps_store.specs.declared.object.ArrayId.{ArrayId}
use Rattle.ps_store.specs.declared.object.DictId.{DictId}
use Rattle.ps_store.specs.declared.object.StringId.{StringId}
use Rattle.ps_store.specs.declared.object.Pair.{Pair}
use Rattle.ps_store.specs.declared.key.Key.{Key}
use Rattle.ps_store.specs.declared.key.Key.TheVariants.{Int as IntKey}
use Rattle.ps_store.specs.Operators.{operator_number}
use Rattle.ps_store.specs.StoreState.{StoreState}
use Rattle.ps_store.specs.Store.{Given, elements_of, entries_of, making_array, text_units}
use Rattle.ps_step.specs.declared.fault.PsError.{PsError}
use Rattle.ps_step.specs.declared.fault.PsError.TheVariants.{UnmatchedMark}
use Rattle.ps_step.specs.declared.item.Item.{Item}
use Rattle.ps_step.specs.declared.item.Item.TheVariants.{Text as TextItem}
use Rattle.ps_step.specs.declared.machine.PsCore.{PsCore}
use Rattle.ps_step.specs.Results.{◌>>=◌, stored, at as at_state}
use Rattle.ps_step.specs.State.{Made, pushing}
use Rattle.ps_step.specs.Values.{within}
use Rattle.ps_step.specs.Keys.{found_in, under as under_key}
use Rattle.ps_step.specs.Executing.{alone, acting}
use Rattle.ps_run.specs.Step.{Next, settled, step}
use Rattle.ps_text.specs.Code.{Code, Stop, Num, Word, Lit, Text, Proc, render}
use Rattle.ps_text.specs.Grown.{HasArray, IsArray, IsString}
use Rattle.ps_text.specs.Spells.{Spells, Fine, units}
use Rattle.ps_text.specs.Reading.{first}
use Rattle.ps_text.proofs.Checks.{fine}
use Rattle.ps_text.proofs.Growing.{MadeArray, array_made}
use Rattle.ps_terms.specs.Machine.{Does, entered}
use Rattle.ps_terms.specs.Stands.{Frames, bottom, core, Means}
use Rattle.ps_terms.specs.Printing.{further}
use Rattle.ps_terms.proofs.Sound.{push_next, Enters, enters}
use Rattle.ps_tables.specs.Taken.{Takes}
use Rattle.ps_tables.specs.Dictionaries.{Fields, AreFields, with_dict, next_dict}
use Rattle.ps_tables.specs.Making.{IsMaking, HasFields}
use Rattle.ps_tables.specs.Later.{IsOpen, Later, StandsAt}
use Rattle.ps_tables.specs.Makers.{Maker, body, making_steps, taken_by, most, calls, Ready, Leaves, MadeBy}
use Rattle.ps_tables.specs.Pieces.{Piece, End, Number, Literal, Chars, Quote, Value, Element, Make, Row, Loaded, Deferred, Field, Pairs, fields_in, code, steps, left_by, cost, IsValue, Gives, itself, Knows, HasRoom, Values, Bottom, This, Named, Written, Quoted, Listed, Entry, Runs, Under, Paired, after, Show, Performs}
use Rattle.ps_tables.proofs.Going.{takes_then, takes_one}
use Rattle.ps_tables.proofs.Putting.{entries_there}
use Rattle.ps_tables.proofs.Copies.{fields_length}
use Rattle.ps_tables.proofs.Words.{count_is}
use Rattle.ps_tables.proofs.Stores.{found_later, later_none, later_then, later_within, later_grown, later_made, making_later, fields_later, has_array_later, body_later, means_later, ready_later, stands_later, made_later, fields_are_later}
use Rattle.ps_tables.proofs.Makers.{only, short_made, most_made, leaves, body_frames}
use Rattle.ps_tables.proofs.Pairs.{ClosesPairs, closes_pairs}
use Rattle.ps_tables.proofs.Tokens.{head_is, gives_value, Met, meets, Stays, met_step, Pushed, Acted, word_acts, word_pushes, number_pushes}
use Rattle.ps_tables.proofs.Values.{only_pairs, fields_left, left_length, mark_shown, show_later, knows_later, room_now, room_behind}

pub load_fine : Fine (Word (codes "load") Stop)
unfolding is_white is_special is_regular
load_fine = fine (Word (codes "load") Stop) refl

pub load_number : operator_number (codes "load") ≡ Some 29
unfolding operator_number
load_number = refl

pub cvx_fine : Fine (Word (codes "cvx") Stop)
unfolding is_white is_special is_regular
cvx_fine = fine (Word (codes "cvx") Stop) refl

cvx_number : operator_number (codes "cvx") ≡ Some 37
unfolding operator_number
cvx_number = refl

pub pairs_fine : Fine (Word (codes "<<") Stop)
unfolding is_white is_special is_regular
pairs_fine = fine (Word (codes "<<") Stop) refl

pub pairs_number : operator_number (codes "<<") ≡ Some 11
unfolding operator_number
pairs_number = refl

pub open_fine : Fine (Word (codes "[") Stop)
unfolding is_white is_special is_regular
open_fine = fine (Word (codes "[") Stop) refl

close_fine : Fine (Word (codes "]") Stop)
unfolding is_white is_special is_regular
close_fine = fine (Word (codes "]") Stop) refl

pub get_fine : Fine (Word (codes "get") Stop)
unfolding is_white is_special is_regular
get_fine = fine (Word (codes "get") Stop) refl

pub open_number : operator_number (codes "[") ≡ Some 9
unfolding operator_number
open_number = refl

close_number : operator_number (codes "]") ≡ Some 10
unfolding operator_number
close_number = refl

pub get_number : operator_number (codes "get") ≡ Some 32
unfolding operator_number
get_number = refl

module _ (ds : List DictId) (o : List PsObj) (t : StringId) (under : List Item) (rest : List ℕ) where
  -- one step more in front
  abbrev Leads : ℕ → ℕ → Values → StoreState → List PsObj → ℕ → Type 0
  Leads c n vs s from at = Performs c n vs s ds from o t at rest under

  pub steps_on : (u c c' k n : ℕ) (vs : Values) (s s₁ : StoreState) (from mid : List PsObj) (at to : ℕ) → u + c ≤ c' → Later u s s₁
      → Takes k (core s ds from (TextItem t at ∷ under)) (core s₁ ds mid (TextItem t to ∷ under)) → Leads c n vs s₁ mid to → Leads c' (further k n) vs s from at
  steps_on u c c' k n vs s s₁ from mid at to less later takes p = record {
    store = p.store;
    operands = p.operands;
    to = p.to;
    later = later_within (u + c) c' s p.store less (later_then u c s s₁ p.store later p.later);
    shows = p.shows;
    stands = p.stands;
    takes = takes_then k n (core s ds from (TextItem t at ∷ under)) (core s₁ ds mid (TextItem t to ∷ under)) (core p.store ds (p.operands ++ o) (TextItem t p.to ∷ under)) takes p.takes;
  }

  pub push_on : (u c c' n : ℕ) (vs : Values) (s : StoreState) (from : List PsObj) (at : ℕ) (x : PsObj) (text : List ℕ) → u + c ≤ c' → (p : Pushed s ds from t at under x u text)
      → Leads c n vs p.store (x ∷ from) p.to → Leads c' (suc n) vs s from at
  push_on u c c' n vs s from at x text less p q =
      steps_on u c c' 1 n vs s p.store from (x ∷ from) at p.to less p.later
      (takes_one (core s ds from (TextItem t at ∷ under)) (core p.store ds (x ∷ from) (TextItem t p.to ∷ under)) p.steps) q

  pub met_on : (k : Code) (post : List ℕ) (c c' n : ℕ) (vs : Values) (s : StoreState) (from : List PsObj) (at : ℕ) (m : Met s ds from t at under k post) (x : PsObj) → units (first k) + c ≤ c'
      → m.object ≡ x → length from + 110 ≤ 100000 → Stays s ds from t at under x → Leads c n vs m.store (x ∷ from) m.to → Leads c' (suc n) vs s from at
  met_on k post c c' n vs s from at m x less same room stays q =
      steps_on (units (first k)) c c' 1 n vs s m.store from (x ∷ from) at m.to less m.later
      (takes_one (core s ds from (TextItem t at ∷ under)) (core m.store ds (x ∷ from) (TextItem t m.to ∷ under)) (met_step s ds from t at under k post m x same room stays)) q

-- ---- a word that makes a dictionary

module _ (s : StoreState) (ds : List DictId) (is : IsMaking s ds) (t : StringId) (under : List Item) where
  -- its dictionary takes the place of its parts
  pub record MakesEntry (m : Maker) (parts : Values) (zs o : List PsObj) (at : ℕ) (text : List ℕ) (cost : ℕ) : Type 0 where
    pub store : StoreState
    pub dict : DictId
    pub fields : Fields
    pub to : ℕ
    pub later : Later cost s store
    pub has : HasFields store dict fields
    pub are : MadeBy store m zs fields
    pub opened : IsOpen store dict
    pub stands : StandsAt store t to text
    pub takes : Takes (suc (making_steps m)) (core s ds (zs ++ o) (TextItem t at ∷ under)) (core store ds (Dict dict ∷ o) (TextItem t to ∷ under))

  pub makes_entry : (word : List ℕ) (m : Maker) (k : Code) (post : List ℕ) (parts : Values) (zs o : List PsObj) (at : ℕ) → Fine (Word word Stop) → Means s ds word (Does (body m)) → Ready s ds m
      → length zs ≡ taken_by m → calls m ≤ 80 → length (zs ++ o) + 110 ≤ 100000 → s.table.units + s.command.units + (units (Word word Stop) + (1 + most m)) ≤ 8000000
      → length under + 100 ≤ 1000 → StandsAt s t at (render (Word word k) ++ post) → MakesEntry m parts zs o at (render k ++ post) (units (Word word Stop) + (1 + most m))
  makes_entry word m k post parts zs o at fine means ready same nested stack units_fit items_fit h =
      let a : Acted s ds (zs ++ o) t at under (Array means.0 true) (units (Word word Stop)) (render k ++ post) =
      word_acts s ds (zs ++ o) t at under word k post (Array means.0 true) fine means.1 is.there h (omega arith) in
      let s₁ : StoreState = a.store in
      let is₁ : IsMaking s₁ ds = making_later (units (Word word Stop)) s s₁ a.later ds is in
      let means₁ : Means s₁ ds word (Does (body m)) = means_later (units (Word word Stop)) s s₁ a.later ds word (body m) is.there means in
      let has₁ : HasArray s₁ means.0 = (has_array_later (units (Word word Stop)) s s₁ a.later means.0 means.2).has in
      let spells₁ : Spells s₁ (elements_of s₁ means.0) (body m) = body_later (units (Word word Stop)) s s₁ a.later (body m) means.0 means.2 means.3 in
      let own : List Item = TextItem t a.to ∷ under in
      let e : Enters s₁ s₁ ds own own means.0 (entered (body m) []) = enters s₁ s₁ ds own own means.0 [] bottom (omega arith) has₁ refl (body m) spells₁ in
      let counted : s₁.table.units + s₁.command.units ≤ s.table.units + s.command.units + units (Word word Stop) = a.later.counted in
      let l : Leaves s₁ ds m zs o e.after own =
      leaves s₁ ds is₁ m zs o e.after own (ready_later (units (Word word Stop)) s s₁ a.later ds is.there m ready) same (omega arith) (omega arith) (omega arith) (body_frames s₁ m e.after own e.frames) in
      let es : List (Key × Pair) = l.makes.entries in
      let s₂ : StoreState = with_dict s₁ es in
      let made : Later (1 + length es) s₁ s₂ = later_made s₁ es is₁.part in
      let size : length es ≡ length l.fields = fields_length s₁ es l.fields l.makes.are in
      let few : length l.fields ≤ most m = most_made s₁ ds m zs l.fields l.are in
      let there : entries_of s₂ (next_dict s₁) ≡ es = entries_there s₁ is₁.closed es in
      let c₀ : PsCore = core s ds (zs ++ o) (TextItem t at ∷ under) in
      let c₁ : PsCore = core s₁ ds (zs ++ o) e.after in
      let c₂ : PsCore = core s₂ ds (Dict (next_dict s₁) ∷ o) own in
      let entering : step c₀ ≡ Next c₁ = a.steps ∙ ap (λ (r : Made). settled (alone (at_state (core s₁ ds (zs ++ o) own) r))) (e.calls (zs ++ o)) in
      record {
        store = s₂;
        dict = next_dict s₁;
        fields = l.fields;
        to = a.to;
        later = later_within (units (Word word Stop) + (1 + length es)) (units (Word word Stop) + (1 + most m)) s s₂ (omega arith) (later_then (units (Word word Stop)) (1 + length es) s s₁ s₂ a.later made);
        has = record {
          is_there = let len : length (s₁.table.dicts ++ es ∷ []) ≡ length s₁.table.dicts + 1 = length-append s₁.table.dicts (es ∷ []) in omega arith;
          are = subst (λ (l' : List (Key × Pair)). AreFields s₂ l' l.fields) (sym there) (fields_are_later (1 + length es) s₁ s₂ made es l.fields l.makes.are);
          short = short_made s₁ ds m zs l.fields (ready_later (units (Word word Stop)) s s₁ a.later ds is.there m ready) l.are;
        };
        are = made_later (1 + length es) s₁ s₂ made m zs l.fields l.are;
        opened = (length s₁.table.dicts, refl, is₁.closed);
        stands = stands_later (1 + length es) s₁ s₂ made t a.to (render k ++ post) a.stands;
        takes = takes_then 1 (making_steps m) c₀ c₁ c₂ (takes_one c₀ c₁ entering) l.makes.takes;
      }

-- ---- arrays

module _ (s : StoreState) (ds : List DictId) (is : IsMaking s ds) (t : StringId) (under : List Item) where
  -- `]`: an array takes the place of what is above the mark
  pub record Closes (zs o : List PsObj) (at : ℕ) (text : List ℕ) (cost : ℕ) : Type 0 where
    pub store : StoreState
    pub array : ArrayId
    pub to : ℕ
    pub later : Later cost s store
    pub is_array : IsArray store array (reverse zs)
    pub stands : StandsAt store t to text
    pub steps : step (core s ds (zs ++ Mark ∷ o) (TextItem t at ∷ under)) ≡ Next (core store ds (Array array false ∷ o) (TextItem t to ∷ under))

  pub closes : (vs : Values) (k : Code) (post : List ℕ) (zs o : List PsObj) (at : ℕ) → Show s zs vs → length zs ≤ 1000000
      → s.table.units + s.command.units + (units (Word (codes "]") Stop) + (1 + length zs)) ≤ 8000000 → StandsAt s t at (render (Word (codes "]") k) ++ post)
      → Closes zs o at (render k ++ post) (units (Word (codes "]") Stop) + (1 + length zs))
  closes vs k post zs o at shows few room h =
      let u : ℕ = units (Word (codes "]") Stop) in
      let all : List PsObj = zs ++ Mark ∷ o in
      let a : Acted s ds all t at under (Op 10) u (render k ++ post) =
      word_acts s ds all t at under (codes "]") k post (Op 10) close_fine (is.operators (codes "]") 10 close_number) is.there h (omega arith) in
      let s₁ : StoreState = a.store in
      let counted : s₁.table.units + s₁.command.units ≤ s.table.units + s.command.units + u = a.later.counted in
      let len : length (reverse zs) ≡ length zs = length-reverse zs in
      let m : MadeArray s₁ (reverse zs) = array_made s₁ (reverse zs) (omega arith) (omega arith) in
      let c : PsCore = core s₁ ds all (TextItem t a.to ∷ under) in
      let taken : take (length zs) all ≡ zs = take_at zs (Mark ∷ o) (length zs) refl in
      let left : drop (length zs + 1) all ≡ o =
      ap (drop (length zs + 1)) (sym (append_assoc zs (Mark ∷ []) o)) ∙ drop_at (zs ++ Mark ∷ []) o (length zs + 1) (length-append zs (Mark ∷ [])) in
      let grown : Later (1 + length (reverse zs)) s₁ m.store = later_grown (1 + length (reverse zs)) s₁ m.store m.grown in
      record {
        store = m.store;
        array = m.id;
        to = a.to;
        later = later_within (u + (1 + length (reverse zs))) (u + (1 + length zs)) s m.store (omega arith) (later_then u (1 + length (reverse zs)) s s₁ m.store a.later grown);
        is_array = m.is;
        stands = stands_later (1 + length (reverse zs)) s₁ m.store grown t a.to (render k ++ post) a.stands;
        steps = a.steps
            ∙ ap (λ (found : Option ℕ). settled (alone (at_state c (closed c found)))) (mark_shown s vs zs (Mark ∷ o) 0 shows)
            ∙ ap (λ (n : ℕ). settled (alone (at_state c (closed c (Some n))))) (let zero_more : 0 + length zs ≡ length zs = omega arith in zero_more)
            ∙ ap (λ (l : List PsObj). settled (alone (at_state c (stored (making_array s₁ (reverse l)) >>= λ given. Ok (core given.1 ds (Array given.0 false ∷ drop (length zs + 1) all) (TextItem t a.to ∷ under)))))) taken
            ∙ ap (λ (g : Given ArrayId). settled (alone (at_state c (stored g >>= λ given. Ok (core given.1 ds (Array given.0 false ∷ drop (length zs + 1) all) (TextItem t a.to ∷ under)))))) m.made
            ∙ ap (λ (l : List PsObj). Next (core m.store ds (Array m.id false ∷ l) (TextItem t a.to ∷ under))) left;
      }
    where
      closed : PsCore → Option ℕ → Made
      closed c found = elim found [
        | Some n ↦ stored (making_array c.store (reverse (take n c.operands))) >>= λ given. Ok (record c { store = given.1; operands = Array given.0 false ∷ drop (n + 1) c.operands })
        | None ↦ Err UnmatchedMark
      ]

-- ---- operators

module _ (ds : List DictId) (t : StringId) (under : List Item) (post : List ℕ) where
  -- `[` and `<<`: a mark is pushed
  pub opens : (s : StoreState) (word : List ℕ) (n : ℕ) → Fine (Word word Stop) → operator_number word ≡ Some n → ((c : PsCore) → acting (Op n) c ≡ alone (at_state c (pushing Mark c))) → (k : Code) (xs : List PsObj) (at : ℕ)
      → IsMaking s ds → StandsAt s t at (render (Word word k) ++ post) → s.table.units + s.command.units + units (Word word Stop) ≤ 8000000 → length xs + 110 ≤ 100000
      → Pushed s ds xs t at under Mark (units (Word word Stop)) (render k ++ post)
  opens s word n fine number marks k xs at is h room stack =
      let a : Acted s ds xs t at under (Op n) (units (Word word Stop)) (render k ++ post) = word_acts s ds xs t at under word k post (Op n) fine (is.operators word n number) is.there h room in
      let c : PsCore = core a.store ds xs (TextItem t a.to ∷ under) in
      record { store = a.store; to = a.to; later = a.later; stands = a.stands; steps = a.steps ∙ ap settled (marks c) ∙ push_next Mark c (omega arith) }

  -- `get`: the object of an array
  pub record Gets (s : StoreState) (k : Code) (x : PsObj) (xs : List PsObj) (a : ArrayId) (place at : ℕ) : Type 0 where
    pub store : StoreState
    pub to : ℕ
    pub later : Later (units (Word (codes "get") Stop)) s store
    pub stands : StandsAt store t to (render k ++ post)
    pub steps : step (core s ds (Int (pos place) ∷ Array a false ∷ xs) (TextItem t at ∷ under)) ≡ Next (core store ds (x ∷ xs) (TextItem t to ∷ under))

  pub gets : (s : StoreState) (k : Code) (x : PsObj) (xs ys : List PsObj) (a : ArrayId) (place at : ℕ) → IsMaking s ds → IsArray s a ys → slice_get ys place ≡ Some x
      → StandsAt s t at (render (Word (codes "get") k) ++ post) → s.table.units + s.command.units + units (Word (codes "get") Stop) ≤ 8000000 → Gets s k x xs a place at
  gets s k x xs ys a place at is array found h room =
      let u : ℕ = units (Word (codes "get") Stop) in
      let all : List PsObj = Int (pos place) ∷ Array a false ∷ xs in
      let w : Acted s ds all t at under (Op 32) u (render k ++ post) =
      word_acts s ds all t at under (codes "get") k post (Op 32) get_fine (is.operators (codes "get") 32 get_number) is.there h room in
      let items : elements_of w.store a ≡ ys = (w.later.arrays a ys array).items in
      let c : PsCore = core w.store ds all (TextItem t w.to ∷ under) in
      record {
        store = w.store;
        to = w.to;
        later = w.later;
        stands = w.stands;
        steps = w.steps
            ∙ ap (λ (r : Result ℕ PsError). settled (alone (at_state c ((r >>= λ n. within (slice_get (elements_of w.store a) n)) >>= λ y. Ok (core w.store ds (y ∷ xs) (TextItem t w.to ∷ under)))))) (count_is place)
            ∙ ap (λ (l : List PsObj). settled (alone (at_state c (within (slice_get l place) >>= λ y. Ok (core w.store ds (y ∷ xs) (TextItem t w.to ∷ under)))))) items
            ∙ ap (λ (found : Option PsObj). settled (alone (at_state c (within found >>= λ y. Ok (core w.store ds (y ∷ xs) (TextItem t w.to ∷ under)))))) found;
      }

  -- `load`: what the dictionaries have under an integer
  pub record Loads (s : StoreState) (k : Code) (x : PsObj) (xs : List PsObj) (key : ℤ) (at : ℕ) : Type 0 where
    pub store : StoreState
    pub to : ℕ
    pub later : Later (units (Word (codes "load") Stop)) s store
    pub stands : StandsAt store t to (render k ++ post)
    pub steps : step (core s ds (Int key ∷ xs) (TextItem t at ∷ under)) ≡ Next (core store ds (x ∷ xs) (TextItem t to ∷ under))

  pub loads : (s : StoreState) (k : Code) (x : PsObj) (xs : List PsObj) (key : ℤ) (at : ℕ) → IsMaking s ds → found_in s ds (IntKey key) ≡ Some x
      → StandsAt s t at (render (Word (codes "load") k) ++ post) → s.table.units + s.command.units + units (Word (codes "load") Stop) ≤ 8000000 → Loads s k x xs key at
  loads s k x xs key at is found h room =
      let u : ℕ = units (Word (codes "load") Stop) in
      let w : Acted s ds (Int key ∷ xs) t at under (Op 29) u (render k ++ post) =
      word_acts s ds (Int key ∷ xs) t at under (codes "load") k post (Op 29) load_fine (is.operators (codes "load") 29 load_number) is.there h room in
      let c : PsCore = core w.store ds (Int key ∷ xs) (TextItem t w.to ∷ under) in
      record {
        store = w.store;
        to = w.to;
        later = w.later;
        stands = w.stands;
        steps = w.steps
            ∙ ap (λ (found : Option PsObj). settled (alone (at_state c (under_key found >>= λ y. Ok (core w.store ds (y ∷ xs) (TextItem t w.to ∷ under))))))
            (found_later u s w.store w.later ds (IntKey key) is.there ∙ found);
      }

  -- `cvx`: a string becomes executable
  pub record Turns (s : StoreState) (k : Code) (xs : List PsObj) (text : StringId) (at : ℕ) : Type 0 where
    pub store : StoreState
    pub to : ℕ
    pub later : Later (units (Word (codes "cvx") Stop)) s store
    pub stands : StandsAt store t to (render k ++ post)
    pub steps : step (core s ds (Str text false ∷ xs) (TextItem t at ∷ under)) ≡ Next (core store ds (Str text true ∷ xs) (TextItem t to ∷ under))

  pub turns : (s : StoreState) (k : Code) (xs : List PsObj) (text : StringId) (at : ℕ) → IsMaking s ds → StandsAt s t at (render (Word (codes "cvx") k) ++ post)
      → s.table.units + s.command.units + units (Word (codes "cvx") Stop) ≤ 8000000 → Turns s k xs text at
  turns s k xs text at is h room =
      let u : ℕ = units (Word (codes "cvx") Stop) in
      let w : Acted s ds (Str text false ∷ xs) t at under (Op 37) u (render k ++ post) =
      word_acts s ds (Str text false ∷ xs) t at under (codes "cvx") k post (Op 37) cvx_fine (is.operators (codes "cvx") 37 cvx_number) is.there h room in
      record { store = w.store; to = w.to; later = w.later; stands = w.stands; steps = w.steps }
