-- What is known of operands.
use Rattle.std.proofs.Common.{◌≡◌, ℕ, suc, ◌+◌, ◌*◌, ◌≤◌, false, Option, Some, List, [], ◌∷◌, ◌++◌, length, refl, sym, ap, ◌∙◌, subst, arith}
use Rattle.ps_store.specs.declared.object.PsObj.{PsObj}
use Rattle.ps_store.specs.declared.object.PsObj.TheVariants.{Int, Bool as Truth, Name, Str, Array, Dict, Op, Mark, Null}
use Rattle.ps_store.specs.declared.object.DictId.{DictId}
use Rattle.ps_store.specs.declared.key.Key.TheVariants.{Int as IntKey}
use Rattle.ps_store.specs.StoreState.{StoreState}
use Rattle.ps_store.specs.Store.{elements_of}
use Rattle.ps_step.specs.Marks.{mark_from}
use Rattle.ps_tables.specs.Later.{Later}
use Rattle.ps_tables.specs.Making.{AreThere}
use Rattle.ps_tables.specs.Makers.{body}
use Rattle.ps_tables.specs.Pieces.{Piece, End, Number, Literal, Chars, Quote, Value, Element, Make, Row, Loaded, Deferred, Field, Pairs, Typed, New, Given, Called, Counted, Meant, Loads, Entries, KnowsGiven, KnowsEntries, IsNoMark, entry_values, left_by, FieldsAlone, fields_in, IsValue, Knows, HasRoom, Values, Bottom, This, Named, Written, Quoted, Listed, Entry, Runs, Under, Paired, OfType, That, after, OnlyPairs, pairs, Show}
use Rattle.ps_tables.specs.Types.{Type', Basic, Nothing, To, Many, Numbered, IsSized, IsType}
use Rattle.ps_tables.proofs.Types.{type_later, knows_type_later}
use Rattle.ps_tables.proofs.Stores.{open_later, found_later, named_later, fields_later, has_array_later, body_later, means_later, ready_later, made_later}

-- ---- how many there are

abbrev count : Values → ℕ
count Bottom = 0
count (This x below) = suc (count below)
count (Named name below) = suc (count below)
count (Written text below) = suc (count below)
count (Quoted body below) = suc (count below)
count (Listed items below) = suc (count below)
count (Entry m parts below) = suc (count below)
count (Runs text below) = suc (count below)
count (Under name value below) = suc (suc (count below))
count (Paired items below) = suc (count below)
count (OfType t below) = suc (count below)
count (That x below) = suc (count below)

count_after : (p : Piece) (vs : Values) → count (after p vs) ≡ left_by p + count vs
count_after End vs = omega arith
count_after (Number n rest) vs = let e = count_after rest (This (Int n) vs) in omega arith
count_after (Literal name rest) vs = let e = count_after rest (Named name vs) in omega arith
count_after (Chars text rest) vs = let e = count_after rest (Written text vs) in omega arith
count_after (Quote body rest) vs = let e = count_after rest (Quoted body vs) in omega arith
count_after (Value word x rest) vs = let e = count_after rest (This x vs) in omega arith
count_after (Element word place x rest) vs = let e = count_after rest (This x vs) in omega arith
count_after (Make word m parts rest) vs = let e = count_after rest (Entry m (after parts Bottom) vs) in omega arith
count_after (Row items rest) vs = let e = count_after rest (Listed (after items Bottom) vs) in omega arith
count_after (Loaded key x rest) vs = let e = count_after rest (This x vs) in omega arith
count_after (Deferred text rest) vs = let e = count_after rest (Runs text vs) in omega arith
count_after (Field name value rest) vs = let e = count_after rest (Under name (after value Bottom) vs) in omega arith
count_after (Pairs fields rest) vs = let e = count_after rest (Paired (after fields Bottom) vs) in omega arith
count_after (Typed t rest) vs = let e = count_after rest (OfType t vs) in omega arith
count_after (New room entries rest) vs = let e = count_after rest (Paired (entry_values entries Bottom) vs) in omega arith

count_shown : (s : StoreState) (vs : Values) (xs : List PsObj) → Show s xs vs → length xs ≡ count vs
count_shown s Bottom xs h = ap length h
count_shown s (This x below) xs h = ap length h.1 ∙ ap suc (count_shown s below h.0 h.3)
count_shown s (Named name below) xs h = ap length h.2 ∙ ap suc (count_shown s below h.1 h.4)
count_shown s (Written text below) xs h = ap length h.2 ∙ ap suc (count_shown s below h.1 h.4)
count_shown s (Quoted body below) xs h = ap length h.2 ∙ ap suc (count_shown s below h.1 h.5)
count_shown s (Listed items below) xs h = ap length h.3 ∙ ap suc (count_shown s below h.2 h.6)
count_shown s (Entry m parts below) xs h = ap length h.4 ∙ ap suc (count_shown s below h.2 h.9)
count_shown s (Runs text below) xs h = ap length h.2 ∙ ap suc (count_shown s below h.1 h.4)
count_shown s (Under name value below) xs h = ap length h.3 ∙ ap (λ n. suc (suc n)) (count_shown s below h.2 h.7)
count_shown s (Paired items below) xs h = ap length h.3 ∙ ap suc (count_shown s below h.2 h.6)
count_shown s (OfType t below) xs h = ap length h.2 ∙ ap suc (count_shown s below h.1 h.4)
count_shown s (That x below) xs h = ap length h.1 ∙ ap suc (count_shown s below h.0 h.3)

-- a piece leaves so many
pub left_length : (s : StoreState) (p : Piece) (xs : List PsObj) → Show s xs (after p Bottom) → length xs ≡ left_by p
left_length s p xs h =
    let e : length xs ≡ count (after p Bottom) = count_shown s (after p Bottom) xs h in
    let f : count (after p Bottom) ≡ left_by p + 0 = count_after p Bottom in
    omega arith

-- ---- none is a mark

value_no_mark : (x : PsObj) → IsValue x → IsNoMark x
value_no_mark (Int i) h = tt
value_no_mark (Truth b) h = tt
value_no_mark (Name t x) h = tt
value_no_mark (Str t x) h = tt
value_no_mark (Array a x) h = tt
value_no_mark (Dict d) h = tt
value_no_mark (Op o) h = tt
value_no_mark Mark h = absurd h
value_no_mark Null h = tt

mark_behind : (x : PsObj) (xs zs : List PsObj) (n : ℕ) → IsNoMark x → mark_from (n + 1) (xs ++ zs) ≡ mark_from (n + 1 + length xs) zs → mark_from n (x ∷ (xs ++ zs)) ≡ mark_from (n + suc (length xs)) zs
mark_behind (Int i) xs zs n h e = e ∙ ap (λ k. mark_from k zs) (omega arith)
mark_behind (Truth b) xs zs n h e = e ∙ ap (λ k. mark_from k zs) (omega arith)
mark_behind (Name t x) xs zs n h e = e ∙ ap (λ k. mark_from k zs) (omega arith)
mark_behind (Str t x) xs zs n h e = e ∙ ap (λ k. mark_from k zs) (omega arith)
mark_behind (Array a x) xs zs n h e = e ∙ ap (λ k. mark_from k zs) (omega arith)
mark_behind (Dict d) xs zs n h e = e ∙ ap (λ k. mark_from k zs) (omega arith)
mark_behind (Op o) xs zs n h e = e ∙ ap (λ k. mark_from k zs) (omega arith)
mark_behind Mark xs zs n h e = absurd h
mark_behind Null xs zs n h e = e ∙ ap (λ k. mark_from k zs) (omega arith)

pub sized_value : (s : StoreState) (x : PsObj) (n : ℕ) → IsSized s x n → IsValue x
sized_value s x n h = subst IsValue (sym h.is) tt

-- the object of a type is pushed where it is executed
pub type_value : (s : StoreState) (x : PsObj) (t : Type') → IsType s x t → IsValue x
type_value s x Nothing h = subst IsValue (sym h) tt
type_value s x (Basic word size) h = sized_value s x size h
type_value s x (To t) h = sized_value s x 4 h
type_value s x (Many t n) h = sized_value s x _ h
type_value s x (Numbered n size) h = sized_value s x size h

-- the topmost mark is below what is known
abbrev MarkAt : List PsObj → List PsObj → ℕ → Type 0
MarkAt zs xs n = mark_from n (xs ++ zs) ≡ mark_from (n + length xs) zs

pub mark_shown : (s : StoreState) (vs : Values) (xs zs : List PsObj) (n : ℕ) → Show s xs vs → MarkAt zs xs n
mark_shown s Bottom xs zs n h = subst (λ (l : List PsObj). MarkAt zs l n) (sym h) (ap (λ k. mark_from k zs) (omega arith))
mark_shown s (That x below) xs zs n h = subst (λ (l : List PsObj). MarkAt zs l n) (sym h.1) (mark_behind x h.0 zs n h.2 (mark_shown s below h.0 zs (n + 1) h.3))
mark_shown s (This x below) xs zs n h = subst (λ (l : List PsObj). MarkAt zs l n) (sym h.1) (mark_behind x h.0 zs n (value_no_mark x h.2) (mark_shown s below h.0 zs (n + 1) h.3))
mark_shown s (Named name below) xs zs n h =
    subst (λ (l : List PsObj). MarkAt zs l n) (sym h.2) (mark_shown s below h.1 zs (n + 1) h.4 ∙ ap (λ k. mark_from k zs) (omega arith))
mark_shown s (Written text below) xs zs n h =
    subst (λ (l : List PsObj). MarkAt zs l n) (sym h.2) (mark_shown s below h.1 zs (n + 1) h.4 ∙ ap (λ k. mark_from k zs) (omega arith))
mark_shown s (Quoted body below) xs zs n h =
    subst (λ (l : List PsObj). MarkAt zs l n) (sym h.2) (mark_shown s below h.1 zs (n + 1) h.5 ∙ ap (λ k. mark_from k zs) (omega arith))
mark_shown s (Listed items below) xs zs n h =
    subst (λ (l : List PsObj). MarkAt zs l n) (sym h.3) (mark_shown s below h.2 zs (n + 1) h.6 ∙ ap (λ k. mark_from k zs) (omega arith))
mark_shown s (Entry m parts below) xs zs n h =
    subst (λ (l : List PsObj). MarkAt zs l n) (sym h.4) (mark_shown s below h.2 zs (n + 1) h.9 ∙ ap (λ k. mark_from k zs) (omega arith))
mark_shown s (Runs text below) xs zs n h =
    subst (λ (l : List PsObj). MarkAt zs l n) (sym h.2) (mark_shown s below h.1 zs (n + 1) h.4 ∙ ap (λ k. mark_from k zs) (omega arith))
mark_shown s (Under name value below) xs zs n h =
    subst (λ (l : List PsObj). MarkAt zs l n) (sym h.3)
    (mark_shown s value (h.0 ∷ []) (Name h.1 false ∷ (h.2 ++ zs)) n h.6 ∙ mark_shown s below h.2 zs (n + 1 + 1) h.7 ∙ ap (λ k. mark_from k zs) (omega arith))
mark_shown s (Paired items below) xs zs n h =
    subst (λ (l : List PsObj). MarkAt zs l n) (sym h.3) (mark_shown s below h.2 zs (n + 1) h.6 ∙ ap (λ k. mark_from k zs) (omega arith))
mark_shown s (OfType t below) xs zs n h =
    subst (λ (l : List PsObj). MarkAt zs l n) (sym h.2) (mark_behind h.0 h.1 zs n (value_no_mark h.0 (type_value s h.0 t h.3)) (mark_shown s below h.1 zs (n + 1) h.4))

-- ---- in a later store

module _ (u : ℕ) (s s' : StoreState) (later : Later u s s') where
  pub show_later : (vs : Values) (xs : List PsObj) → Show s xs vs → Show s' xs vs
  show_later Bottom xs h = h
  show_later (This x below) xs h = (h.0, h.1, h.2, show_later below h.0 h.3)
  show_later (Named name below) xs h = (h.0, h.1, h.2, later.strings h.0 name h.3, show_later below h.1 h.4)
  show_later (Written text below) xs h = (h.0, h.1, h.2, later.strings h.0 text h.3, show_later below h.1 h.4)
  show_later (Quoted body below) xs h = (h.0, h.1, h.2, (has_array_later u s s' later h.0 h.3).has, body_later u s s' later body h.0 h.3 h.4, show_later below h.1 h.5)
  show_later (Listed items below) xs h = (h.0, h.1, h.2, h.3, later.arrays h.0 _ h.4, show_later items h.1 h.5, show_later below h.2 h.6)
  show_later (Entry m parts below) xs h =
      (h.0, h.1, h.2, h.3, h.4, fields_later u s s' later h.0 h.3 h.5, made_later u s s' later m h.1 h.3 h.6, open_later u s s' later h.0 h.7, show_later parts h.1 h.8, show_later below h.2 h.9)
  show_later (Runs text below) xs h = (h.0, h.1, h.2, later.strings h.0 text h.3, show_later below h.1 h.4)
  show_later (Under name value below) xs h = (h.0, h.1, h.2, h.3, later.strings h.1 name h.4, h.5, show_later value (h.0 ∷ []) h.6, show_later below h.2 h.7)
  show_later (OfType t below) xs h = (h.0, h.1, h.2, type_later u s s' later h.0 t h.3, show_later below h.1 h.4)
  show_later (That x below) xs h = (h.0, h.1, h.2, show_later below h.0 h.3)
  show_later (Paired items below) xs h = (h.0, h.1, h.2, h.3, fields_later u s s' later h.0 (pairs items h.1) h.4, show_later items h.1 h.5, show_later below h.2 h.6)

  pub given_later : (ds : List DictId) → AreThere s ds → (g : Given) → KnowsGiven s ds g → KnowsGiven s' ds g
  given_later ds there (Called name) h = h
  given_later ds there (Counted n) h = h
  given_later ds there (Meant word x) h = (h.0, h.1, named_later u s s' later ds word there ∙ h.2, h.3)
  given_later ds there (Loads name x) h = (h.0, named_later u s s' later ds name there ∙ h.1, h.2)

  pub entries_later : (ds : List DictId) → AreThere s ds → (es : Entries) → KnowsEntries s ds es → KnowsEntries s' ds es
  entries_later ds there [] h = h
  entries_later ds there (e ∷ es) h = (h.0, given_later ds there e.1 h.1, entries_later ds there es h.2)

  pub knows_later : (ds : List DictId) → AreThere s ds → (p : Piece) → Knows s ds p → Knows s' ds p
  knows_later ds there End h = h
  knows_later ds there (Number n rest) h = (h.0, knows_later ds there rest h.1)
  knows_later ds there (Literal name rest) h = (h.0, knows_later ds there rest h.1)
  knows_later ds there (Chars text rest) h = (h.0, knows_later ds there rest h.1)
  knows_later ds there (Quote body rest) h = (h.0, knows_later ds there rest h.1)
  knows_later ds there (Value word x rest) h = (h.0, h.1, named_later u s s' later ds word there ∙ h.2, h.3, knows_later ds there rest h.4)
  knows_later ds there (Element word place x rest) h = (h.0, h.1, h.2, h.3, named_later u s s' later ds word there ∙ h.4, later.arrays h.2 h.3 h.5, h.6, h.7, knows_later ds there rest h.8)
  knows_later ds there (Make word m parts rest) h =
      (h.0, means_later u s s' later ds word (body m) there h.1, ready_later u s s' later ds there m h.2, h.3, h.4, knows_later ds there parts h.5, knows_later ds there rest h.6)
  knows_later ds there (Row items rest) h = (h.0, knows_later ds there items h.1, knows_later ds there rest h.2)
  knows_later ds there (Loaded key x rest) h = (h.0, found_later u s s' later ds (IntKey key) there ∙ h.1, h.2, knows_later ds there rest h.3)
  knows_later ds there (Deferred text rest) h = (h.0, knows_later ds there rest h.1)
  knows_later ds there (Field name value rest) h = (h.0, h.1, knows_later ds there value h.2, knows_later ds there rest h.3)
  knows_later ds there (Pairs fields rest) h = (h.0, h.1, knows_later ds there fields h.2, knows_later ds there rest h.3)
  knows_later ds there (Typed t rest) h = (knows_type_later u s s' later ds there t h.0, knows_later ds there rest h.1)
  knows_later ds there (New room entries rest) h = (h.0, h.1, entries_later ds there entries h.2, knows_later ds there rest h.3)

-- ---- room

pub room_now : (p : Piece) (n : ℕ) → HasRoom n p → n + 110 ≤ 100000
room_now End n h = h
room_now (Number i rest) n h = let e = room_now rest (suc n) h in omega arith
room_now (Literal name rest) n h = let e = room_now rest (suc n) h in omega arith
room_now (Chars text rest) n h = let e = room_now rest (suc n) h in omega arith
room_now (Quote body rest) n h = let e = room_now rest (suc n) h in omega arith
room_now (Value word x rest) n h = let e = room_now rest (suc n) h in omega arith
room_now (Element word place x rest) n h = let e = room_now rest (suc n) h in omega arith
room_now (Make word m parts rest) n h = let e = room_now rest (suc n) h.1 in omega arith
room_now (Row items rest) n h = let e = room_now rest (suc n) h.1 in omega arith
room_now (Loaded key x rest) n h = let e = room_now rest (suc n) h in omega arith
room_now (Deferred text rest) n h = let e = room_now rest (suc n) h in omega arith
room_now (Field name value rest) n h = let e = room_now rest (suc (suc n)) h.1 in omega arith
room_now (Pairs fields rest) n h = let e = room_now rest (suc n) h.1 in omega arith
room_now (Typed t rest) n h = let e = room_now rest (suc n) h in omega arith
room_now (New room entries rest) n h = let e = h.0 in omega arith

-- what a piece leaves has room
pub room_behind : (p : Piece) (n : ℕ) → HasRoom n p → n + left_by p + 110 ≤ 100000
room_behind End n h = let e : n + 110 ≤ 100000 = h in omega arith
room_behind (Number i rest) n h = let e = room_behind rest (suc n) h in omega arith
room_behind (Literal name rest) n h = let e = room_behind rest (suc n) h in omega arith
room_behind (Chars text rest) n h = let e = room_behind rest (suc n) h in omega arith
room_behind (Quote body rest) n h = let e = room_behind rest (suc n) h in omega arith
room_behind (Value word x rest) n h = let e = room_behind rest (suc n) h in omega arith
room_behind (Element word place x rest) n h = let e = room_behind rest (suc n) h in omega arith
room_behind (Make word m parts rest) n h = let e = room_behind rest (suc n) h.1 in omega arith
room_behind (Row items rest) n h = let e = room_behind rest (suc n) h.1 in omega arith
room_behind (Loaded key x rest) n h = let e = room_behind rest (suc n) h in omega arith
room_behind (Deferred text rest) n h = let e = room_behind rest (suc n) h in omega arith
room_behind (Field name value rest) n h = let e = room_behind rest (suc (suc n)) h.1 in omega arith
room_behind (Pairs fields rest) n h = let e = room_behind rest (suc n) h.1 in omega arith
room_behind (Typed t rest) n h = let e = room_behind rest (suc n) h in omega arith
room_behind (New room entries rest) n h = let e = room_behind rest (suc n) h.1 in omega arith

-- ---- pairs

only_after : (p : Piece) (vs : Values) → FieldsAlone p → OnlyPairs vs → OnlyPairs (after p vs)
only_after End vs h k = k
only_after (Field name value rest) vs h k = only_after rest (Under name (after value Bottom) vs) h k
only_after (Number n rest) vs h k = absurd h
only_after (Literal name rest) vs h k = absurd h
only_after (Chars text rest) vs h k = absurd h
only_after (Quote body rest) vs h k = absurd h
only_after (Value word x rest) vs h k = absurd h
only_after (Element word place x rest) vs h k = absurd h
only_after (Make word m parts rest) vs h k = absurd h
only_after (Row items rest) vs h k = absurd h
only_after (Loaded key x rest) vs h k = absurd h
only_after (Deferred text rest) vs h k = absurd h
only_after (Pairs fields rest) vs h k = absurd h
only_after (Typed t rest) vs h k = absurd h
only_after (New room entries rest) vs h k = absurd h

pub only_pairs : (p : Piece) → FieldsAlone p → OnlyPairs (after p Bottom)
only_pairs p h = only_after p Bottom h tt

pub fields_left : (p : Piece) → FieldsAlone p → left_by p ≡ 2 * fields_in p
fields_left End h = refl
fields_left (Field name value rest) h = let e = fields_left rest h in omega arith
fields_left (Number n rest) h = absurd h
fields_left (Literal name rest) h = absurd h
fields_left (Chars text rest) h = absurd h
fields_left (Quote body rest) h = absurd h
fields_left (Value word x rest) h = absurd h
fields_left (Element word place x rest) h = absurd h
fields_left (Make word m parts rest) h = absurd h
fields_left (Row items rest) h = absurd h
fields_left (Loaded key x rest) h = absurd h
fields_left (Deferred text rest) h = absurd h
fields_left (Pairs fields rest) h = absurd h
fields_left (Typed t rest) h = absurd h
fields_left (New room entries rest) h = absurd h
