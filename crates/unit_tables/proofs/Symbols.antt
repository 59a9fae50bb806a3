-- A symbol is made, and stands under its number.
use Rattle.std.proofs.Common.{◌≡◌, ◌⊎◌, ℕ, ℤ, pos, negsuc, zero, suc, ◌+◌, ◌-◌, ◌<◌, ◌≤◌, ◌^◌, Bool, true, false, Option, Some, None, Result, Ok, List, [], ◌∷◌, ◌++◌, length, codes, slice_get, nat_lt, refl, sym, ap, ◌∙◌, subst, arith, ltb-true, ltb-false, le-ltb}
use Rattle.ldb_words.specs.Word.{signed}
use Rattle.ps_scan.specs.Bytes.{is_regular, is_white, is_special}
use Rattle.obj_file.specs.declared.object.FunctionRow.{FunctionRow as Placed}
use Rattle.obj_file.specs.declared.object.LocalPlace.{LocalPlace}
use Rattle.obj_file.specs.declared.object.LocalPlace.TheVariants.{Slot, Reg}
use Rattle.c_tree.specs.declared.types.StructDef.{StructDef}
use Rattle.c_tree.specs.declared.rows.SymbolRow.{SymbolRow}
use Rattle.c_tree.specs.declared.rows.Referent.{Referent}
use Rattle.c_tree.specs.declared.rows.Referent.TheVariants as refers
use Rattle.ps_store.specs.declared.object.PsObj.{PsObj}
use Rattle.ps_store.specs.declared.object.PsObj.TheVariants.{Int, Name, Str, Array, Dict, Op, Null}
use Rattle.ps_store.specs.declared.object.ArrayId.{ArrayId}
use Rattle.ps_store.specs.declared.object.DictId.{DictId}
use Rattle.ps_store.specs.declared.object.StringId.{StringId}
use Rattle.ps_store.specs.declared.key.Key.TheVariants.{Int as IntKey}
use Rattle.ps_store.specs.Operators.{operator_number}
use Rattle.ps_store.specs.StoreState.{StoreState}
use Rattle.ps_store.specs.Store.{entries_of, text_units}
use Rattle.ps_step.specs.declared.fault.PsError.{PsError}
use Rattle.ps_step.specs.declared.item.Item.{Item}
use Rattle.ps_step.specs.declared.item.Item.TheVariants.{Text as TextItem}
use Rattle.ps_step.specs.declared.machine.PsCore.{PsCore}
use Rattle.ps_step.specs.Results.{◌>>=◌, at as at_state}
use Rattle.ps_step.specs.Keys.{or_else, found_in}
use Rattle.ps_step.specs.Executing.{alone}
use Rattle.ps_run.specs.Step.{Next, settled, step}
use Rattle.ps_text.specs.Code.{Code, Stop, Num, Word, Text, Proc, render}
use Rattle.ps_text.specs.Grown.{IsString}
use Rattle.ps_text.specs.Spells.{Fine, units}
use Rattle.ps_text.proofs.Checks.{fine}
use Rattle.ps_terms.specs.Machine.{Does}
use Rattle.ps_terms.specs.Stands.{core, Means}
use Rattle.ps_terms.specs.Printing.{further}
use Rattle.ps_emit.specs.Terms.{◌⋯◌}
use Rattle.ps_emit.specs.Types.{type_code}
use Rattle.ps_emit.specs.Places.{Homes, declared_register, words_at, home_words}
use Rattle.ps_emit.specs.Symbols.{linked, entry_in, object_symbol, local_symbol, function_symbol as function_symbol_code, symbol_by, symbol_code}
use Rattle.ps_emit.specs.Bounds.{of_named, of_symbol}
use Rattle.ps_emit.specs.Lengths.{IsInteger}
use Rattle.ps_tables.specs.Taken.{Takes}
use Rattle.ps_tables.specs.Dictionaries.{Fields, updated, filled, joined}
use Rattle.ps_tables.specs.Making.{IsMaking, HasFields}
use Rattle.ps_tables.specs.Later.{IsThere, Later, StandsAt}
use Rattle.ps_tables.specs.Makers.{Maker, body, making_steps, taken_by, most, calls, Ready, MadeBy}
use Rattle.ps_tables.specs.TableWords.{new_symbol, function_symbol}
use Rattle.ps_tables.specs.Types.{written, type_steps, type_cost, IsType}
use Rattle.ps_tables.specs.Pieces.{Piece, End, Element, code, cost, steps, Knows, HasRoom, IsValue, nothing, Values, Bottom, This, Written, Quoted, OfType, after, Show, Performs}
use Rattle.ps_tables.specs.Defined.{in_table}
use Rattle.ps_tables.specs.Runnable.{RunsType}
use Rattle.ps_tables.specs.Senses.{object_fields, IsObject, BeginWith, Variables, Called, variable_fields, HasSense}
use Rattle.ps_tables.specs.WordsKnown.{word_senses, symbol_body, function_symbol_body, object_symbol_body}
use Rattle.ps_tables.proofs.Going.{takes_then, takes_one}
use Rattle.ps_tables.proofs.Stores.{later_then, later_within, making_later, means_later, ready_later, fields_later}
use Rattle.ps_tables.proofs.Types.{fields_value, type_later}
use Rattle.ps_tables.proofs.TypeTexts.{null_fine, null_number, small_signed, small_integer}
use Rattle.ps_tables.proofs.Tokens.{Acted, word_acts, Pushed, number_pushes}
use Rattle.ps_tables.proofs.Pieces.{performs}
use Rattle.ps_tables.proofs.TablePieces.{assoc}
use Rattle.ps_tables.proofs.MembersRun.{further_is, word_fine}
use Rattle.ps_tables.proofs.Bounded.{type_takes, type_makes}
use Rattle.ps_tables.proofs.WordsKnown.{sense_is}
use Rattle.ps_tables.proofs.TypesKnown.{type_is}
use Rattle.unit_tables.proofs.Types.{type_known}
use Rattle.unit_tables.specs.Amended.{PutsUnder}
use Rattle.unit_tables.specs.Shown.{IsOwn, Chained, outermost, symbol}
use Rattle.unit_tables.specs.Running.{HasObjects, IsDefined, Running}
use Rattle.unit_tables.specs.Symbols.{linked_then, named_parts, object_parts, address_words, link_steps, link_made, steps_by, units_by, symbol_steps, symbol_made, RunsReferent, RunsPlace, ArePlaces, RunsSymbol, DefinesSymbol}
use Rattle.unit_tables.proofs.Numbered.{put_store, puts_number, put_numbered}
use Rattle.unit_tables.proofs.Amended.{amended_then, amended_within, later_amended, puts_amended}
use Rattle.unit_tables.proofs.Staying.{chain_value, chain_amended, running_later, running_puts}
use Rattle.unit_tables.proofs.Exactly.{MakesDict, makes_exactly, makes_copy}

def_fine : Fine (Word (codes "def") Stop)
unfolding is_white is_special is_regular
def_fine = fine (Word (codes "def") Stop) refl

def_number : operator_number (codes "def") ≡ Some 28
unfolding operator_number
def_number = refl

new_symbol_fine : Fine (Word (codes "NewSymbol") Stop)
unfolding is_white is_special is_regular
new_symbol_fine = fine (Word (codes "NewSymbol") Stop) refl

function_symbol_fine : Fine (Word (codes "FunctionSymbol") Stop)
unfolding is_white is_special is_regular
function_symbol_fine = fine (Word (codes "FunctionSymbol") Stop) refl

object_symbol_fine : Fine (Word (codes "ObjectSymbol") Stop)
unfolding is_white is_special is_regular
object_symbol_fine = fine (Word (codes "ObjectSymbol") Stop) refl

objects_fine : Fine (Word (codes "objects") Stop)
unfolding is_white is_special is_regular
objects_fine = fine (Word (codes "objects") Stop) refl

local_fine : Fine (Word (codes "Local") Stop)
unfolding is_white is_special is_regular
local_fine = fine (Word (codes "Local") Stop) refl

told_fine : Fine (Num (pos 0) (Word (codes "Register") (Word (codes "pop") (Word (codes "pop") Stop))))
unfolding is_white is_special is_regular
told_fine = fine (Num (pos 0) (Word (codes "Register") (Word (codes "pop") (Word (codes "pop") Stop)))) refl

register_fine : Fine (Word (codes "Register") Stop)
unfolding is_white is_special is_regular
register_fine = fine (Word (codes "Register") Stop) refl

absolute_fine : Fine (Word (codes "Absolute") Stop)
unfolding is_white is_special is_regular
absolute_fine = fine (Word (codes "Absolute") Stop) refl

-- ---- numbers and places

-- a number as a word with its sign is an integer of the dialect
pub any_fine : (n : ℕ) → Fine (Num (signed n) Stop)
any_fine n = by (nat_lt n (2 ^ 32)) refl
  where
    by : (b : Bool) → nat_lt n (2 ^ 32) ≡ b → Fine (Num (signed n) Stop)
    by true e = word_fine n (ltb-true n (2 ^ 32) e)
    by false e =
        let l = ltb-false n (2 ^ 32) e in
        let high : nat_lt n (2 ^ 31) ≡ false = le-ltb n (2 ^ 31) (omega arith) in
        let is : signed n ≡ negsuc (2 ^ 32 - suc n) = rw high refl in
        let none : 2 ^ 32 - suc n ≡ 0 = omega arith in
        let last : signed 4294967295 ≡ negsuc 0 = refl in
        subst (λ (z : ℤ). Fine (Num z Stop)) (sym (is ∙ (ap negsuc none ∙ sym last))) (word_fine 4294967295 (omega arith))

pub integer_fine : (z : ℤ) → IsInteger z → Fine (Num z Stop)
integer_fine z h = subst (λ (x : ℤ). Fine (Num x Stop)) (sym h.2) (word_fine h.0 h.1)

-- a procedure that may be read, and counts so many units at most
record Placing (place : Code) (most : ℕ) : Type 0 where
  pub reads : Fine (Proc place Stop)
  pub few : units (Proc place Stop) ≤ most

home_placing : (p : Option LocalPlace) (register : Bool) → RunsPlace p → Placing (words_at p register) 15
home_placing None register h = record { reads = (tt, omega arith, tt); few = omega arith }
home_placing (Some (Slot offset)) true h = record { reads = (((integer_fine offset h).0, (local_fine.0, local_fine.1, told_fine)), omega arith, tt); few = omega arith }
home_placing (Some (Slot offset)) false h = record { reads = (((integer_fine offset h).0, (local_fine.0, local_fine.1, tt)), omega arith, tt); few = omega arith }
home_placing (Some (Reg r)) register h = record { reads = ((small_integer r h, (register_fine.0, register_fine.1, tt)), omega arith, tt); few = omega arith }

address_placing : (address : ℕ) → Placing (address_words address) 5
address_placing address = record { reads = (((any_fine address).0, (absolute_fine.0, absolute_fine.1, tt)), omega arith, tt); few = omega arith }

-- ---- texts

module _ (defs : List StructDef) (x : PsObj) where
  link_end : (up : Option ℕ) (word : List ℕ) (k : Code) → code (linked_then up x End) (Word word k) ≡ ((linked up ⋯ Word word Stop) ⋯ k)
  link_end None word k = refl
  link_end (Some s) word k = refl

  named_is : (row : SymbolRow) (place : Code) (word : List ℕ) (k : Code)
      → code (named_parts defs row place x) (Word word k) ≡ ((Text row.name Stop ⋯ type_code row.ctype ⋯ Proc place Stop ⋯ linked row.up ⋯ Word word Stop) ⋯ k)
  named_is row place word k =
      ap (λ c. Text row.name c)
      (type_is defs row.ctype (Proc place (code (linked_then row.up x End) (Word word k)))
      ∙ ap (λ c. type_code row.ctype ⋯ Proc place c) (link_end row.up word k)
      ∙ sym (assoc (type_code row.ctype) (Proc place (linked row.up ⋯ Word word Stop)) k))

  object_is : (row : SymbolRow) (o : ℕ) (y : PsObj) (k : Code) → o < 2 ^ 31 → code (object_parts row x o y) (Word (codes "ObjectSymbol") k) ≡ (object_symbol row o ⋯ k)
  object_is row o y k small = by row.up
    where
      by : (up : Option ℕ) → code (linked_then up x (Element (codes "objects") o y End)) (Word (codes "ObjectSymbol") k)
          ≡ ((linked up ⋯ Word (codes "objects") (Num (signed o) (Word (codes "get") (Word (codes "ObjectSymbol") Stop)))) ⋯ k)
      by None = ap (λ z. Word (codes "null") (Word (codes "objects") (Num z (Word (codes "get") (Word (codes "ObjectSymbol") k))))) (sym (small_signed o small))
      by (Some s) = ap (λ z. Num (signed s) (Word (codes "load") (Word (codes "objects") (Num z (Word (codes "get") (Word (codes "ObjectSymbol") k)))))) (sym (small_signed o small))

  -- steps and units
  pub link_takes : (up : Option ℕ) (rest : Piece) → steps (linked_then up x rest) ≡ link_steps up + steps rest
  link_takes None rest = omega arith
  link_takes (Some s) rest = omega arith

  pub link_makes : (up : Option ℕ) (rest : Piece) → cost (linked_then up x rest) ≡ link_made up + cost rest
  link_makes None rest = refl
  link_makes (Some s) rest = refl

  pub link_room : (up : Option ℕ) (rest : Piece) (n : ℕ) → HasRoom (suc n) rest → HasRoom n (linked_then up x rest)
  link_room None rest n h = h
  link_room (Some s) rest n h = h

  named_takes : (row : SymbolRow) (place : Code) → steps (named_parts defs row place x) ≡ 2 + type_steps (written defs row.ctype) + link_steps row.up
  named_takes row place =
      let a = further_is (type_steps (written defs row.ctype)) (suc (steps (linked_then row.up x End))) in
      let b = link_takes row.up End in
      omega arith

  named_makes : (row : SymbolRow) (place : Code)
      → cost (named_parts defs row place x) ≡ text_units row.name + type_cost (written defs row.ctype) + units (Proc place Stop) + link_made row.up
  named_makes row place = let b = link_makes row.up End in omega arith

-- ---- fields

abbrev symbol_fields : (kind uplink place ctype name : PsObj) → Fields
symbol_fields kind uplink place ctype name =
    (codes "kind", kind) ∷ (codes "uplink", uplink) ∷ (codes "where", place) ∷ (codes "type", ctype) ∷ (codes "name", name) ∷ (codes "label", name) ∷ []

four : (us : List PsObj) (v a b c d : PsObj) → a ∷ b ∷ c ∷ d ∷ [] ≡ us ++ v ∷ [] → (us ≡ a ∷ b ∷ c ∷ []) × (v ≡ d)
four [] v a b c d e = absurd cc
four (w ∷ []) v a b c d e = absurd cc
four (w ∷ x ∷ []) v a b c d e = absurd cc
four (w ∷ x ∷ y ∷ []) v a b c d e =
    let p : w ≡ a = cc in
    let q : x ≡ b = cc in
    let r : y ≡ c = cc in
    (ap (λ z. z ∷ x ∷ y ∷ []) p ∙ ap (λ z. a ∷ z ∷ y ∷ []) q ∙ ap (λ z. a ∷ b ∷ z ∷ []) r, cc)
four (w ∷ x ∷ y ∷ z ∷ []) v a b c d e = absurd cc
four (w ∷ x ∷ y ∷ z ∷ u ∷ us) v a b c d e = absurd cc

-- what a maker makes of a name, a type, a place and a symbol outward
abbrev MakesSymbols : Maker → Type 0
MakesSymbols m =
    (s : StoreState) (uplink place ctype name : PsObj) (fields : Fields) → MadeBy s m (uplink ∷ place ∷ ctype ∷ name ∷ []) fields → (kind : PsObj) × (fields ≡ symbol_fields kind uplink place ctype name)

module _ (dict : DictId) (kind : PsObj) where
  new_made : MakesSymbols (new_symbol dict (variable_fields kind))
  new_made s uplink place ctype name fields h =
      let q = four h.0 h.1 uplink place ctype name h.2 in
      let keys : List (List ℕ) = codes "uplink" ∷ codes "where" ∷ codes "type" ∷ [] in (
        kind,
        h.3 ∙ ap (λ us. updated (updated (filled (joined [] (variable_fields kind)) keys us) (codes "name") h.1) (codes "label") h.1) q.0
            ∙ ap (λ v. updated (updated (filled (joined [] (variable_fields kind)) keys (uplink ∷ place ∷ ctype ∷ [])) (codes "name") v) (codes "label") v) q.1,
      )

  function_made : MakesSymbols (function_symbol dict (variable_fields kind))
  function_made s uplink place ctype name fields h =
      let q = new_made s uplink place ctype name h.0 h.3 in
      (Name h.1 false, h.4 ∙ ap (λ fs. updated fs (codes "kind") (Name h.1 false)) q.1)

-- ---- objects of an array

record Nth (s : StoreState) (xs : List PsObj) (o : ℕ) : Type 0 where
  pub object : PsObj
  pub at : slice_get xs o ≡ Some object
  pub is : IsObject s object

nth : (s : StoreState) (n : ℕ) (xs : List PsObj) (o : ℕ) → BeginWith s n xs → o < n → Nth s xs o
nth s zero xs o h l = absurd (omega arith)
nth s (suc n) [] o h l = absurd h
nth s (suc n) (x ∷ xs) zero h l = record { object = x; at = refl; is = h.0 }
nth s (suc n) (x ∷ xs) (suc o) h l = let r = nth s n xs o h.1 (omega arith) in record { object = r.object; at = r.at; is = r.is }

-- ---- runs

module _ (defs : List StructDef) (ss : List SymbolRow) (objects i : ℕ) (ds : List DictId) (few_defs : length defs ≤ 90000) (few_objects : objects ≤ 90000)
    (t : StringId) (under : List Item) (items_fit : length under + 100 ≤ 1000) (post : List ℕ) where
  abbrev D : DictId
  D = in_table i

  abbrev all : List DictId
  all = D ∷ ds

  abbrev Runs : StoreState → ℕ → (ℕ → Type 0) → Type 0
  Runs s k made = Running defs ss objects s i ds k made

  -- the symbol outward
  pub record Link (s : StoreState) (up : Option ℕ) : Type 0 where
    pub object : PsObj
    pub chain : Chained s defs ss object up
    pub knows : (rest : Piece) → Knows s all rest → Knows s all (linked_then up object rest)
    pub shown : (rest : Piece) (vs : Values) → after (linked_then up object rest) vs ≡ after rest (This object vs)

  pub link_of : (s : StoreState) (k : ℕ) (made : ℕ → Type 0) → Runs s k made → (up : Option ℕ) → ((u : ℕ) → up ≡ Some u → made u) → Link s up
  link_of s k made r None h = record {
    object = Null;
    chain = outermost;
    knows = λ rest known. (null_fine, Op 60, r.knowing.making.operators (codes "null") 60 null_number, nothing, known);
    shown = λ rest vs. refl;
  }
  link_of s k made r (Some u) h =
      let d : IsDefined s D defs ss u = r.defined u (h u refl) in
      record {
        object = d.object;
        chain = d.chain;
        knows = λ rest known. (word_fine u d.word, ap (λ (y : Option PsObj). or_else y (found_in s ds (IntKey (signed u)))) d.found, chain_value s defs ss d.object (Some u) d.chain, known);
        shown = λ rest vs. refl;
      }

  -- a symbol on top of the operands
  record Comes (n cost steps : ℕ) (s : StoreState) (o : List PsObj) (at : ℕ) (rest : List ℕ) : Type 0 where
    pub store : StoreState
    pub object : PsObj
    pub to : ℕ
    pub later : Later cost s store
    pub chain : Chained store defs ss object (Some n)
    pub stands : StandsAt store t to rest
    pub takes : Takes steps (core s all o (TextItem t at ∷ under)) (core store all (object ∷ o) (TextItem t to ∷ under))

  -- ---- symbols with a name of their own

  abbrev Owned : SymbolRow → Type 0
  Owned row = (s : StoreState) (name : StringId) (ctype : PsObj) → IsString s name row.name → IsType s ctype (written defs row.ctype) → IsOwn s defs row row.refers name ctype

  named_comes : (n : ℕ) (row : SymbolRow) (place : Code) (most_place : ℕ) (word : List ℕ) (m : Maker) (k : Code) (e : ℕ) (made : ℕ → Type 0) (s : StoreState) (o : List PsObj) (at : ℕ) → Runs s e made → slice_get ss n ≡ Some row → Owned row
      → (link : Link s row.up) → Placing place most_place → RunsType defs row.ctype → length row.name ≤ 16777216 → Fine (Word word Stop) → Means s all word (Does (body m)) → Ready s all m → taken_by m ≡ 4 → calls m ≤ 80 → most m ≤ 8 → MakesSymbols m
      → length o + 130 ≤ 100000 → s.table.units + s.command.units + (text_units row.name + type_cost (written defs row.ctype) + most_place + link_made row.up + units (Word word Stop) + 9) ≤ 8000000
      → StandsAt s t at (render (code (named_parts defs row place link.object) (Word word k)) ++ post)
      → Comes n (text_units row.name + type_cost (written defs row.ctype) + most_place + link_made row.up + units (Word word Stop) + 7) (3 + type_steps (written defs row.ctype) + link_steps row.up + making_steps m) s o at (render k ++ post)
  named_comes n row place most_place word m k e made s o at r row_is owned link placing runs short reads means ready four_taken nested few_pairs makes stack room here =
      let is : IsMaking s all = r.knowing.making in
      let x : PsObj = link.object in
      let parts : Piece = named_parts defs row place x in
      let size : cost parts ≡ text_units row.name + type_cost (written defs row.ctype) + units (Proc place Stop) + link_made row.up = named_makes defs x row place in
      let taken : steps parts ≡ 2 + type_steps (written defs row.ctype) + link_steps row.up = named_takes defs x row place in
      let few_place = placing.few in
      let p : Performs (cost parts) (steps parts) (after parts Bottom) s all o o t at (render (Word word k) ++ post) under =
      performs all t under items_fit post parts (Word word k) Bottom s [] o at is
      ((short, tt), (type_known s all defs r.knowing.have r.structs few_defs row.ctype runs, (placing.reads, link.knows End tt)))
      (link_room defs x row.up End (suc (suc (suc (length o)))) (omega arith)) (omega arith) refl here in
      let s₁ : StoreState = p.store in
      let counted : s₁.table.units + s₁.command.units ≤ s.table.units + s.command.units + cost parts = p.later.counted in
      let shows : Show s₁ p.operands (This x (Quoted place (OfType (written defs row.ctype) (Written row.name Bottom)))) =
      subst (λ (vs : Values). Show s₁ p.operands vs) (link.shown End (Quoted place (OfType (written defs row.ctype) (Written row.name Bottom)))) p.shows in
      let quoted = shows.3 in
      let typed = quoted.5 in
      let chars = typed.4 in
      let a : ArrayId = quoted.0 in
      let ctype : PsObj = typed.0 in
      let name : StringId = chars.0 in
      let zs : List PsObj = x ∷ Array a true ∷ ctype ∷ Str name false ∷ [] in
      let whole : p.operands ≡ zs =
      shows.1 ∙ ap (λ (l : List PsObj). x ∷ l) (quoted.2 ∙ ap (λ (l : List PsObj). Array a true ∷ l) (typed.2 ∙ ap (λ (l : List PsObj). ctype ∷ l) (chars.2 ∙ ap (λ (l : List PsObj). Str name false ∷ l) chars.4))) in
      let is₁ : IsMaking s₁ all = making_later (cost parts) s s₁ p.later all is in
      let w = makes_exactly s₁ all is₁ t under word m k post zs o p.to 6 reads (means_later (cost parts) s s₁ p.later all word (body m) is.there means) (ready_later (cost parts) s s₁ p.later all is.there m ready)
      (sym four_taken) nested (omega arith) (omega arith) items_fit p.stands
      (λ s' fields h. let q = makes s' x (Array a true) ctype (Str name false) fields h in subst (λ (fs : Fields). length fs ≤ 6) (sym q.1) (omega arith)) in
      let d : MakesDict s₁ all is₁ t under (suc (making_steps m)) w.0 (zs ++ o) o p.to (render k ++ post) (units (Word word Stop) + (1 + 6)) = w.1 in
      let s₂ : StoreState = d.store in
      let q = makes w.2.0 x (Array a true) ctype (Str name false) w.0 w.2.1 in
      let has : HasFields s₂ d.dict (symbol_fields q.0 x (Array a true) ctype (Str name false)) = subst (λ (fs : Fields). HasFields s₂ d.dict fs) q.1 d.has in
      let value : (key : List ℕ) → _ = λ key. fields_value s₂ (entries_of s₂ d.dict) (symbol_fields q.0 x (Array a true) ctype (Str name false)) key has.are in
      let later : Later (cost parts + (units (Word word Stop) + (1 + 6))) s s₂ = later_then (cost parts) (units (Word word Stop) + (1 + 6)) s s₁ s₂ p.later d.later in
      let c₀ : PsCore = core s all o (TextItem t at ∷ under) in
      let c₁ : PsCore = core s₁ all (zs ++ o) (TextItem t p.to ∷ under) in
      let c₂ : PsCore = core s₂ all (Dict d.dict ∷ o) (TextItem t d.to ∷ under) in
      let front : Takes (steps parts) c₀ c₁ = subst (λ (l : List PsObj). Takes (steps parts) c₀ (core s₁ all (l ++ o) (TextItem t p.to ∷ under))) whole p.takes in
      let number : further (steps parts) (suc (making_steps m)) ≡ 3 + type_steps (written defs row.ctype) + link_steps row.up + making_steps m = let f = further_is (steps parts) (suc (making_steps m)) in omega arith in
      let both : Takes (further (steps parts) (suc (making_steps m))) c₀ c₂ = takes_then (steps parts) (suc (making_steps m)) c₀ c₁ c₂ front d.takes in
      record {
        store = s₂;
        object = Dict d.dict;
        to = d.to;
        later = later_within _ _ s s₂ (omega arith) later;
        chain = symbol d.dict n row x row_is
            (record {
              there = has.is_there;
              kind = q.0;
              has_kind = value (codes "kind");
              has_uplink = value (codes "uplink");
              ctype = ctype;
              has_type = value (codes "type");
              place = a;
              has_place = value (codes "where");
              label = name;
              has_label = value (codes "label");
              name = name;
              has_name = value (codes "name");
              own = owned s₂ name ctype (d.later.strings name row.name chars.3) (type_later (units (Word word Stop) + (1 + 6)) s₁ s₂ d.later ctype (written defs row.ctype) typed.3);
            })
            (chain_amended _ i s s₂ (later_amended _ D s s₂ later) r.nameless defs ss x row.up link.chain);
        stands = d.stands;
        takes = subst (λ (j : ℕ). Takes j c₀ c₂) number both;
      }

  -- ---- symbols of static objects

  object_comes : (n : ℕ) (row : SymbolRow) (o : ℕ) (k : Code) (e : ℕ) (made : ℕ → Type 0) (s : StoreState) (os : List PsObj) (at : ℕ) → Runs s e made → slice_get ss n ≡ Some row → row.refers ≡ refers.Object o → o < objects
      → (link : Link s row.up) → length os + 130 ≤ 100000 → s.table.units + s.command.units + (14 + link_made row.up) ≤ 8000000 → StandsAt s t at (render ((object_symbol row o ⋯ k)) ++ post)
      → Comes n (13 + link_made row.up) (13 + link_steps row.up) s os at (render k ++ post)
  object_comes n row o k e made s os at r row_is refers_to within link stack room here =
      let is : IsMaking s all = r.knowing.making in
      let x : PsObj = link.object in
      let list : HasObjects s all objects = r.listed in
      let y : Nth s list.items o = nth s objects list.items o list.are within in
      let b : DictId = y.is.dict in
      let parts : Piece = object_parts row x o y.object in
      let word : List ℕ = codes "ObjectSymbol" in
      let size : cost parts ≡ link_made row.up + 4 = link_makes defs x row.up (Element (codes "objects") o y.object End) in
      let taken : steps parts ≡ link_steps row.up + 3 = link_takes defs x row.up (Element (codes "objects") o y.object End) in
      let p : Performs (cost parts) (steps parts) (after parts Bottom) s all os os t at (render (Word word k) ++ post) under =
      performs all t under items_fit post parts (Word word k) Bottom s [] os at is
      (link.knows (Element (codes "objects") o y.object End) (objects_fine, (small_integer o (omega arith), tt), list.array, list.items, list.means, list.holds, y.at, subst IsValue (sym y.is.is) tt, tt))
      (link_room defs x row.up (Element (codes "objects") o y.object End) (length os) (omega arith)) (omega arith) refl
      (subst (λ (c : Code). StandsAt s t at (render c ++ post)) (sym (object_is defs x row o y.object k (omega arith))) here) in
      let s₁ : StoreState = p.store in
      let counted : s₁.table.units + s₁.command.units ≤ s.table.units + s.command.units + cost parts = p.later.counted in
      let shows : Show s₁ p.operands (This y.object (This x Bottom)) = subst (λ (vs : Values). Show s₁ p.operands vs) (link.shown (Element (codes "objects") o y.object End) Bottom) p.shows in
      let zs : List PsObj = Dict b ∷ x ∷ [] in
      let whole : p.operands ≡ zs = shows.1 ∙ ap (λ (l : List PsObj). y.object ∷ l) (shows.3.1 ∙ ap (λ (l : List PsObj). x ∷ l) shows.3.3) ∙ ap (λ (z : PsObj). z ∷ x ∷ []) y.is.is in
      let is₁ : IsMaking s₁ all = making_later (cost parts) s s₁ p.later all is in
      let ws = word_senses in
      let w : HasSense s all word (Called object_symbol_body) = sense_is s all ws word (Called object_symbol_body) r.knowing.have refl in
      let means : Means s all word (Does object_symbol_body) = (w.2.0, w.1 ∙ ap Some w.2.1, w.2.2, w.2.3) in
      let gs : Fields = object_fields y.is.kind Null y.is.ctype (Array y.is.place true) (Str y.is.label false) (Str y.is.name false) in
      let fields : Fields = object_fields y.is.kind x y.is.ctype (Array y.is.place true) (Str y.is.label false) (Str y.is.name false) in
      let d : MakesDict s₁ all is₁ t under 10 fields (Dict b ∷ (x ∷ [] ++ os)) os p.to (render k ++ post) (units (Word word Stop) + (1 + 6)) =
      makes_copy s₁ all is₁ t under word 6 (codes "uplink" ∷ []) gs b k post (x ∷ []) os p.to 6 object_symbol_fine (means_later (cost parts) s s₁ p.later all word object_symbol_body is.there means)
      (fields_later (cost parts) s s₁ p.later b gs y.is.has) (omega arith, tt) refl (omega arith) (omega arith) (omega arith) items_fit p.stands (omega arith)
      (omega arith, (omega arith, (omega arith, (omega arith, (omega arith, (omega arith, tt)))))) in
      let s₂ : StoreState = d.store in
      let value : (key : List ℕ) → _ = λ key. fields_value s₂ (entries_of s₂ d.dict) fields key d.has.are in
      let later : Later (cost parts + (units (Word word Stop) + (1 + 6))) s s₂ = later_then (cost parts) (units (Word word Stop) + (1 + 6)) s s₁ s₂ p.later d.later in
      let c₀ : PsCore = core s all os (TextItem t at ∷ under) in
      let c₁ : PsCore = core s₁ all (zs ++ os) (TextItem t p.to ∷ under) in
      let c₂ : PsCore = core s₂ all (Dict d.dict ∷ os) (TextItem t d.to ∷ under) in
      let front : Takes (steps parts) c₀ c₁ = subst (λ (l : List PsObj). Takes (steps parts) c₀ (core s₁ all (l ++ os) (TextItem t p.to ∷ under))) whole p.takes in
      let number : further (steps parts) 10 ≡ 13 + link_steps row.up = let f = further_is (steps parts) 10 in omega arith in
      let both : Takes (further (steps parts) 10) c₀ c₂ = takes_then (steps parts) 10 c₀ c₁ c₂ front d.takes in
      record {
        store = s₂;
        object = Dict d.dict;
        to = d.to;
        later = later_within _ _ s s₂ (omega arith) later;
        chain = symbol d.dict n row x row_is
            (record {
              there = d.has.is_there;
              kind = y.is.kind;
              has_kind = value (codes "kind");
              has_uplink = value (codes "uplink");
              ctype = y.is.ctype;
              has_type = value (codes "type");
              place = y.is.place;
              has_place = value (codes "where");
              label = y.is.label;
              has_label = value (codes "label");
              name = y.is.name;
              has_name = value (codes "name");
              own = subst (λ (f : Referent). IsOwn s₂ defs row f y.is.name y.is.ctype) (sym refers_to) tt;
            })
            (chain_amended _ i s s₂ (later_amended _ D s s₂ later) r.nameless defs ss x row.up link.chain);
        stands = d.stands;
        takes = subst (λ (j : ℕ). Takes j c₀ c₂) number both;
      }

  -- ---- each kind of symbols

  -- a symbol by what its name denotes, but for its number and its definition
  record Valued (h : Homes) (n : ℕ) (row : SymbolRow) (r : Referent) (s : StoreState) (o : List PsObj) (at : ℕ) (rest : List ℕ) : Type 0 where
    pub cost : ℕ
    pub steps : ℕ
    pub comes : Comes n cost steps s o at rest
    pub counts : cost + 3 ≡ units_by defs h row r
    pub takes : steps + 2 ≡ steps_by defs row r

  own_name : (row : SymbolRow) (r : Referent) → row.refers ≡ r → ((s : StoreState) (name : StringId) (ctype : PsObj) → IsString s name row.name → IsType s ctype (written defs row.ctype) → IsOwn s defs row r name ctype) → Owned row
  own_name row r same each = λ s name ctype a b. subst (λ (f : Referent). IsOwn s defs row f name ctype) (sym same) (each s name ctype a b)

  function_comes : (h : Homes) (n : ℕ) (row : SymbolRow) (r : Referent) (address : ℕ) (k : Code) (e : ℕ) (made : ℕ → Type 0) (s : StoreState) (o : List PsObj) (at : ℕ) → Runs s e made → slice_get ss n ≡ Some row → Owned row → Link s row.up
      → RunsType defs row.ctype → length row.name ≤ 16777216 → length o + 130 ≤ 100000 → s.table.units + s.command.units + (text_units row.name + type_cost (written defs row.ctype) + link_made row.up + 17) ≤ 8000000
      → StandsAt s t at (render (function_symbol_code row address ⋯ k) ++ post)
      → Comes n (text_units row.name + type_cost (written defs row.ctype) + link_made row.up + 14) (41 + type_steps (written defs row.ctype) + link_steps row.up) s o at (render k ++ post)
  function_comes h n row r address k e made s o at run row_is owned link runs short stack room here =
      let ws = word_senses in
      let f : HasSense s all (codes "Variable") Variables = sense_is s all ws (codes "Variable") Variables run.knowing.have refl in
      let w : HasSense s all (codes "FunctionSymbol") (Called function_symbol_body) = sense_is s all ws (codes "FunctionSymbol") (Called function_symbol_body) run.knowing.have refl in
      let v : HasSense s all (codes "NewSymbol") (Called symbol_body) = sense_is s all ws (codes "NewSymbol") (Called symbol_body) run.knowing.have refl in
      let dict : DictId = f.2.0 in
      let kind : PsObj = f.2.1 in
      let means : Means s all (codes "FunctionSymbol") (Does function_symbol_body) = (w.2.0, w.1 ∙ ap Some w.2.1, w.2.2, w.2.3) in
      let inner : Means s all (codes "NewSymbol") (Does symbol_body) = (v.2.0, v.1 ∙ ap Some v.2.1, v.2.2, v.2.3) in
      let ready : Ready s all (new_symbol dict (variable_fields kind)) = (f.1 ∙ ap Some f.2.2, f.2.3, (omega arith, (omega arith, (omega arith, (omega arith, (omega arith, tt))))), omega arith) in
      let c : Comes n (text_units row.name + type_cost (written defs row.ctype) + 5 + link_made row.up + 2 + 7) (3 + type_steps (written defs row.ctype) + link_steps row.up + 38) s o at (render k ++ post) =
      named_comes n row (address_words address) 5 (codes "FunctionSymbol") (function_symbol dict (variable_fields kind)) k e made s o at run row_is owned link (address_placing address) runs short function_symbol_fine means
      (inner, ready, omega arith, omega arith) refl (omega arith) (omega arith) (function_made dict kind) stack (omega arith)
      (subst (λ (x : Code). StandsAt s t at (render x ++ post)) (sym (named_is defs link.object row (address_words address) (codes "FunctionSymbol") k)) here) in
      let number : 3 + type_steps (written defs row.ctype) + link_steps row.up + 38 ≡ 41 + type_steps (written defs row.ctype) + link_steps row.up = omega arith in
      record {
        store = c.store;
        object = c.object;
        to = c.to;
        later = later_within _ _ s c.store (omega arith) c.later;
        chain = c.chain;
        stands = c.stands;
        takes = subst (λ (j : ℕ). Takes j (core s all o (TextItem t at ∷ under)) (core c.store all (c.object ∷ o) (TextItem t c.to ∷ under))) number c.takes;
      }

  local_comes : (h : Homes) (n : ℕ) (row : SymbolRow) (x : ℕ) (k : Code) (e : ℕ) (made : ℕ → Type 0) (s : StoreState) (o : List PsObj) (at : ℕ) → Runs s e made → slice_get ss n ≡ Some row → Owned row → Link s row.up
      → RunsPlace (slice_get h.places x) → RunsType defs row.ctype → length row.name ≤ 16777216 → length o + 130 ≤ 100000
      → s.table.units + s.command.units + (text_units row.name + type_cost (written defs row.ctype) + units (Proc (home_words h x) Stop) + link_made row.up + 12) ≤ 8000000
      → StandsAt s t at (render (local_symbol h row x ⋯ k) ++ post)
      → Comes n (text_units row.name + type_cost (written defs row.ctype) + units (Proc (home_words h x) Stop) + link_made row.up + 9) (36 + type_steps (written defs row.ctype) + link_steps row.up) s o at (render k ++ post)
  local_comes h n row x k e made s o at run row_is owned link place runs short stack room here =
      let ws = word_senses in
      let f : HasSense s all (codes "Variable") Variables = sense_is s all ws (codes "Variable") Variables run.knowing.have refl in
      let v : HasSense s all (codes "NewSymbol") (Called symbol_body) = sense_is s all ws (codes "NewSymbol") (Called symbol_body) run.knowing.have refl in
      let dict : DictId = f.2.0 in
      let kind : PsObj = f.2.1 in
      let means : Means s all (codes "NewSymbol") (Does symbol_body) = (v.2.0, v.1 ∙ ap Some v.2.1, v.2.2, v.2.3) in
      let ready : Ready s all (new_symbol dict (variable_fields kind)) = (f.1 ∙ ap Some f.2.2, f.2.3, (omega arith, (omega arith, (omega arith, (omega arith, (omega arith, tt))))), omega arith) in
      let placing : Placing (home_words h x) 15 = home_placing (slice_get h.places x) (declared_register (slice_get h.locals x)) place in
      let most : ℕ = units (Proc (home_words h x) Stop) in
      let c : Comes n (text_units row.name + type_cost (written defs row.ctype) + most + link_made row.up + 2 + 7) (3 + type_steps (written defs row.ctype) + link_steps row.up + 33) s o at (render k ++ post) =
      named_comes n row (home_words h x) most (codes "NewSymbol") (new_symbol dict (variable_fields kind)) k e made s o at run row_is owned link (record { reads = placing.reads; few = omega arith }) runs short new_symbol_fine means
      ready refl (omega arith) (omega arith) (new_made dict kind) stack (omega arith)
      (subst (λ (c : Code). StandsAt s t at (render c ++ post)) (sym (named_is defs link.object row (home_words h x) (codes "NewSymbol") k)) here) in
      let number : 3 + type_steps (written defs row.ctype) + link_steps row.up + 33 ≡ 36 + type_steps (written defs row.ctype) + link_steps row.up = omega arith in
      record {
        store = c.store;
        object = c.object;
        to = c.to;
        later = later_within _ _ s c.store (omega arith) c.later;
        chain = c.chain;
        stands = c.stands;
        takes = subst (λ (j : ℕ). Takes j (core s all o (TextItem t at ∷ under)) (core c.store all (c.object ∷ o) (TextItem t c.to ∷ under))) number c.takes;
      }

  valued : (fs : List Placed) (h : Homes) (n : ℕ) (row : SymbolRow) (r : Referent) → row.refers ≡ r → (k : Code) (e : ℕ) (made : ℕ → Type 0) (s : StoreState) (o : List PsObj) (at : ℕ) → Runs s e made → slice_get ss n ≡ Some row → Link s row.up
      → RunsReferent defs objects row r → ArePlaces h → length row.name ≤ 16777216 → length o + 130 ≤ 100000 → s.table.units + s.command.units + units_by defs h row r ≤ 8000000
      → StandsAt s t at (render (symbol_by fs h row r ⋯ k) ++ post) → Valued h n row r s o at (render k ++ post)
  valued fs h n row (refers.Object x) same k e made s o at run row_is link referent found short stack room here = record {
    cost = 13 + link_made row.up;
    steps = 13 + link_steps row.up;
    comes = object_comes n row x k e made s o at run row_is same referent link stack (omega arith) here;
    counts = omega arith;
    takes = omega arith;
  }
  valued fs h n row (refers.Local x) same k e made s o at run row_is link referent found short stack room here = record {
    cost = text_units row.name + type_cost (written defs row.ctype) + units (Proc (home_words h x) Stop) + link_made row.up + 9;
    steps = 36 + type_steps (written defs row.ctype) + link_steps row.up;
    comes = local_comes h n row x k e made s o at run row_is (own_name row (refers.Local x) same (λ s name ctype a b. (a, b))) link (found x) referent short stack room here;
    counts = omega arith;
    takes = omega arith;
  }
  valued fs h n row (refers.Function f) same k e made s o at run row_is link referent found short stack room here = record {
    cost = text_units row.name + type_cost (written defs row.ctype) + link_made row.up + 14;
    steps = 41 + type_steps (written defs row.ctype) + link_steps row.up;
    comes = function_comes h n row (refers.Function f) (entry_in (slice_get fs f)) k e made s o at run row_is (own_name row (refers.Function f) same (λ s name ctype a b. (a, b))) link referent short stack room here;
    counts = omega arith;
    takes = omega arith;
  }
  valued fs h n row refers.Declared same k e made s o at run row_is link referent found short stack room here = record {
    cost = text_units row.name + type_cost (written defs row.ctype) + link_made row.up + 14;
    steps = 41 + type_steps (written defs row.ctype) + link_steps row.up;
    comes = function_comes h n row refers.Declared 0 k e made s o at run row_is (own_name row refers.Declared same (λ s name ctype a b. (a, b))) link referent short stack room here;
    counts = omega arith;
    takes = omega arith;
  }

  -- ---- the definition

  pub symbol_defined : (fs : List Placed) (h : Homes) (n : ℕ) (row : SymbolRow) (k : Code) (e : ℕ) (made made' : ℕ → Type 0) (s : StoreState) (o : List PsObj) (at : ℕ) → Runs s e made → e < 999999 → slice_get ss n ≡ Some row
      → n < 2 ^ 32 → RunsSymbol defs objects row → ArePlaces h → ((u : ℕ) → row.up ≡ Some u → made u) → ((m : ℕ) → made' m → (m ≡ n) ⊎ made m) → length o + 131 ≤ 100000
      → s.table.units + s.command.units + symbol_made defs h row ≤ 8000000 → StandsAt s t at (render (symbol_code fs h n row ⋯ k) ++ post)
      → DefinesSymbol defs ss objects (symbol_made defs h row) (symbol_steps defs row) s i ds (e + 1) made' o t at (render k ++ post) under
  symbol_defined fs h n row k e made made' s o at run few_entries row_is number runs places up each stack room here =
      let value : Code = symbol_by fs h row row.refers in
      let last : Code = Word (codes "def") k in
      let u : ℕ = units (Word (codes "def") Stop) in
      let p : Pushed s all o t at under (Int (signed n)) 0 (render (value ⋯ last) ++ post) =
      number_pushes s all o t at under (signed n) (value ⋯ last) post (word_fine n number)
      (subst (λ (c : Code). StandsAt s t at (render c ++ post)) (ap (λ c. Num (signed n) c) (assoc value (Word (codes "def") Stop) k)) here) (omega arith) (omega arith) in
      let s₁ : StoreState = p.store in
      let counted₁ : s₁.table.units + s₁.command.units ≤ s.table.units + s.command.units + 0 = p.later.counted in
      let run₁ : Runs s₁ e made = running_later defs ss objects i ds 0 e made s s₁ p.later run in
      let v : Valued h n row row.refers s₁ (Int (signed n) ∷ o) p.to (render last ++ post) =
      valued fs h n row row.refers refl last e made s₁ (Int (signed n) ∷ o) p.to run₁ row_is (link_of s₁ e made run₁ row.up up) runs.referent places runs.name (omega arith) (omega arith) p.stands in
      let counts = v.counts in
      let c = v.comes in
      let s₂ : StoreState = c.store in
      let counted₂ : s₂.table.units + s₂.command.units ≤ s₁.table.units + s₁.command.units + v.cost = c.later.counted in
      let run₂ : Runs s₂ e made = running_later defs ss objects i ds v.cost e made s₁ s₂ c.later run₁ in
      let is₂ : IsMaking s₂ all = run₂.knowing.making in
      let w : Acted s₂ all (c.object ∷ Int (signed n) ∷ o) t c.to under (Op 28) u (render k ++ post) =
      word_acts s₂ all (c.object ∷ Int (signed n) ∷ o) t c.to under (codes "def") k post (Op 28) def_fine (is₂.operators (codes "def") 28 def_number) is₂.there c.stands (omega arith) in
      let s₃ : StoreState = w.store in
      let counted₃ : s₃.table.units + s₃.command.units ≤ s₂.table.units + s₂.command.units + u = w.later.counted in
      let run₃ : Runs s₃ e made = running_later defs ss objects i ds u e made s₂ s₃ w.later run₂ in
      let small₃ : length (entries_of s₃ D) ≤ e = run₃.knowing.small in
      let there : IsThere s₃ D = run₃.knowing.making.there.0 in
      let s₄ : StoreState = put_store s₃ i run₃.knowing.unclosed there (signed n) c.object in
      let put : PutsUnder s₃ s₄ D (IntKey (signed n)) c.object = puts_number s₃ i run₃.knowing.unclosed there (signed n) c.object in
      let chain : Chained s₃ defs ss c.object (Some n) = chain_amended u i s₂ s₃ (later_amended u D s₂ s₃ w.later) run₂.nameless defs ss c.object (Some n) c.chain in
      let before : Later (0 + v.cost + u) s s₃ = later_then (0 + v.cost) u s s₂ s₃ (later_then 0 v.cost s s₁ s₂ p.later c.later) w.later in
      let c₀ : PsCore = core s all o (TextItem t at ∷ under) in
      let c₁ : PsCore = core s₁ all (Int (signed n) ∷ o) (TextItem t p.to ∷ under) in
      let c₂ : PsCore = core s₂ all (c.object ∷ Int (signed n) ∷ o) (TextItem t c.to ∷ under) in
      let c₃ : PsCore = core s₃ all (c.object ∷ Int (signed n) ∷ o) (TextItem t w.to ∷ under) in
      let c₄ : PsCore = core s₄ all o (TextItem t w.to ∷ under) in
      let last_step : step c₂ ≡ Next c₄ =
      w.steps ∙ ap (λ (r : Result StoreState PsError). settled (alone (at_state c₃ (r >>= λ x. Ok (core x all o (TextItem t w.to ∷ under)))))) (put_numbered s₃ i run₃.knowing.unclosed there (signed n) c.object (omega arith) (omega arith)) in
      let number_all : further 1 (further v.steps 1) ≡ symbol_steps defs row = let f = further_is v.steps 1 in let g = v.takes in omega arith in
      let steps_all : Takes (further 1 (further v.steps 1)) c₀ c₄ =
      takes_then 1 (further v.steps 1) c₀ c₁ c₄ (takes_one c₀ c₁ p.steps) (takes_then v.steps 1 c₁ c₂ c₄ c.takes (takes_one c₂ c₄ last_step)) in
      record {
        store = s₄;
        to = w.to;
        running = running_puts defs ss objects i ds e made made' n c.object s₃ s₄ number put chain each run₃;
        amended = amended_within (0 + v.cost + u + 1) (symbol_made defs h row) D s s₄ (omega arith)
            (amended_then (0 + v.cost + u) 1 D s s₃ s₄ (later_amended (0 + v.cost + u) D s s₃ before) (puts_amended D s₃ s₄ (signed n) c.object put));
        stands = record { text = w.stands.text; lead = w.stands.lead; is_lead = w.stands.is_lead; is = put.strings t w.stands.text w.stands.is; here = w.stands.here; within = w.stands.within };
        takes = subst (λ (j : ℕ). Takes j c₀ c₄) number_all steps_all;
      }

-- ---- what is counted

-- no more than is counted for a symbol, where its name has at most 63 bytes
pub symbol_takes : (defs : List StructDef) (row : SymbolRow) → symbol_steps defs row ≤ (of_symbol row).steps
symbol_takes defs row = by row.refers
  where
    link : link_steps row.up ≤ 2
    link = on row.up
      where
        on : (up : Option ℕ) → link_steps up ≤ 2
        on None = omega arith
        on (Some s) = omega arith

    by : (r : Referent) → steps_by defs row r ≤ (of_named r row.ctype).steps
    by (refers.Object o) = let l = link in omega arith
    by (refers.Local x) = let l = link in let f = type_takes defs row.ctype in omega arith
    by (refers.Function f) = let l = link in let f = type_takes defs row.ctype in omega arith
    by refers.Declared = let l = link in let f = type_takes defs row.ctype in omega arith

pub symbol_makes : (defs : List StructDef) (h : Homes) (row : SymbolRow) → length row.name ≤ 63 → ArePlaces h → symbol_made defs h row ≤ (of_symbol row).made
symbol_makes defs h row short places = by row.refers
  where
    link : link_made row.up ≤ 2
    link = on row.up
      where
        on : (up : Option ℕ) → link_made up ≤ 2
        on None = omega arith
        on (Some s) = omega arith

    five : text_units row.name ≤ 5
    five = omega arith

    by : (r : Referent) → units_by defs h row r ≤ (of_named r row.ctype).made
    by (refers.Object o) = let l = link in omega arith
    by (refers.Local x) =
        let l = link in
        let n = five in
        let f = type_makes defs row.ctype in
        let p = (home_placing (slice_get h.places x) (declared_register (slice_get h.locals x)) (places x)).few in
        omega arith
    by (refers.Function f) = let l = link in let n = five in let f = type_makes defs row.ctype in omega arith
    by refers.Declared = let l = link in let n = five in let f = type_makes defs row.ctype in omega arith
