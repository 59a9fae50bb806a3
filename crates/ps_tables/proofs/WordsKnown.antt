-- What the words of a table stand for.
use Rattle.std.proofs.Common.{◌≡◌, ℕ, ℤ, pos, suc, ◌+◌, ◌<◌, ◌≤◌, Bool, true, false, ◌&&◌, not, bytes_eq, if◌then◌else◌, Option, Some, None, List, [], ◌∷◌, ◌++◌, length, codes, refl, sym, ap, ◌∙◌, subst, arith}
use Rattle.std.specs.Cmp.Lexicographic.{bytes_decides}
use Rattle.ps_scan.specs.Bytes.{is_regular, is_white, is_special}
use Rattle.ps_store.specs.declared.object.PsObj.{PsObj}
use Rattle.ps_store.specs.declared.object.PsObj.TheVariants.{Int, Array, Name, Dict, Op, Null}
use Rattle.ps_store.specs.declared.object.DictId.{DictId}
use Rattle.ps_store.specs.declared.object.StringId.{StringId}
use Rattle.ps_store.specs.Operators.{operator_number}
use Rattle.ps_store.specs.StoreState.{StoreState}
use Rattle.ps_step.specs.declared.item.Item.{Item}
use Rattle.ps_text.specs.Code.{Code, Stop, Num, Word, Lit, Proc, render}
use Rattle.ps_text.specs.Spells.{Fine}
use Rattle.ps_text.proofs.Checks.{fine}
use Rattle.ps_emit.specs.Terms.{◌⋯◌}
use Rattle.ps_emit.specs.Words.{words}
use Rattle.ps_tables.specs.Dictionaries.{Fields, updated}
use Rattle.ps_tables.specs.Making.{HasFields}
use Rattle.ps_tables.specs.Types.{of_arrays, array_body}
use Rattle.ps_tables.specs.Later.{StandsAt}
use Rattle.ps_tables.specs.Defined.{in_table}
use Rattle.ps_tables.specs.Pieces.{End, Quote, New, Entries, Given, Called as CalledName, Counted, Meant, Loads, nothing, IsNoMark, Values, Bottom, This, Named, That, Under, Paired, Show, entry_values, pairs, Knows}
use Rattle.ps_tables.specs.Senses.{Sense, Stands, Sized, Kind, Variables, Called, basic_fields, variable_fields, IsOf, HasSense, Senses, HaveSenses, Knowing}
use Rattle.ps_tables.specs.WordsKnown.{pointer_body, struct_body, string_body, object_body, object_symbol_body, symbol_body, function_symbol_body, point_body, function_body, unit_body, Printers, AreNoMarks, printer_senses, word_senses}
use Rattle.ps_tables.proofs.Tokens.{head_is}
use Rattle.ps_tables.proofs.TypeTexts.{null_fine, null_number}
use Rattle.ps_tables.proofs.Known.{AreFree}
use Rattle.ps_tables.specs.Reached.{Reaches}
use Rattle.ps_tables.proofs.Sequence.{Definition, defining, behind, IsSound, AreSound, defined_all}

-- ---- look-up

abbrev pub sense_in : Senses → List ℕ → Option Sense
sense_in [] name = None
sense_in (w ∷ ws) name = if bytes_eq w.0 name then Some w.1 else sense_in ws name

pub sense_is : (s : StoreState) (ds : List DictId) (ws : Senses) (name : List ℕ) (sense : Sense) → HaveSenses s ds ws → sense_in ws name ≡ Some sense → HasSense s ds name sense
sense_is s ds [] name sense h e = absurd cc
sense_is s ds (w ∷ ws) name sense h e = by (sense_is s ds ws name sense h.1) (bytes_eq w.0 name) refl e
  where
    by : (sense_in ws name ≡ Some sense → HasSense s ds name sense) → (b : Bool) → bytes_eq w.0 name ≡ b → (if b then Some w.1 else sense_in ws name) ≡ Some sense → HasSense s ds name sense
    by rest true f g = subst (λ (n : List ℕ). HasSense s ds n sense) ((bytes_decides w.0 name).0 f) (subst (λ (x : Sense). HasSense s ds w.0 x) (let it : w.1 ≡ sense = cc in it) h.0)
    by rest false f g = rest g

abbrev is_free : List ℕ → Senses → Bool
is_free name [] = true
is_free name (w ∷ ws) = not (bytes_eq w.0 name) && is_free name ws

pub free_by : (name : List ℕ) (ws : Senses) → is_free name ws ≡ true → AreFree name ws
free_by name [] h = tt
free_by name (w ∷ ws) h = by (free_by name ws) (bytes_eq w.0 name) refl h
  where
    by : (is_free name ws ≡ true → AreFree name ws) → (b : Bool) → bytes_eq w.0 name ≡ b → (not b && is_free name ws) ≡ true → AreFree name (w ∷ ws)
    by rest true f g = absurd cc
    by rest false f g = (f, rest g)

-- ---- dictionaries

abbrev basic_entries : List ℕ → ℕ → List ℕ → PsObj → Entries
basic_entries kind size printer x = (codes "kind", CalledName kind) ∷ (codes "size", Counted (pos size)) ∷ (codes "printer", Loads printer x) ∷ []

abbrev kind_entries : List ℕ → List ℕ → PsObj → Entries
kind_entries kind printer x = (codes "kind", CalledName kind) ∷ (codes "printer", Loads printer x) ∷ []

abbrev variable_entries : Entries
variable_entries = (codes "kind", CalledName (codes "variable")) ∷ (codes "uplink", Meant (codes "null") Null) ∷ []

module _ (s : StoreState) where
  -- what a pair is, and those before it
  pub record Last (below : Values) (name : List ℕ) (value : Values) (zs : List PsObj) : Type 0 where
    pub v : PsObj
    pub ys : List PsObj
    pub pairs_are : pairs (Under name value below) zs ≡ updated (pairs below ys) name v
    pub shows : Show s (v ∷ []) value
    pub rest : Show s ys below

  pub last : (below : Values) (name : List ℕ) (value : Values) (zs : List PsObj) → Show s zs (Under name value below) → Last below name value zs
  last below name value zs h = record { v = h.0; ys = h.2; pairs_are = ap (pairs (Under name value below)) h.3; shows = h.6; rest = h.7 }

  basic_is : (kind : List ℕ) (size : ℕ) (printer : List ℕ) (p x : PsObj) → Show s (x ∷ []) (Paired (entry_values (basic_entries kind size printer p) Bottom) Bottom) → IsOf s x (Sized size)
  basic_is kind size printer p x h =
      let none : Values = Under (codes "kind") (Named kind Bottom) Bottom in
      let two : Values = Under (codes "size") (This (Int (pos size)) Bottom) none in
      let a : Last two (codes "printer") (That p Bottom) h.1 = last two (codes "printer") (That p Bottom) h.1 h.5 in
      let b : Last none (codes "size") (This (Int (pos size)) Bottom) a.ys = last none (codes "size") (This (Int (pos size)) Bottom) a.ys a.rest in
      let c : Last Bottom (codes "kind") (Named kind Bottom) b.ys = last Bottom (codes "kind") (Named kind Bottom) b.ys b.rest in
      let int : b.v ≡ Int (pos size) = head_is b.v (Int (pos size)) b.shows.0 b.shows.1 in
      let same : pairs (entry_values (basic_entries kind size printer p) Bottom) h.1 ≡ basic_fields size c.v a.v =
      a.pairs_are ∙ ap (λ (fs : Fields). updated fs (codes "printer") a.v) (b.pairs_are ∙ ap (λ (fs : Fields). updated fs (codes "size") b.v) (c.pairs_are ∙ ap (λ (fs : Fields). updated fs (codes "kind") c.v) (ap (pairs Bottom) c.rest)))
      ∙ ap (λ (q : PsObj). (codes "kind", c.v) ∷ (codes "size", q) ∷ (codes "printer", a.v) ∷ []) int in
      (h.0, c.v, a.v, head_is x (Dict h.0) h.2 h.3, subst (λ (fs : Fields). HasFields s h.0 fs) same h.4)

  kind_is : (kind printer : List ℕ) (p x : PsObj) → Show s (x ∷ []) (Paired (entry_values (kind_entries kind printer p) Bottom) Bottom) → IsOf s x Kind
  kind_is kind printer p x h =
      let one : Values = Under (codes "kind") (Named kind Bottom) Bottom in
      let a : Last one (codes "printer") (That p Bottom) h.1 = last one (codes "printer") (That p Bottom) h.1 h.5 in
      let c : Last Bottom (codes "kind") (Named kind Bottom) a.ys = last Bottom (codes "kind") (Named kind Bottom) a.ys a.rest in
      let same : pairs (entry_values (kind_entries kind printer p) Bottom) h.1 ≡ of_arrays c.v a.v =
      a.pairs_are ∙ ap (λ (fs : Fields). updated fs (codes "printer") a.v) (c.pairs_are ∙ ap (λ (fs : Fields). updated fs (codes "kind") c.v) (ap (pairs Bottom) c.rest)) in
      (h.0, c.v, a.v, head_is x (Dict h.0) h.2 h.3, subst (λ (fs : Fields). HasFields s h.0 fs) same h.4)

  variable_is : (x : PsObj) → Show s (x ∷ []) (Paired (entry_values variable_entries Bottom) Bottom) → IsOf s x Variables
  variable_is x h =
      let one : Values = Under (codes "kind") (Named (codes "variable") Bottom) Bottom in
      let a : Last one (codes "uplink") (This Null Bottom) h.1 = last one (codes "uplink") (This Null Bottom) h.1 h.5 in
      let c : Last Bottom (codes "kind") (Named (codes "variable") Bottom) a.ys = last Bottom (codes "kind") (Named (codes "variable") Bottom) a.ys a.rest in
      let null : a.v ≡ Null = head_is a.v Null a.shows.0 a.shows.1 in
      let same : pairs (entry_values variable_entries Bottom) h.1 ≡ variable_fields c.v =
      a.pairs_are ∙ ap (λ (fs : Fields). updated fs (codes "uplink") a.v) (c.pairs_are ∙ ap (λ (fs : Fields). updated fs (codes "kind") c.v) (ap (pairs Bottom) c.rest))
      ∙ ap (λ (q : PsObj). (codes "kind", c.v) ∷ (codes "uplink", q) ∷ []) null in
      (h.0, c.v, head_is x (Dict h.0) h.2 h.3, subst (λ (fs : Fields). HasFields s h.0 fs) same h.4)

-- ---- what may be read

lit_ArrayOf : Fine (Lit (codes "ArrayOf") Stop)
unfolding is_white is_special is_regular
lit_ArrayOf = fine (Lit (codes "ArrayOf") Stop) refl

lit_ArrayType : Fine (Lit (codes "ArrayType") Stop)
unfolding is_white is_special is_regular
lit_ArrayType = fine (Lit (codes "ArrayType") Stop) refl

lit_FunctionSymbol : Fine (Lit (codes "FunctionSymbol") Stop)
unfolding is_white is_special is_regular
lit_FunctionSymbol = fine (Lit (codes "FunctionSymbol") Stop) refl

lit_NewFunction : Fine (Lit (codes "NewFunction") Stop)
unfolding is_white is_special is_regular
lit_NewFunction = fine (Lit (codes "NewFunction") Stop) refl

lit_NewObject : Fine (Lit (codes "NewObject") Stop)
unfolding is_white is_special is_regular
lit_NewObject = fine (Lit (codes "NewObject") Stop) refl

lit_NewPoint : Fine (Lit (codes "NewPoint") Stop)
unfolding is_white is_special is_regular
lit_NewPoint = fine (Lit (codes "NewPoint") Stop) refl

lit_NewString : Fine (Lit (codes "NewString") Stop)
unfolding is_white is_special is_regular
lit_NewString = fine (Lit (codes "NewString") Stop) refl

lit_NewStruct : Fine (Lit (codes "NewStruct") Stop)
unfolding is_white is_special is_regular
lit_NewStruct = fine (Lit (codes "NewStruct") Stop) refl

lit_NewSymbol : Fine (Lit (codes "NewSymbol") Stop)
unfolding is_white is_special is_regular
lit_NewSymbol = fine (Lit (codes "NewSymbol") Stop) refl

lit_NewUnit : Fine (Lit (codes "NewUnit") Stop)
unfolding is_white is_special is_regular
lit_NewUnit = fine (Lit (codes "NewUnit") Stop) refl

lit_ObjectSymbol : Fine (Lit (codes "ObjectSymbol") Stop)
unfolding is_white is_special is_regular
lit_ObjectSymbol = fine (Lit (codes "ObjectSymbol") Stop) refl

lit_PointerTo : Fine (Lit (codes "PointerTo") Stop)
unfolding is_white is_special is_regular
lit_PointerTo = fine (Lit (codes "PointerTo") Stop) refl

lit_PointerType : Fine (Lit (codes "PointerType") Stop)
unfolding is_white is_special is_regular
lit_PointerType = fine (Lit (codes "PointerType") Stop) refl

lit_PrintArray : Fine (Lit (codes "PrintArray") Stop)
unfolding is_white is_special is_regular
lit_PrintArray = fine (Lit (codes "PrintArray") Stop) refl

lit_PrintChar : Fine (Lit (codes "PrintChar") Stop)
unfolding is_white is_special is_regular
lit_PrintChar = fine (Lit (codes "PrintChar") Stop) refl

lit_PrintInt : Fine (Lit (codes "PrintInt") Stop)
unfolding is_white is_special is_regular
lit_PrintInt = fine (Lit (codes "PrintInt") Stop) refl

lit_PrintPointer : Fine (Lit (codes "PrintPointer") Stop)
unfolding is_white is_special is_regular
lit_PrintPointer = fine (Lit (codes "PrintPointer") Stop) refl

lit_PrintStruct : Fine (Lit (codes "PrintStruct") Stop)
unfolding is_white is_special is_regular
lit_PrintStruct = fine (Lit (codes "PrintStruct") Stop) refl

lit_PrintUnsigned : Fine (Lit (codes "PrintUnsigned") Stop)
unfolding is_white is_special is_regular
lit_PrintUnsigned = fine (Lit (codes "PrintUnsigned") Stop) refl

lit_StructType : Fine (Lit (codes "StructType") Stop)
unfolding is_white is_special is_regular
lit_StructType = fine (Lit (codes "StructType") Stop) refl

lit_Variable : Fine (Lit (codes "Variable") Stop)
unfolding is_white is_special is_regular
lit_Variable = fine (Lit (codes "Variable") Stop) refl

lit_array : Fine (Lit (codes "array") Stop)
unfolding is_white is_special is_regular
lit_array = fine (Lit (codes "array") Stop) refl

lit_char : Fine (Lit (codes "char") Stop)
unfolding is_white is_special is_regular
lit_char = fine (Lit (codes "char") Stop) refl

lit_int : Fine (Lit (codes "int") Stop)
unfolding is_white is_special is_regular
lit_int = fine (Lit (codes "int") Stop) refl

lit_kind : Fine (Lit (codes "kind") Stop)
unfolding is_white is_special is_regular
lit_kind = fine (Lit (codes "kind") Stop) refl

lit_pointer : Fine (Lit (codes "pointer") Stop)
unfolding is_white is_special is_regular
lit_pointer = fine (Lit (codes "pointer") Stop) refl

lit_printer : Fine (Lit (codes "printer") Stop)
unfolding is_white is_special is_regular
lit_printer = fine (Lit (codes "printer") Stop) refl

lit_size : Fine (Lit (codes "size") Stop)
unfolding is_white is_special is_regular
lit_size = fine (Lit (codes "size") Stop) refl

lit_struct : Fine (Lit (codes "struct") Stop)
unfolding is_white is_special is_regular
lit_struct = fine (Lit (codes "struct") Stop) refl

lit_unsigned : Fine (Lit (codes "unsigned") Stop)
unfolding is_white is_special is_regular
lit_unsigned = fine (Lit (codes "unsigned") Stop) refl

lit_uplink : Fine (Lit (codes "uplink") Stop)
unfolding is_white is_special is_regular
lit_uplink = fine (Lit (codes "uplink") Stop) refl

lit_variable : Fine (Lit (codes "variable") Stop)
unfolding is_white is_special is_regular
lit_variable = fine (Lit (codes "variable") Stop) refl

fine_pointer_body : Fine (Proc pointer_body Stop)
unfolding is_white is_special is_regular
fine_pointer_body = fine (Proc pointer_body Stop) refl

fine_array_body : Fine (Proc array_body Stop)
unfolding is_white is_special is_regular
fine_array_body = fine (Proc array_body Stop) refl

fine_struct_body : Fine (Proc struct_body Stop)
unfolding is_white is_special is_regular
fine_struct_body = fine (Proc struct_body Stop) refl

fine_string_body : Fine (Proc string_body Stop)
unfolding is_white is_special is_regular
fine_string_body = fine (Proc string_body Stop) refl

fine_object_body : Fine (Proc object_body Stop)
unfolding is_white is_special is_regular
fine_object_body = fine (Proc object_body Stop) refl

fine_object_symbol_body : Fine (Proc object_symbol_body Stop)
unfolding is_white is_special is_regular
fine_object_symbol_body = fine (Proc object_symbol_body Stop) refl

fine_symbol_body : Fine (Proc symbol_body Stop)
unfolding is_white is_special is_regular
fine_symbol_body = fine (Proc symbol_body Stop) refl

fine_function_symbol_body : Fine (Proc function_symbol_body Stop)
unfolding is_white is_special is_regular
fine_function_symbol_body = fine (Proc function_symbol_body Stop) refl

fine_point_body : Fine (Proc point_body Stop)
unfolding is_white is_special is_regular
fine_point_body = fine (Proc point_body Stop) refl

fine_function_body : Fine (Proc function_body Stop)
unfolding is_white is_special is_regular
fine_function_body = fine (Proc function_body Stop) refl

fine_unit_body : Fine (Proc unit_body Stop)
unfolding is_white is_special is_regular
fine_unit_body = fine (Proc unit_body Stop) refl

free_int : operator_number (codes "int") ≡ None
unfolding operator_number
free_int = refl

free_unsigned : operator_number (codes "unsigned") ≡ None
unfolding operator_number
free_unsigned = refl

free_char : operator_number (codes "char") ≡ None
unfolding operator_number
free_char = refl

free_PointerType : operator_number (codes "PointerType") ≡ None
unfolding operator_number
free_PointerType = refl

free_ArrayType : operator_number (codes "ArrayType") ≡ None
unfolding operator_number
free_ArrayType = refl

free_StructType : operator_number (codes "StructType") ≡ None
unfolding operator_number
free_StructType = refl

free_PointerTo : operator_number (codes "PointerTo") ≡ None
unfolding operator_number
free_PointerTo = refl

free_ArrayOf : operator_number (codes "ArrayOf") ≡ None
unfolding operator_number
free_ArrayOf = refl

free_NewStruct : operator_number (codes "NewStruct") ≡ None
unfolding operator_number
free_NewStruct = refl

free_Variable : operator_number (codes "Variable") ≡ None
unfolding operator_number
free_Variable = refl

free_NewString : operator_number (codes "NewString") ≡ None
unfolding operator_number
free_NewString = refl

free_NewObject : operator_number (codes "NewObject") ≡ None
unfolding operator_number
free_NewObject = refl

free_ObjectSymbol : operator_number (codes "ObjectSymbol") ≡ None
unfolding operator_number
free_ObjectSymbol = refl

free_NewSymbol : operator_number (codes "NewSymbol") ≡ None
unfolding operator_number
free_NewSymbol = refl

free_FunctionSymbol : operator_number (codes "FunctionSymbol") ≡ None
unfolding operator_number
free_FunctionSymbol = refl

free_NewPoint : operator_number (codes "NewPoint") ≡ None
unfolding operator_number
free_NewPoint = refl

free_NewFunction : operator_number (codes "NewFunction") ≡ None
unfolding operator_number
free_NewFunction = refl

free_NewUnit : operator_number (codes "NewUnit") ≡ None
unfolding operator_number
free_NewUnit = refl

-- ---- the definitions

abbrev basic : List ℕ → List ℕ → List ℕ → ℕ → PsObj → Definition
basic name kind printer size x = record { name = name; value = New 3 (basic_entries kind size printer x) End; sense = Sized size }

abbrev kinded : List ℕ → List ℕ → List ℕ → PsObj → Definition
kinded name kind printer x = record { name = name; value = New 2 (kind_entries kind printer x) End; sense = Kind }

abbrev procedure : List ℕ → Code → Definition
procedure name body = record { name = name; value = Quote body End; sense = Called body }

abbrev variables : Definition
variables = record { name = codes "Variable"; value = New 2 variable_entries End; sense = Variables }

abbrev pub definitions : Printers → List Definition
definitions p =
    basic (codes "int") (codes "int") (codes "PrintInt") 4 p.int
    ∷ basic (codes "unsigned") (codes "unsigned") (codes "PrintUnsigned") 4 p.unsigned
    ∷ basic (codes "char") (codes "char") (codes "PrintChar") 1 p.char
    ∷ basic (codes "PointerType") (codes "pointer") (codes "PrintPointer") 4 p.pointer
    ∷ kinded (codes "ArrayType") (codes "array") (codes "PrintArray") p.array
    ∷ kinded (codes "StructType") (codes "struct") (codes "PrintStruct") p.struct
    ∷ procedure (codes "PointerTo") pointer_body
    ∷ procedure (codes "ArrayOf") array_body
    ∷ procedure (codes "NewStruct") struct_body
    ∷ variables
    ∷ procedure (codes "NewString") string_body
    ∷ procedure (codes "NewObject") object_body
    ∷ procedure (codes "ObjectSymbol") object_symbol_body
    ∷ procedure (codes "NewSymbol") symbol_body
    ∷ procedure (codes "FunctionSymbol") function_symbol_body
    ∷ procedure (codes "NewPoint") point_body
    ∷ procedure (codes "NewFunction") function_body
    ∷ procedure (codes "NewUnit") unit_body ∷ []

pub words_are : (p : Printers) (k : Code) → defining (definitions p) k ≡ (words ⋯ k)
words_are p k = refl

abbrev all_behind : Printers → Senses
all_behind p = behind (definitions p) (printer_senses p)

pub senses_behind : (p : Printers) → all_behind p ≡ word_senses ++ printer_senses p
senses_behind p = refl

-- ---- each is sound

module _ (index : ℕ) (ds : List DictId) where
  basic_sound : (name kind printer : List ℕ) (size : ℕ) (x : PsObj) (ws : Senses) → Fine (Lit name Stop) → Fine (Lit kind Stop) → Fine (Lit printer Stop) → Fine (Num (pos size) Stop) → IsNoMark x → operator_number name ≡ None
      → bytes_eq (codes "kind") name ≡ false → bytes_eq (codes "tag") name ≡ false → is_free name ws ≡ true → sense_in ws printer ≡ Some (Stands x) → IsSound index ds (basic name kind printer size x) ws
  basic_sound name kind printer size x ws named kinded printed sized no_mark free kind_apart tag_apart frees found = record {
    fine = named;
    one = refl;
    room = (omega arith, omega arith);
    knows = λ s n k. (
      (refl, tt),
      omega arith,
      (lit_kind, kinded, (lit_size, sized, (lit_printer, (printed, (let h = sense_is s (in_table index ∷ ds) ws printer (Stands x) k.have found in h.1 ∙ ap Some h.2), no_mark), tt))),
      tt,
    );
    operator = free;
    kind = kind_apart;
    tag = tag_apart;
    free = free_by name ws frees;
    is_of = λ s y h. basic_is s kind size printer x y h;
  }

  kind_sound : (name kind printer : List ℕ) (x : PsObj) (ws : Senses) → Fine (Lit name Stop) → Fine (Lit kind Stop) → Fine (Lit printer Stop) → IsNoMark x → operator_number name ≡ None
      → bytes_eq (codes "kind") name ≡ false → bytes_eq (codes "tag") name ≡ false → is_free name ws ≡ true → sense_in ws printer ≡ Some (Stands x) → IsSound index ds (kinded name kind printer x) ws
  kind_sound name kind printer x ws named of_kind printed no_mark free kind_apart tag_apart frees found = record {
    fine = named;
    one = refl;
    room = (omega arith, omega arith);
    knows = λ s n k. (
      (refl, tt),
      omega arith,
      (lit_kind, of_kind, (lit_printer, (printed, (let h = sense_is s (in_table index ∷ ds) ws printer (Stands x) k.have found in h.1 ∙ ap Some h.2), no_mark), tt)),
      tt,
    );
    operator = free;
    kind = kind_apart;
    tag = tag_apart;
    free = free_by name ws frees;
    is_of = λ s y h. kind_is s kind printer x y h;
  }

  variables_sound : (ws : Senses) → is_free (codes "Variable") ws ≡ true → IsSound index ds variables ws
  variables_sound ws frees = record {
    fine = lit_Variable;
    one = refl;
    room = (omega arith, omega arith);
    knows = λ s n k. ((refl, tt), omega arith, (lit_kind, lit_variable, (lit_uplink, (null_fine, Op 60, k.making.operators (codes "null") 60 null_number, nothing), tt)), tt);
    operator = free_Variable;
    kind = refl;
    tag = refl;
    free = free_by (codes "Variable") ws frees;
    is_of = λ s y h. variable_is s y h;
  }

  procedure_sound : (name : List ℕ) (body : Code) (ws : Senses) → Fine (Lit name Stop) → Fine (Proc body Stop) → operator_number name ≡ None → bytes_eq (codes "kind") name ≡ false → bytes_eq (codes "tag") name ≡ false
      → is_free name ws ≡ true → IsSound index ds (procedure name body) ws
  procedure_sound name body ws named written free kind_apart tag_apart frees = record {
    fine = named;
    one = refl;
    room = omega arith;
    knows = λ s n k. (written, tt);
    operator = free;
    kind = kind_apart;
    tag = tag_apart;
    free = free_by name ws frees;
    is_of = λ s y h. (h.0, head_is y (Array h.0 true) h.1 h.2, h.3, h.4);
  }

  pub words_sound : (p : Printers) → AreNoMarks p → AreSound index ds (definitions p) (printer_senses p)
  words_sound p h = (
    basic_sound (codes "int") (codes "int") (codes "PrintInt") 4 p.int _ lit_int lit_int lit_PrintInt (refl, tt) h.0 free_int refl refl refl refl,
    (
      basic_sound (codes "unsigned") (codes "unsigned") (codes "PrintUnsigned") 4 p.unsigned _ lit_unsigned lit_unsigned lit_PrintUnsigned (refl, tt) h.1 free_unsigned refl refl refl refl,
      (
        basic_sound (codes "char") (codes "char") (codes "PrintChar") 1 p.char _ lit_char lit_char lit_PrintChar (refl, tt) h.2 free_char refl refl refl refl,
        (
          basic_sound (codes "PointerType") (codes "pointer") (codes "PrintPointer") 4 p.pointer _ lit_PointerType lit_pointer lit_PrintPointer (refl, tt) h.3 free_PointerType refl refl refl refl,
          (
            kind_sound (codes "ArrayType") (codes "array") (codes "PrintArray") p.array _ lit_ArrayType lit_array lit_PrintArray h.4 free_ArrayType refl refl refl refl,
            (
              kind_sound (codes "StructType") (codes "struct") (codes "PrintStruct") p.struct _ lit_StructType lit_struct lit_PrintStruct h.5 free_StructType refl refl refl refl,
              (
                procedure_sound (codes "PointerTo") pointer_body _ lit_PointerTo fine_pointer_body free_PointerTo refl refl refl,
                (
                  procedure_sound (codes "ArrayOf") array_body _ lit_ArrayOf fine_array_body free_ArrayOf refl refl refl,
                  (
                    procedure_sound (codes "NewStruct") struct_body _ lit_NewStruct fine_struct_body free_NewStruct refl refl refl,
                    (
                      variables_sound _ refl,
                      (
                        procedure_sound (codes "NewString") string_body _ lit_NewString fine_string_body free_NewString refl refl refl,
                        (
                          procedure_sound (codes "NewObject") object_body _ lit_NewObject fine_object_body free_NewObject refl refl refl,
                          (
                            procedure_sound (codes "ObjectSymbol") object_symbol_body _ lit_ObjectSymbol fine_object_symbol_body free_ObjectSymbol refl refl refl,
                            (
                              procedure_sound (codes "NewSymbol") symbol_body _ lit_NewSymbol fine_symbol_body free_NewSymbol refl refl refl,
                              (
                                procedure_sound (codes "FunctionSymbol") function_symbol_body _ lit_FunctionSymbol fine_function_symbol_body free_FunctionSymbol refl refl refl,
                                (
                                  procedure_sound (codes "NewPoint") point_body _ lit_NewPoint fine_point_body free_NewPoint refl refl refl,
                                  (
                                    procedure_sound (codes "NewFunction") function_body _ lit_NewFunction fine_function_body free_NewFunction refl refl refl,
                                    (
                                      procedure_sound (codes "NewUnit") unit_body _ lit_NewUnit fine_unit_body free_NewUnit refl refl refl,
                                      tt,
                                    ),
                                  ),
                                ),
                              ),
                            ),
                          ),
                        ),
                      ),
                    ),
                  ),
                ),
              ),
            ),
          ),
        ),
      ),
    ),
  )

-- ---- a run

module _ (index : ℕ) (ds : List DictId) (t : StringId) (under : List Item) (items_fit : length under + 100 ≤ 1000) (post : List ℕ) where
  pub words_reached : (p : Printers) (k : Code) (n : ℕ) (s : StoreState) (at : ℕ) → AreNoMarks p → Knowing s index ds n (printer_senses p) → n < 900000 → s.table.units + s.command.units + 796 ≤ 8000000
      → StandsAt s t at (render (words ⋯ k) ++ post) → Reaches index ds t under 139 796 (n + 18) (word_senses ++ printer_senses p) s at (render k ++ post)
  words_reached p k n s at marks knowing few units_fit here =
      defined_all index ds t under items_fit post (definitions p) k n (printer_senses p) s at (words_sound index ds p marks) knowing (omega arith) units_fit here
