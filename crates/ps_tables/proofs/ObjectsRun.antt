-- The static objects and strings of a table are defined.
use Rattle.std.proofs.Common.{◌≡◌, ℕ, ℤ, pos, suc, ◌+◌, ◌*◌, ◌<◌, ◌≤◌, ◌^◌, true, false, Option, Some, None, List, [], ◌∷◌, ◌++◌, length, codes, decimal, refl, sym, ap, ◌∙◌, subst, arith, lt-ltb, length-append, reverse, append_assoc, append-nil}
use Rattle.std.proofs.lemmas.List.{reverse-append}
use Rattle.std.specs.List.{AllByRecursion}
use Rattle.std.specs.Fmt.{signed_decimal}
use Rattle.std.proofs.lemmas.Fmt.{length-decimal-le}
use Rattle.ldb_words.specs.Word.{signed}
use Rattle.ps_scan.specs.Bytes.{is_regular, is_white, is_special}
use Rattle.ps_scan.specs.Grammar.{AllRegular, IsWord}
use Rattle.ps_scan.specs.Number.{value_of}
use Rattle.c_tree.specs.declared.types.StructDef.{StructDef}
use Rattle.c_tree.specs.declared.rows.Program.{Program}
use Rattle.c_tree.specs.declared.rows.UnitRow.{UnitRow}
use Rattle.c_tree.specs.declared.rows.ObjectRow.{ObjectRow}
use Rattle.ps_store.specs.declared.object.PsObj.{PsObj}
use Rattle.ps_store.specs.declared.object.PsObj.TheVariants.{Str, Array, Dict, Null}
use Rattle.ps_store.specs.declared.object.DictId.{DictId}
use Rattle.ps_store.specs.declared.object.StringId.{StringId}
use Rattle.ps_store.specs.Operators.{operator_number}
use Rattle.ps_store.specs.StoreState.{StoreState}
use Rattle.ps_store.specs.Store.{text_units}
use Rattle.ps_step.specs.declared.item.Item.{Item}
use Rattle.ps_text.specs.Code.{Code, Stop, Num, Word, Lit, Text, Proc, render}
use Rattle.ps_text.specs.Spells.{Fine, units}
use Rattle.ps_text.proofs.Checks.{fine}
use Rattle.ps_text.proofs.Numbers.{number_token}
use Rattle.ps_terms.specs.Machine.{Does}
use Rattle.ps_terms.specs.Stands.{Means}
use Rattle.ps_terms.specs.Printing.{further}
use Rattle.ps_emit.specs.Terms.{◌⋯◌, anchor_name}
use Rattle.ps_emit.specs.Types.{type_code}
use Rattle.ps_emit.specs.Places.{object_label, string_label, objects_from, strings_from, objects_code}
use Rattle.ps_tables.specs.Dictionaries.{Fields, filled, joined}
use Rattle.ps_tables.specs.Making.{HasFields}
use Rattle.ps_tables.specs.Later.{StandsAt}
use Rattle.ps_tables.specs.Makers.{body, Ready, MadeBy}
use Rattle.ps_tables.specs.TableWords.{new_string, new_object}
use Rattle.ps_tables.specs.Types.{Many, Basic, written, type_cost, type_steps}
use Rattle.ps_tables.specs.Pieces.{Piece, End, Row, Field, Make, code, cost, steps, left_by, Knows, HasRoom, Values, Bottom, Written, Quoted, Listed, Entry, OfType, after, Show}
use Rattle.ps_tables.specs.TablePieces.{anchor_body, objects_then, strings, objects}
use Rattle.ps_tables.specs.Runnable.{RunsStruct, RunsObject, Runnable}
use Rattle.ps_tables.specs.Defined.{in_table}
use Rattle.ps_tables.specs.Senses.{Variables, Called, Objects, object_fields, IsObject, BeginWith, variable_fields, IsOf, HasSense, Knowing}
use Rattle.ps_tables.specs.Reached.{Reaches}
use Rattle.ps_tables.specs.Tabled.{strings_made, objects_made, objects_steps, object_units, object_steps}
use Rattle.ps_tables.specs.WordsKnown.{Printers, string_body, object_body}
use Rattle.ps_tables.specs.PartsKnown.{with_structs, with_objects}
use Rattle.ps_tables.proofs.TypeTexts.{small_integer}
use Rattle.ps_tables.proofs.Tokens.{head_is}
use Rattle.ps_tables.proofs.TablePieces.{assoc}
use Rattle.ps_tables.proofs.MembersRun.{further_is}
use Rattle.ps_tables.proofs.Sequence.{defined_by}
use Rattle.ps_tables.proofs.WordsKnown.{sense_is, free_by}
use Rattle.ps_tables.proofs.TypesKnown.{type_is, type_known, char_known}

new_object_fine : Fine (Word (codes "NewObject") Stop)
unfolding is_white is_special is_regular
new_object_fine = fine (Word (codes "NewObject") Stop) refl

new_string_fine : Fine (Word (codes "NewString") Stop)
unfolding is_white is_special is_regular
new_string_fine = fine (Word (codes "NewString") Stop) refl

anchor_fine : Fine (Word (codes "Anchor") (Word (codes "Absolute") Stop))
unfolding is_white is_special is_regular
anchor_fine = fine (Word (codes "Anchor") (Word (codes "Absolute") Stop)) refl

lit_a : Fine (Lit (codes "a") Stop)
unfolding is_white is_special is_regular
lit_a = fine (Lit (codes "a") Stop) refl

lit_objects : Fine (Lit (codes "objects") Stop)
unfolding is_white is_special is_regular
lit_objects = fine (Lit (codes "objects") Stop) refl

free_objects : operator_number (codes "objects") ≡ None
unfolding operator_number
free_objects = refl

-- ---- names of anchors

word_regular : (ds : List ℕ) → IsWord ds → AllRegular ds
word_regular [] h = absurd h
word_regular (b ∷ bs) h = h

pub short_decimal : (k : ℕ) → k < 2 ^ 31 → length (decimal k) ≤ 10
short_decimal k h = length-decimal-le 10 k (omega arith) (omega arith) (omega arith)

pub anchor_name_fine : (k : ℕ) → k < 2 ^ 31 → Fine (Lit (anchor_name k) Stop)
anchor_name_fine k h = ((lit_a.0.0, word_regular (decimal k) (number_token (pos k) (small_integer k h)).0), (let l = short_decimal k h in omega arith), tt)

body_fine : (k : ℕ) → k < 2 ^ 31 → Fine (Proc (anchor_body k) Stop)
body_fine k h = let a = anchor_name_fine k h in ((refl, (a.0, a.1, anchor_fine)), omega arith, tt)

label_short : (k : ℕ) → k < 2 ^ 31 → length (string_label k) ≤ 16777216
label_short k h = let l = short_decimal k h in let e : length (codes "str" ++ decimal k) ≡ 3 + length (decimal k) = length-append (codes "str") (decimal k) in omega arith

-- ---- the pieces

module _ (dict : DictId) (kind : PsObj) where
  abbrev ss : (k anchor : ℕ) → List (List ℕ) → Piece
  ss = strings dict (variable_fields kind)

  abbrev os' : List StructDef → List UnitRow → ℕ → List ObjectRow → Piece → Piece
  os' = objects_then dict (variable_fields kind)

  strings_are : (k anchor : ℕ) (ts : List (List ℕ)) (c : Code) → code (ss k anchor ts) c ≡ (strings_from k anchor ts ⋯ c)
  strings_are k anchor [] c = refl
  strings_are k anchor (t ∷ ts) c =
      ap (λ r. Text (string_label k) (Proc (anchor_body anchor) (Word (codes "char") (Num (signed (suc (length t))) (Word (codes "ArrayOf") (Word (codes "NewString") r)))))) (strings_are (suc k) (suc anchor) ts c)

  objects_are : (defs : List StructDef) (us : List UnitRow) (k : ℕ) (os : List ObjectRow) (rest : Piece) (c : Code) → code (os' defs us k os rest) c ≡ (objects_from us k os ⋯ code rest c)
  objects_are defs us k [] rest c = refl
  objects_are defs us k (o ∷ os) rest c =
      ap (λ r. Text o.name (Text (object_label us o) (Proc (anchor_body k) r)))
      (type_is defs o.ctype (Word (codes "NewObject") (code (os' defs us (suc k) os rest) c))
      ∙ ap (λ r. type_code o.ctype ⋯ Word (codes "NewObject") r) (objects_are defs us (suc k) os rest c)
      ∙ sym (assoc (type_code o.ctype ⋯ Word (codes "NewObject") Stop) (objects_from us (suc k) os) (code rest c) ∙ assoc (type_code o.ctype) (Word (codes "NewObject") Stop) (objects_from us (suc k) os ⋯ code rest c)))

  whole_is : (p : Program) (k : Code) → Lit (codes "objects") (code (objects dict (variable_fields kind) p) (Word (codes "def") k)) ≡ (objects_code p ⋯ k)
  whole_is p k =
      let a : Code = objects_from p.units 0 p.objects in
      let b : Code = strings_from 0 (length p.objects) p.strings in
      let last : Code = Word (codes "]") (Word (codes "def") k) in
      ap (λ c. Lit (codes "objects") (Word (codes "[") c))
      (objects_are p.defs p.units 0 p.objects (ss 0 (length p.objects) p.strings) last
      ∙ ap (λ c. a ⋯ c) (strings_are 0 (length p.objects) p.strings last)
      ∙ sym (assoc ((a ⋯ b) ⋯ Word (codes "]") Stop) (Word (codes "def") Stop) k ∙ assoc (a ⋯ b) (Word (codes "]") Stop) (Word (codes "def") k) ∙ assoc a b last))

  -- how many, and room
  strings_left : (k anchor : ℕ) (ts : List (List ℕ)) → left_by (ss k anchor ts) ≡ length ts
  strings_left k anchor [] = refl
  strings_left k anchor (t ∷ ts) = ap suc (strings_left (suc k) (suc anchor) ts)

  objects_left : (defs : List StructDef) (us : List UnitRow) (k : ℕ) (os : List ObjectRow) (rest : Piece) → left_by (os' defs us k os rest) ≡ length os + left_by rest
  objects_left defs us k [] rest = omega arith
  objects_left defs us k (o ∷ os) rest = let e = objects_left defs us (suc k) os rest in omega arith

  strings_room : (k anchor : ℕ) (ts : List (List ℕ)) (n : ℕ) → n + length ts + 120 ≤ 100000 → HasRoom n (ss k anchor ts)
  strings_room k anchor [] n h = omega arith
  strings_room k anchor (t ∷ ts) n h = (omega arith, strings_room (suc k) (suc anchor) ts (suc n) (omega arith))

  objects_room : (defs : List StructDef) (us : List UnitRow) (k : ℕ) (os : List ObjectRow) (ts : List (List ℕ)) (j anchor n : ℕ) → n + (length os + length ts) + 120 ≤ 100000 → HasRoom n (os' defs us k os (ss j anchor ts))
  objects_room defs us k [] ts j anchor n h = strings_room j anchor ts n (omega arith)
  objects_room defs us k (o ∷ os) ts j anchor n h = (omega arith, objects_room defs us (suc k) os ts j anchor (suc n) (omega arith))

  -- units and steps
  strings_cost : (k anchor : ℕ) (ts : List (List ℕ)) → cost (ss k anchor ts) ≡ strings_made k anchor ts
  strings_cost k anchor [] = refl
  strings_cost k anchor (t ∷ ts) = let e = strings_cost (suc k) (suc anchor) ts in omega arith

  objects_cost : (defs : List StructDef) (us : List UnitRow) (k : ℕ) (os : List ObjectRow) (rest : Piece) → cost (os' defs us k os rest) ≡ objects_made defs us k os + cost rest
  objects_cost defs us k [] rest = omega arith
  objects_cost defs us k (o ∷ os) rest = let e = objects_cost defs us (suc k) os rest in omega arith

  strings_take : (k anchor : ℕ) (ts : List (List ℕ)) → steps (ss k anchor ts) ≡ 56 * length ts
  strings_take k anchor [] = refl
  strings_take k anchor (t ∷ ts) = let e = strings_take (suc k) (suc anchor) ts in omega arith

  objects_take : (defs : List StructDef) (us : List UnitRow) (k : ℕ) (os : List ObjectRow) (rest : Piece) → steps (os' defs us k os rest) ≡ objects_steps defs os + steps rest
  objects_take defs us k [] rest = omega arith
  objects_take defs us k (o ∷ os) rest =
      let t : ℕ = type_steps (written defs o.ctype) in
      let e = objects_take defs us (suc k) os rest in
      let r : ℕ = steps (os' defs us (suc k) os rest) in
      further_is (suc (suc (suc (further t 0)))) (suc (further 29 r)) ∙ ap (λ n. suc (suc (suc n)) + suc (further 29 r)) (further_is t 0) ∙ omega arith

-- ---- what is shown

three : (us ws : List PsObj) (a b c d : PsObj) → a ∷ b ∷ c ∷ d ∷ [] ≡ us ++ ws → length us ≡ 3 → (us ≡ a ∷ b ∷ c ∷ []) × (ws ≡ d ∷ [])
three [] ws a b c d e l = absurd (omega (arith, l))
three (v ∷ []) ws a b c d e l = absurd (omega (arith, l))
three (v ∷ w ∷ []) ws a b c d e l = absurd (omega (arith, l))
three (v ∷ w ∷ x ∷ []) ws a b c d e l =
    let p : v ≡ a = cc in
    let q : w ≡ b = cc in
    let r : x ≡ c = cc in
    (ap (λ z. z ∷ w ∷ x ∷ []) p ∙ ap (λ z. a ∷ z ∷ x ∷ []) q ∙ ap (λ z. a ∷ b ∷ z ∷ []) r, cc)
three (v ∷ w ∷ x ∷ y ∷ us) ws a b c d e l = absurd (omega (arith, l))

module _ (dict : DictId) (kind : PsObj) (s : StoreState) where
  object_shown : (o : ObjectRow) (defs : List StructDef) (label : List ℕ) (body : Code) (d : DictId) (ws : List PsObj) (fields : Fields) → HasFields s d fields → MadeBy s (new_object dict (variable_fields kind)) ws fields
      → Show s ws (OfType (written defs o.ctype) (Quoted body (Written label (Written o.name Bottom)))) → IsObject s (Dict d)
  object_shown o defs label body d ws fields has made shows =
      let q = shows.4 in
      let l = q.5 in
      let m = l.4 in
      let whole : ws ≡ shows.0 ∷ Array q.0 true ∷ Str l.0 false ∷ Str m.0 false ∷ [] =
      shows.2 ∙ ap (λ (xs : List PsObj). shows.0 ∷ xs) (q.2 ∙ ap (λ (xs : List PsObj). Array q.0 true ∷ xs) (l.2 ∙ ap (λ (xs : List PsObj). Str l.0 false ∷ xs) (m.2 ∙ ap (λ (xs : List PsObj). Str m.0 false ∷ xs) m.4))) in
      let r = three made.0 made.1 shows.0 (Array q.0 true) (Str l.0 false) (Str m.0 false) (sym whole ∙ made.3) made.6 in
      let keys : List (List ℕ) = codes "type" ∷ codes "where" ∷ codes "label" ∷ [] in
      let name : List (List ℕ) = codes "name" ∷ [] in
      let inner : made.2 ≡ filled (joined [] (variable_fields kind)) keys (shows.0 ∷ Array q.0 true ∷ Str l.0 false ∷ []) = made.4 ∙ ap (filled (joined [] (variable_fields kind)) keys) r.0 in
      let same : fields ≡ object_fields kind Null shows.0 (Array q.0 true) (Str l.0 false) (Str m.0 false) = made.5 ∙ ap (λ (f : Fields). filled f name made.1) inner ∙ ap (filled (filled (joined [] (variable_fields kind)) keys (shows.0 ∷ Array q.0 true ∷ Str l.0 false ∷ [])) name) r.1 in
      record { dict = d; is = refl; kind = kind; ctype = shows.0; place = q.0; label = l.0; name = m.0; has = subst (λ (f : Fields). HasFields s d f) same has }

  -- strings, the last one first
  record StringsShown (zs : List PsObj) (vs : Values) : Type 0 where
    pub front : List PsObj
    pub back : List PsObj
    pub are : zs ≡ front ++ back
    pub shows : Show s back vs

  strings_shown : (k anchor : ℕ) (ts : List (List ℕ)) (zs : List PsObj) (vs : Values) → Show s zs (after (strings dict (variable_fields kind) k anchor ts) vs) → StringsShown zs vs
  strings_shown k anchor [] zs vs h = record { front = []; back = zs; are = refl; shows = h }
  strings_shown k anchor (t ∷ ts) zs vs h =
      let parts : Values = OfType (Many (Basic (codes "char") 1) (suc (length t))) (Quoted (anchor_body anchor) (Written (string_label k) Bottom)) in
      let r : StringsShown zs (Entry (new_string dict (variable_fields kind)) parts vs) = strings_shown (suc k) (suc anchor) ts zs (Entry (new_string dict (variable_fields kind)) parts vs) h in
      let e = r.shows in
      record {
        front = r.front ++ Dict e.0 ∷ [];
        back = e.2;
        are = r.are ∙ ap (λ (l : List PsObj). r.front ++ l) e.4 ∙ sym (append_assoc r.front (Dict e.0 ∷ []) e.2);
        shows = e.9;
      }

  -- static objects, and strings behind them
  record ObjectsShown (n : ℕ) (zs : List PsObj) (vs : Values) : Type 0 where
    pub front : List PsObj
    pub back : List PsObj
    pub are : zs ≡ front ++ back
    pub shows : Show s back vs
    pub begin : BeginWith s n (reverse front)

  objects_shown : (defs : List StructDef) (us : List UnitRow) (k : ℕ) (os : List ObjectRow) (j anchor : ℕ) (ts : List (List ℕ)) (zs : List PsObj) (vs : Values)
      → Show s zs (after (objects_then dict (variable_fields kind) defs us k os (strings dict (variable_fields kind) j anchor ts)) vs) → ObjectsShown (length os) zs vs
  objects_shown defs us k [] j anchor ts zs vs h = let r = strings_shown j anchor ts zs vs h in record { front = r.front; back = r.back; are = r.are; shows = r.shows; begin = tt }
  objects_shown defs us k (o ∷ os) j anchor ts zs vs h =
      let parts : Values = OfType (written defs o.ctype) (Quoted (anchor_body k) (Written (object_label us o) (Written o.name Bottom))) in
      let entry : Values = Entry (new_object dict (variable_fields kind)) parts vs in
      let r : ObjectsShown (length os) zs entry = objects_shown defs us (suc k) os j anchor ts zs entry h in
      let e = r.shows in
      let x : PsObj = Dict e.0 in
      let turned : reverse (r.front ++ x ∷ []) ≡ x ∷ reverse r.front = reverse-append r.front (x ∷ []) in
      record {
        front = r.front ++ x ∷ [];
        back = e.2;
        are = r.are ∙ ap (λ (l : List PsObj). r.front ++ l) e.4 ∙ sym (append_assoc r.front (x ∷ []) e.2);
        shows = e.9;
        begin = subst (λ (l : List PsObj). BeginWith s (suc (length os)) l) (sym turned) (object_shown o defs (object_label us o) (anchor_body k) e.0 e.1 e.3 e.5 e.6 e.8, r.begin);
      }

  listing_shown : (q : Program) (x : PsObj) → Show s (x ∷ []) (after (objects dict (variable_fields kind) q) Bottom) → IsOf s x (Objects (length q.objects))
  listing_shown q x h =
      let r : ObjectsShown (length q.objects) h.1 Bottom = objects_shown q.defs q.units 0 q.objects 0 (length q.objects) q.strings h.1 Bottom h.5 in
      let whole : h.1 ≡ r.front = r.are ∙ ap (λ (l : List PsObj). r.front ++ l) r.shows ∙ append-nil r.front in
      (h.0, reverse h.1, head_is x (Array h.0 false) h.2 h.3, h.4, subst (λ (l : List PsObj). BeginWith s (length q.objects) (reverse l)) (sym whole) r.begin)

-- ---- the definition

module _ (index : ℕ) (ds : List DictId) (t : StringId) (under : List Item) (items_fit : length under + 100 ≤ 1000) (post : List ℕ) (p : Printers) where
  strings_known : (s : StoreState) (dict : DictId) (kind : PsObj) (n b : ℕ) (defs : List StructDef) → Knowing s index ds n (with_structs p b defs) → AllByRecursion (RunsStruct defs) defs → length defs ≤ 90000
      → Means s (in_table index ∷ ds) (codes "NewString") (Does string_body) → Ready s (in_table index ∷ ds) (new_string dict (variable_fields kind))
      → (k anchor : ℕ) (ts : List (List ℕ)) → k + length ts < 2 ^ 31 → anchor + length ts < 2 ^ 31 → AllByRecursion (λ x. length x < 2 ^ 30) ts → Knows s (in_table index ∷ ds) (strings dict (variable_fields kind) k anchor ts)
  strings_known s dict kind n b defs knowing small few means ready k anchor [] h j short = tt
  strings_known s dict kind n b defs knowing small few means ready k anchor (x ∷ xs) h j short = (
    new_string_fine,
    means,
    ready,
    refl,
    omega arith,
    ((label_short k (omega arith), tt), (body_fine anchor (omega arith), (char_known s index ds n p b defs knowing small few (length x) short.0, tt))),
    strings_known s dict kind n b defs knowing small few means ready (suc k) (suc anchor) xs (omega arith) (omega arith) short.1,
  )

  objects_known : (s : StoreState) (dict : DictId) (kind : PsObj) (n b : ℕ) (defs : List StructDef) (us : List UnitRow) → Knowing s index ds n (with_structs p b defs) → AllByRecursion (RunsStruct defs) defs → length defs ≤ 90000
      → Means s (in_table index ∷ ds) (codes "NewObject") (Does object_body) → Ready s (in_table index ∷ ds) (new_object dict (variable_fields kind))
      → (k : ℕ) (os : List ObjectRow) (rest : Piece) → k + length os < 2 ^ 31 → AllByRecursion (RunsObject defs us) os → Knows s (in_table index ∷ ds) rest
      → Knows s (in_table index ∷ ds) (objects_then dict (variable_fields kind) defs us k os rest)
  objects_known s dict kind n b defs us knowing small few means ready k [] rest h typed known = known
  objects_known s dict kind n b defs us knowing small few means ready k (o ∷ os) rest h typed known = (
    new_object_fine,
    means,
    ready,
    refl,
    omega arith,
    ((typed.0.name, tt), ((typed.0.label, tt), (body_fine k (omega arith), (type_known s index ds n p b defs knowing small few o.ctype typed.0.ctype, tt)))),
    objects_known s dict kind n b defs us knowing small few means ready (suc k) os rest (omega arith) typed.1 known,
  )

  pub objects_reached : (q : Program) (k : Code) (n b : ℕ) (s : StoreState) (at : ℕ) → AllByRecursion (RunsStruct q.defs) q.defs → length q.defs ≤ 90000 → AllByRecursion (RunsObject q.defs q.units) q.objects
      → AllByRecursion (λ x. length x < 2 ^ 30) q.strings → length q.objects + length q.strings ≤ 90000 → Knowing s index ds n (with_structs p b q.defs) → n < 900000
      → s.table.units + s.command.units + object_units q ≤ 8000000 → StandsAt s t at (render (objects_code q ⋯ k) ++ post)
      → Reaches index ds t under (object_steps q) (object_units q) (n + 1) (with_objects p b (length q.objects) q.defs) s at (render k ++ post)
  objects_reached q k n b s at small few_defs typed short few_objects knowing few units_fit here =
      let all : List DictId = in_table index ∷ ds in
      let ws = with_structs p b q.defs in
      let w : HasSense s all (codes "NewObject") (Called object_body) = sense_is s all ws (codes "NewObject") (Called object_body) knowing.have refl in
      let w' : HasSense s all (codes "NewString") (Called string_body) = sense_is s all ws (codes "NewString") (Called string_body) knowing.have refl in
      let f : HasSense s all (codes "Variable") Variables = sense_is s all ws (codes "Variable") Variables knowing.have refl in
      let dict : DictId = f.2.0 in
      let kind : PsObj = f.2.1 in
      let value : Piece = objects dict (variable_fields kind) q in
      let means : Means s all (codes "NewObject") (Does object_body) = (w.2.0, w.1 ∙ ap Some w.2.1, w.2.2, w.2.3) in
      let means' : Means s all (codes "NewString") (Does string_body) = (w'.2.0, w'.1 ∙ ap Some w'.2.1, w'.2.2, w'.2.3) in
      let ready' : Ready s all (new_string dict (variable_fields kind)) = (f.1 ∙ ap Some f.2.2, f.2.3, (omega arith, (omega arith, (omega arith, tt))), omega arith) in
      let ready : Ready s all (new_object dict (variable_fields kind)) = (means', ready', (omega arith, tt), omega arith) in
      let rest : Piece = strings dict (variable_fields kind) 0 (length q.objects) q.strings in
      let items : Piece = objects_then dict (variable_fields kind) q.defs q.units 0 q.objects rest in
      let size : cost items ≡ objects_made q.defs q.units 0 q.objects + strings_made 0 (length q.objects) q.strings =
      objects_cost dict kind q.defs q.units 0 q.objects rest ∙ ap (λ m. objects_made q.defs q.units 0 q.objects + m) (strings_cost dict kind 0 (length q.objects) q.strings) in
      let left : left_by items ≡ length q.objects + length q.strings = objects_left dict kind q.defs q.units 0 q.objects rest ∙ ap (λ m. length q.objects + m) (strings_left dict kind 0 (length q.objects) q.strings) in
      let taken : steps items ≡ objects_steps q.defs q.objects + 56 * length q.strings =
      objects_take dict kind q.defs q.units 0 q.objects rest ∙ ap (λ m. objects_steps q.defs q.objects + m) (strings_take dict kind 0 (length q.objects) q.strings) in
      let m : ℕ = objects_steps q.defs q.objects + 56 * length q.strings in
      let number : further (steps (Field (codes "objects") value End)) 1 ≡ object_steps q =
      ap (λ j. suc (suc (further (further (further j 1) 0) 1))) taken
      ∙ ap (λ j. suc (suc (further (further j 0) 1))) (further_is m 1) ∙ ap (λ j. suc (suc (further j 1))) (further_is (m + 1) 0) ∙ ap (λ j. suc (suc j)) (further_is (m + 1 + 0) 1) ∙ omega arith in
      let units_of : cost (Field (codes "objects") value End) + units (Word (codes "def") Stop) + 1 ≡ object_units q = omega arith in
      let known : Knows s all items =
      objects_known s dict kind n b q.defs q.units knowing small few_defs means ready 0 q.objects rest (omega arith) typed
      (strings_known s dict kind n b q.defs knowing small few_defs means' ready' 0 (length q.objects) q.strings (omega arith) (omega arith) short) in
      let r : Reaches index ds t under (further (steps (Field (codes "objects") value End)) 1) (cost (Field (codes "objects") value End) + units (Word (codes "def") Stop) + 1) (n + 1) (with_objects p b (length q.objects) q.defs) s at (render k ++ post) =
      defined_by index ds t under items_fit post (codes "objects") value (Objects (length q.objects)) k n ws s at knowing (omega arith) lit_objects refl
      (objects_room dict kind q.defs q.units 0 q.objects q.strings 0 (length q.objects) 2 (omega arith), omega arith) (omega arith, known, tt) free_objects refl refl (free_by (codes "objects") ws refl)
      (λ s' x. listing_shown dict kind s' q x)
      (subst (λ (j : ℕ). s.table.units + s.command.units + j ≤ 8000000) (sym units_of) units_fit) (subst (λ (c : Code). StandsAt s t at (render c ++ post)) (sym (whole_is dict kind q k)) here) in
      subst (λ (j : ℕ). Reaches index ds t under j (object_units q) (n + 1) (with_objects p b (length q.objects) q.defs) s at (render k ++ post)) number
      (subst (λ (j : ℕ). Reaches index ds t under (further (steps (Field (codes "objects") value End)) 1) j (n + 1) (with_objects p b (length q.objects) q.defs) s at (render k ++ post)) units_of r)
