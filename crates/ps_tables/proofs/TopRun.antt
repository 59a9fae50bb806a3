-- What stands behind a table's definitions leaves the table's top.
use Rattle.std.proofs.Common.{◌≡◌, ℕ, ℤ, pos, suc, zero, ◌+◌, ◌*◌, ◌<◌, ◌≤◌, ◌^◌, ◌==◌, Bool, true, false, if◌then◌else◌, Option, Some, None, List, [], ◌∷◌, ◌++◌, length, reverse, codes, slice_get, refl, sym, ap, ◌∙◌, subst, arith, append_assoc, append-nil}
use Rattle.std.proofs.lemmas.List.{reverse-append}
use Rattle.std.specs.List.{AllByRecursion}
use Rattle.machine_state.specs.declared.layout.TheConstants.{SPARC}
use Rattle.ldb_words.specs.Word.{signed}
use Rattle.ps_scan.specs.Bytes.{is_regular, is_white, is_special}
use Rattle.obj_file.specs.declared.object.FunctionRow.{FunctionRow}
use Rattle.c_tree.specs.declared.types.StructDef.{StructDef}
use Rattle.c_tree.specs.declared.rows.Program.{Program}
use Rattle.c_tree.specs.declared.rows.UnitRow.{UnitRow}
use Rattle.ps_store.specs.declared.object.PsObj.{PsObj}
use Rattle.ps_store.specs.declared.object.PsObj.TheVariants.{Int, Str, Array, Dict}
use Rattle.ps_store.specs.declared.object.ArrayId.{ArrayId}
use Rattle.ps_store.specs.declared.object.DictId.{DictId}
use Rattle.ps_store.specs.declared.object.StringId.{StringId}
use Rattle.ps_store.specs.StoreState.{StoreState}
use Rattle.ps_store.specs.Store.{entries_of, text_units}
use Rattle.ps_step.specs.Keys.{named}
use Rattle.ps_text.specs.Code.{Stop, Num, Word, Lit, Text, render}
use Rattle.ps_text.specs.Grown.{IsArray}
use Rattle.ps_text.specs.Spells.{Fine}
use Rattle.ps_text.proofs.Checks.{fine}
use Rattle.ps_terms.specs.Machine.{Does}
use Rattle.ps_terms.specs.Stands.{Means}
use Rattle.ps_terms.specs.Printing.{further}
use Rattle.ps_emit.specs.declared.placement.Placement.{Placement}
use Rattle.ps_emit.specs.Terms.{anchor_name}
use Rattle.ps_emit.specs.Functions.{deferred}
use Rattle.ps_emit.specs.Table.{target_name}
use Rattle.ps_tables.specs.Dictionaries.{Fields, updated, filled, AreFields}
use Rattle.ps_tables.specs.Making.{HasFields}
use Rattle.ps_tables.specs.Makers.{making_steps}
use Rattle.ps_tables.specs.TableWords.{new_unit}
use Rattle.ps_tables.specs.Types.{type_steps}
use Rattle.ps_tables.specs.Pieces.{Piece, End, Number, Literal, Chars, Quote, Value, Element, Make, Row, Loaded, Deferred, Field, Pairs, Typed, New, putting_steps, code, cost, steps, left_by, FieldsAlone, fields_in, IsValue, itself, Knows, HasRoom, Values, Bottom, This, Written, Listed, Entry, Runs, Under, Paired, after, pairs, Show}
use Rattle.ps_tables.specs.TablePieces.{anchors, tags, units, top}
use Rattle.ps_tables.specs.Runnable.{RunsStruct, RunsUnit}
use Rattle.ps_tables.specs.Defined.{in_table}
use Rattle.ps_tables.specs.Senses.{Called, Structs, Objects, AreStructs, HasSense, Knowing}
use Rattle.ps_tables.specs.WordsKnown.{Printers, unit_body}
use Rattle.ps_tables.specs.PartsKnown.{with_objects}
use Rattle.ps_tables.specs.Tabled.{anchors_made, tags_made, units_made, top_made, top_steps, IsTop}
use Rattle.ps_tables.specs.Left.{IsDeferred, AreDeferred}
use Rattle.ps_tables.proofs.Types.{value_of, fields_value}
use Rattle.ps_tables.proofs.TypeTexts.{small_integer, structs_fine}
use Rattle.ps_tables.proofs.Tokens.{head_is}
use Rattle.ps_tables.proofs.MembersRun.{further_is, word_fine}
use Rattle.ps_tables.proofs.ObjectsRun.{anchor_name_fine}
use Rattle.ps_tables.proofs.WordsKnown.{sense_is, Last, last}

-- ---- steps as sums

abbrev pub plain_steps : Piece → ℕ
plain_steps End = 0
plain_steps (Number n rest) = 1 + plain_steps rest
plain_steps (Literal name rest) = 1 + plain_steps rest
plain_steps (Chars text rest) = 1 + plain_steps rest
plain_steps (Quote body rest) = 1 + plain_steps rest
plain_steps (Value word x rest) = 1 + plain_steps rest
plain_steps (Element word place x rest) = 3 + plain_steps rest
plain_steps (Make word m parts rest) = plain_steps parts + (1 + (making_steps m + plain_steps rest))
plain_steps (Row items rest) = 1 + (plain_steps items + (1 + plain_steps rest))
plain_steps (Loaded key x rest) = 2 + plain_steps rest
plain_steps (Deferred text rest) = 2 + plain_steps rest
plain_steps (Field name value rest) = 1 + (plain_steps value + plain_steps rest)
plain_steps (Pairs fields rest) = 1 + (plain_steps fields + (1 + plain_steps rest))
plain_steps (Typed t rest) = type_steps t + plain_steps rest
plain_steps (New room entries rest) = 2 + (putting_steps entries + plain_steps rest)

pub plain : (p : Piece) → steps p ≡ plain_steps p
plain End = refl
plain (Number n rest) = let e = plain rest in omega arith
plain (Literal name rest) = let e = plain rest in omega arith
plain (Chars text rest) = let e = plain rest in omega arith
plain (Quote body rest) = let e = plain rest in omega arith
plain (Value word x rest) = let e = plain rest in omega arith
plain (Element word place x rest) = let e = plain rest in omega arith
plain (Make word m parts rest) = let a = plain parts in let b = plain rest in let c = further_is (making_steps m) (steps rest) in further_is (steps parts) (suc (further (making_steps m) (steps rest))) ∙ omega arith
plain (Row items rest) = let a = plain items in let b = plain rest in ap suc (further_is (steps items) (suc (steps rest))) ∙ omega arith
plain (Loaded key x rest) = let e = plain rest in omega arith
plain (Deferred text rest) = let e = plain rest in omega arith
plain (Field name value rest) = let a = plain value in let b = plain rest in ap suc (further_is (steps value) (steps rest)) ∙ omega arith
plain (Pairs fields rest) = let a = plain fields in let b = plain rest in ap suc (further_is (steps fields) (suc (steps rest))) ∙ omega arith
plain (Typed t rest) = let b = plain rest in further_is (type_steps t) (steps rest) ∙ omega arith
plain (New room entries rest) = let b = plain rest in ap (λ n. suc (suc n)) (further_is (putting_steps entries) (steps rest)) ∙ omega arith

-- ---- what may be read

new_unit_fine : Fine (Word (codes "NewUnit") Stop)
unfolding is_white is_special is_regular
new_unit_fine = fine (Word (codes "NewUnit") Stop) refl

objects_fine : Fine (Word (codes "objects") Stop)
unfolding is_white is_special is_regular
objects_fine = fine (Word (codes "objects") Stop) refl

lit_ldb : Fine (Lit (codes "ldb") Stop)
unfolding is_white is_special is_regular
lit_ldb = fine (Lit (codes "ldb") Stop) refl

lit_target : Fine (Lit (codes "target") Stop)
unfolding is_white is_special is_regular
lit_target = fine (Lit (codes "target") Stop) refl

lit_anchors : Fine (Lit (codes "anchors") Stop)
unfolding is_white is_special is_regular
lit_anchors = fine (Lit (codes "anchors") Stop) refl

lit_structs : Fine (Lit (codes "structs") Stop)
unfolding is_white is_special is_regular
lit_structs = fine (Lit (codes "structs") Stop) refl

lit_objects : Fine (Lit (codes "objects") Stop)
unfolding is_white is_special is_regular
lit_objects = fine (Lit (codes "objects") Stop) refl

lit_units : Fine (Lit (codes "units") Stop)
unfolding is_white is_special is_regular
lit_units = fine (Lit (codes "units") Stop) refl

target_short : (target : ℕ) → (length (target_name target) ≤ 16777216) × (text_units (target_name target) ≡ 2)
target_short target = by (target == SPARC)
  where
    by : (b : Bool) → (length (if b then codes "sparc" else codes "mips") ≤ 16777216) × (text_units (if b then codes "sparc" else codes "mips") ≡ 2)
    by true = (omega arith, refl)
    by false = (omega arith, refl)

-- ---- anchors

anchors_alone : (k : ℕ) (rows : List (List ℕ × ℕ)) → FieldsAlone (anchors k rows)
anchors_alone k [] = tt
anchors_alone k (a ∷ rows) = anchors_alone (suc k) rows

anchors_in : (k : ℕ) (rows : List (List ℕ × ℕ)) → fields_in (anchors k rows) ≡ length rows
anchors_in k [] = refl
anchors_in k (a ∷ rows) = ap suc (anchors_in (suc k) rows)

anchors_room : (k : ℕ) (rows : List (List ℕ × ℕ)) (n : ℕ) → n + 2 * length rows + 120 ≤ 100000 → HasRoom n (anchors k rows)
anchors_room k [] n h = omega arith
anchors_room k (a ∷ rows) n h = (omega arith, anchors_room (suc k) rows (suc (suc n)) (omega arith))

anchors_cost : (k : ℕ) (rows : List (List ℕ × ℕ)) → cost (anchors k rows) ≡ anchors_made k rows
anchors_cost k [] = refl
anchors_cost k (a ∷ rows) = let e = anchors_cost (suc k) rows in omega arith

anchors_take : (k : ℕ) (rows : List (List ℕ × ℕ)) → plain_steps (anchors k rows) ≡ 2 * length rows
anchors_take k [] = refl
anchors_take k (a ∷ rows) = let e = anchors_take (suc k) rows in omega arith

anchors_known : (s : StoreState) (ds : List DictId) (k : ℕ) (rows : List (List ℕ × ℕ)) → k + length rows < 2 ^ 31 → AllByRecursion (λ a. a.1 < 2 ^ 32) rows → Knows s ds (anchors k rows)
anchors_known s ds k [] few h = tt
anchors_known s ds k (a ∷ rows) few h = (anchor_name_fine k (omega arith), refl, (word_fine a.1 h.0, tt), anchors_known s ds (suc k) rows (omega arith) h.1)

-- ---- tags

tags_alone : (n : ℕ) (defs : List StructDef) (xs : List PsObj) → FieldsAlone (tags n defs xs)
tags_alone n [] xs = tt
tags_alone n (d ∷ defs) [] = tt
tags_alone n (d ∷ defs) (x ∷ xs) = tags_alone (suc n) defs xs

pub structs_long : (s : StoreState) (few : ℕ) (xs : List PsObj) (defs : List StructDef) → AreStructs s few xs defs → length xs ≡ length defs
structs_long s few [] [] h = refl
structs_long s few [] (d ∷ defs) h = absurd h
structs_long s few (x ∷ xs) [] h = absurd h
structs_long s few (x ∷ xs) (d ∷ defs) h = ap suc (structs_long s few xs defs h.1)

module _ (s : StoreState) (few : ℕ) where
  tags_in : (n : ℕ) (defs : List StructDef) (xs : List PsObj) → AreStructs s few xs defs → fields_in (tags n defs xs) ≡ length defs
  tags_in n [] [] h = refl
  tags_in n [] (x ∷ xs) h = absurd h
  tags_in n (d ∷ defs) [] h = absurd h
  tags_in n (d ∷ defs) (x ∷ xs) h = ap suc (tags_in (suc n) defs xs h.1)

  tags_cost : (n : ℕ) (defs : List StructDef) (xs : List PsObj) → AreStructs s few xs defs → cost (tags n defs xs) ≡ tags_made defs
  tags_cost n [] [] h = refl
  tags_cost n [] (x ∷ xs) h = absurd h
  tags_cost n (d ∷ defs) [] h = absurd h
  tags_cost n (d ∷ defs) (x ∷ xs) h = let e = tags_cost (suc n) defs xs h.1 in omega arith

  tags_take : (n : ℕ) (defs : List StructDef) (xs : List PsObj) → AreStructs s few xs defs → plain_steps (tags n defs xs) ≡ 4 * length defs
  tags_take n [] [] h = refl
  tags_take n [] (x ∷ xs) h = absurd h
  tags_take n (d ∷ defs) [] h = absurd h
  tags_take n (d ∷ defs) (x ∷ xs) h = let e = tags_take (suc n) defs xs h.1 in omega arith

  tags_room : (j : ℕ) (defs : List StructDef) (xs : List PsObj) (n : ℕ) → n + 2 * length defs + 120 ≤ 100000 → HasRoom n (tags j defs xs)
  tags_room j [] xs n h = omega arith
  tags_room j (d ∷ defs) [] n h = omega arith
  tags_room j (d ∷ defs) (x ∷ xs) n h = (omega arith, tags_room (suc j) defs xs (suc (suc n)) (omega arith))

  tags_known : (ds : List DictId) (a : ArrayId) (whole : List PsObj) → named s ds (codes "structs") ≡ Some (Array a false) → IsArray s a whole → (all : List StructDef) (n : ℕ) (defs : List StructDef) (xs : List PsObj) → n + length defs < 2 ^ 31
      → ((j : ℕ) → slice_get whole (n + j) ≡ slice_get xs j) → AreStructs s few xs defs → AllByRecursion (RunsStruct all) defs → Knows s ds (tags n defs xs)
  tags_known ds a whole means is all n [] [] small same h runs = tt
  tags_known ds a whole means is all n [] (x ∷ xs) small same h runs = absurd h
  tags_known ds a whole means is all n (d ∷ defs) [] small same h runs = absurd h
  tags_known ds a whole means is all n (d ∷ defs) (x ∷ xs) small same h runs =
      let value : IsValue x = subst IsValue (sym h.0.is) tt in
      let here : slice_get whole n ≡ Some x = ap (slice_get whole) (let e : n ≡ n + 0 = omega arith in e) ∙ same 0 in (
        (runs.0.regular, runs.0.short, tt),
        refl,
        (structs_fine, (small_integer n (omega arith), tt), a, whole, means, is, here, value, tt),
        tags_known ds a whole means is all (suc n) defs xs (omega arith) (λ j. ap (slice_get whole) (let e : suc n + j ≡ n + suc j = omega arith in e) ∙ same (suc j)) h.1 runs.1,
      )

-- ---- units

module _ (p : Program) (fs : List FunctionRow) where
  units_left : (us : List UnitRow) → left_by (units p fs us) ≡ length us
  units_left [] = refl
  units_left (u ∷ us) = ap suc (units_left us)

  units_room : (us : List UnitRow) (n : ℕ) → n + length us + 120 ≤ 100000 → HasRoom n (units p fs us)
  units_room [] n h = omega arith
  units_room (u ∷ us) n h = (omega arith, units_room us (suc n) (omega arith))

  units_cost : (us : List UnitRow) → cost (units p fs us) ≡ units_made p fs us
  units_cost [] = refl
  units_cost (u ∷ us) = let e = units_cost us in omega arith

  units_take : (us : List UnitRow) → plain_steps (units p fs us) ≡ 18 * length us
  units_take [] = refl
  units_take (u ∷ us) = let e = units_take us in omega arith

  units_known : (s : StoreState) (ds : List DictId) → Means s ds (codes "NewUnit") (Does unit_body) → (us : List UnitRow) → AllByRecursion (RunsUnit p fs) us → Knows s ds (units p fs us)
  units_known s ds means [] h = tt
  units_known s ds means (u ∷ us) h =
      (new_unit_fine, means, ((omega arith, (omega arith, tt)), omega arith), refl, omega arith, ((h.0.file, tt), ((h.0.functions, tt), tt)), units_known s ds means us h.1)

-- ---- the whole

module _ (p : Program) (at : Placement) (a : ArrayId) (xs : List PsObj) (s : StoreState) (few : ℕ) (structs : AreStructs s few xs p.defs) where
  pub top_cost : cost (top p at a xs) ≡ top_made p at
  top_cost =
      let e = anchors_cost 0 at.anchors in
      let f = anchors_in 0 at.anchors in
      let g = tags_cost s few 0 p.defs xs structs in
      let h = tags_in s few 0 p.defs xs structs in
      let i = units_cost p at.functions p.units in
      let j = units_left p at.functions p.units in
      let k = (target_short at.target).1 in
      omega arith

  pub top_take : steps (top p at a xs) ≡ top_steps p at
  top_take =
      let e = anchors_take 0 at.anchors in
      let g = tags_take s few 0 p.defs xs structs in
      let i = units_take p at.functions p.units in
      plain (top p at a xs) ∙ omega arith

  pub top_room : length at.anchors ≤ 40000 → length p.defs ≤ 40000 → length p.units ≤ 90000 → HasRoom 0 (top p at a xs)
  top_room e f g = ((omega arith, (omega arith, ((anchors_room 0 at.anchors 7 (omega arith), omega arith), ((tags_room s few 0 p.defs xs 9 (omega arith), omega arith), (omega arith, ((units_room p at.functions p.units 13 (omega arith), omega arith), omega arith)))))), omega arith)

-- ---- what is left

abbrev pub top_values : (target : ℕ) (anchors structs units : Values) → ArrayId → Values
top_values target anchored tagged made_units a =
    Under (codes "units") (Listed made_units Bottom) (Under (codes "objects") (This (Array a false) Bottom) (Under (codes "structs") (Paired tagged Bottom)
    (Under (codes "anchors") (Paired anchored Bottom) (Under (codes "target") (Written (target_name target) Bottom) (Under (codes "ldb") (This (Int (pos 1)) Bottom) Bottom)))))

module _ (s : StoreState) (target : ℕ) (anchored tagged made_units : Values) (a : ArrayId) where
  abbrev b₁ : Values
  b₁ = Under (codes "ldb") (This (Int (pos 1)) Bottom) Bottom

  abbrev b₂ : Values
  b₂ = Under (codes "target") (Written (target_name target) Bottom) b₁

  abbrev b₃ : Values
  b₃ = Under (codes "anchors") (Paired anchored Bottom) b₂

  abbrev b₄ : Values
  b₄ = Under (codes "structs") (Paired tagged Bottom) b₃

  abbrev b₅ : Values
  b₅ = Under (codes "objects") (This (Array a false) Bottom) b₄

  -- the top, and what is in the array of its units
  pub record TopShown (d : DictId) : Type 0 where
    pub is_top : IsTop s d target
    pub units : List PsObj
    pub holds : IsArray s is_top.units (reverse units)
    pub shows : Show s units made_units

  pub top_has : (d : DictId) (zs : List PsObj) → HasFields s d (pairs (top_values target anchored tagged made_units a) zs) → Show s zs (top_values target anchored tagged made_units a) → TopShown d
  top_has d zs has shows =
      let l₆ : Last s b₅ (codes "units") (Listed made_units Bottom) zs = last s b₅ (codes "units") (Listed made_units Bottom) zs shows in
      let l₅ : Last s b₄ (codes "objects") (This (Array a false) Bottom) l₆.ys = last s b₄ (codes "objects") (This (Array a false) Bottom) l₆.ys l₆.rest in
      let l₄ : Last s b₃ (codes "structs") (Paired tagged Bottom) l₅.ys = last s b₃ (codes "structs") (Paired tagged Bottom) l₅.ys l₅.rest in
      let l₃ : Last s b₂ (codes "anchors") (Paired anchored Bottom) l₄.ys = last s b₂ (codes "anchors") (Paired anchored Bottom) l₄.ys l₄.rest in
      let l₂ : Last s b₁ (codes "target") (Written (target_name target) Bottom) l₃.ys = last s b₁ (codes "target") (Written (target_name target) Bottom) l₃.ys l₃.rest in
      let l₁ : Last s Bottom (codes "ldb") (This (Int (pos 1)) Bottom) l₂.ys = last s Bottom (codes "ldb") (This (Int (pos 1)) Bottom) l₂.ys l₂.rest in
      let made : Fields = (codes "ldb", l₁.v) ∷ (codes "target", l₂.v) ∷ (codes "anchors", l₃.v) ∷ (codes "structs", l₄.v) ∷ (codes "objects", l₅.v) ∷ (codes "units", l₆.v) ∷ [] in
      let put : List ℕ → PsObj → Fields → Fields = λ name v fs. updated fs name v in
      let e₁ : pairs b₁ l₂.ys ≡ (codes "ldb", l₁.v) ∷ [] = l₁.pairs_are ∙ ap (put (codes "ldb") l₁.v) (ap (pairs Bottom) l₁.rest) in
      let e₂ : pairs b₂ l₃.ys ≡ (codes "ldb", l₁.v) ∷ (codes "target", l₂.v) ∷ [] = l₂.pairs_are ∙ ap (put (codes "target") l₂.v) e₁ in
      let e₃ : pairs b₃ l₄.ys ≡ (codes "ldb", l₁.v) ∷ (codes "target", l₂.v) ∷ (codes "anchors", l₃.v) ∷ [] = l₃.pairs_are ∙ ap (put (codes "anchors") l₃.v) e₂ in
      let e₄ : pairs b₄ l₅.ys ≡ (codes "ldb", l₁.v) ∷ (codes "target", l₂.v) ∷ (codes "anchors", l₃.v) ∷ (codes "structs", l₄.v) ∷ [] = l₄.pairs_are ∙ ap (put (codes "structs") l₄.v) e₃ in
      let e₅ : pairs b₅ l₆.ys ≡ (codes "ldb", l₁.v) ∷ (codes "target", l₂.v) ∷ (codes "anchors", l₃.v) ∷ (codes "structs", l₄.v) ∷ (codes "objects", l₅.v) ∷ [] = l₅.pairs_are ∙ ap (put (codes "objects") l₅.v) e₄ in
      let same : pairs (top_values target anchored tagged made_units a) zs ≡ made = l₆.pairs_are ∙ ap (put (codes "units") l₆.v) e₅ in
      let are : AreFields s (entries_of s d) made = subst (λ (fs : Fields). AreFields s (entries_of s d) fs) same has.are in
      record {
        units = l₆.shows.1;
        holds = l₆.shows.4;
        shows = l₆.shows.5;
        is_top = record {
          version = fields_value s (entries_of s d) made (codes "ldb") are ∙ ap Some (head_is l₁.v (Int (pos 1)) l₁.shows.0 l₁.shows.1);
          name = l₂.shows.0;
          is_target = fields_value s (entries_of s d) made (codes "target") are ∙ ap Some (head_is l₂.v (Str l₂.shows.0 false) l₂.shows.1 l₂.shows.2);
          told = l₂.shows.3;
          anchors = l₃.shows.0;
          has_anchors = fields_value s (entries_of s d) made (codes "anchors") are ∙ ap Some (head_is l₃.v (Dict l₃.shows.0) l₃.shows.2 l₃.shows.3);
          structs = l₄.shows.0;
          has_structs = fields_value s (entries_of s d) made (codes "structs") are ∙ ap Some (head_is l₄.v (Dict l₄.shows.0) l₄.shows.2 l₄.shows.3);
          units = l₆.shows.0;
          has_units = fields_value s (entries_of s d) made (codes "units") are ∙ ap Some (head_is l₆.v (Array l₆.shows.0 false) l₆.shows.2 l₆.shows.3);
        };
      }

-- ---- the units

module _ (p : Program) (fs : List FunctionRow) (s : StoreState) where
  -- what is shown of them, the last one first
  record UnitsShown (zs : List PsObj) (us : List UnitRow) (vs : Values) : Type 0 where
    pub front : List PsObj
    pub back : List PsObj
    pub are : zs ≡ front ++ back
    pub shows : Show s back vs
    pub units : AreDeferred p fs s (reverse front) us

  units_shown : (us : List UnitRow) (zs : List PsObj) (vs : Values) → Show s zs (after (units p fs us) vs) → UnitsShown zs us vs
  units_shown [] zs vs h = record { front = []; back = zs; are = refl; shows = h; units = tt }
  units_shown (u ∷ us) zs vs h =
      let parts : Values = Runs (render (deferred p fs u)) (Written u.file Bottom) in
      let r : UnitsShown zs us (Entry new_unit parts vs) = units_shown us zs (Entry new_unit parts vs) h in
      let e = r.shows in
      let t : StringId = e.8.0 in
      let file : PsObj = Str e.8.4.0 false in
      let two : e.1 ≡ Str t true ∷ file ∷ [] = e.8.2 ∙ ap (λ (l : List PsObj). Str t true ∷ l) (e.8.4.2 ∙ ap (λ (l : List PsObj). file ∷ l) e.8.4.4) in
      let all : Fields = (codes "functions", Str t true) ∷ (codes "file", file) ∷ [] in
      let same : e.3 ≡ all = e.6 ∙ ap (filled [] (codes "functions" ∷ codes "file" ∷ [])) two in
      let opened = e.7 in
      let x : PsObj = Dict e.0 in
      let has : HasFields s (in_table opened.0) all = subst (λ (d : DictId). HasFields s d all) opened.1 (subst (λ (f : Fields). HasFields s e.0 f) same e.5) in
      let turned : reverse (r.front ++ x ∷ []) ≡ x ∷ reverse r.front = reverse-append r.front (x ∷ []) in
      record {
        front = r.front ++ x ∷ [];
        back = e.2;
        are = r.are ∙ ap (λ (l : List PsObj). r.front ++ l) e.4 ∙ sym (append_assoc r.front (x ∷ []) e.2);
        shows = e.9;
        units = subst (λ (l : List PsObj). AreDeferred p fs s l (u ∷ us)) (sym turned) ((opened.0, t, ap Dict opened.1, record { file = file; fields = has; text = e.8.3 }), r.units);
      }

  pub units_left_in : (us : List UnitRow) (zs : List PsObj) → Show s zs (after (units p fs us) Bottom) → AreDeferred p fs s (reverse zs) us
  units_left_in us zs h =
      let r : UnitsShown zs us Bottom = units_shown us zs Bottom h in
      let whole : zs ≡ r.front = r.are ∙ ap (λ (l : List PsObj). r.front ++ l) r.shows ∙ append-nil r.front in
      subst (λ (l : List PsObj). AreDeferred p fs s (reverse l) us) (sym whole) r.units

-- ---- what is known

module _ (index : ℕ) (ds : List DictId) (pr : Printers) where
  abbrev all : List DictId
  all = in_table index ∷ ds

  -- the array of the objects and that of the structs
  pub record Parts (s : StoreState) (b : ℕ) (p : Program) (at : Placement) : Type 0 where
    pub objects : ArrayId
    pub structs : List PsObj
    pub are : AreStructs s b structs p.defs
    pub knows : Knows s all (top p at objects structs)

  pub parts : (s : StoreState) (n b : ℕ) (p : Program) (at : Placement) → Knowing s index ds n (with_objects pr b (length p.objects) p.defs) → AllByRecursion (RunsStruct p.defs) p.defs → length p.defs ≤ 40000
      → AllByRecursion (λ r. r.1 < 2 ^ 32) at.anchors → length at.anchors ≤ 40000 → AllByRecursion (RunsUnit p at.functions) p.units → length p.units ≤ 90000 → Parts s b p at
  parts s n b p at knowing small few_defs words few_anchors runs few_units =
      let ws = with_objects pr b (length p.objects) p.defs in
      let w : HasSense s all (codes "NewUnit") (Called unit_body) = sense_is s all ws (codes "NewUnit") (Called unit_body) knowing.have refl in
      let f : HasSense s all (codes "structs") (Structs b p.defs) = sense_is s all ws (codes "structs") (Structs b p.defs) knowing.have refl in
      let o : HasSense s all (codes "objects") (Objects (length p.objects)) = sense_is s all ws (codes "objects") (Objects (length p.objects)) knowing.have refl in
      let means : Means s all (codes "NewUnit") (Does unit_body) = (w.2.0, w.1 ∙ ap Some w.2.1, w.2.2, w.2.3) in
      let a : ArrayId = o.2.0 in
      let xs : List PsObj = f.2.1 in
      let are : AreStructs s b xs p.defs = f.2.4 in
      let few_in : fields_in (anchors 0 at.anchors) ≤ 500000 = let e = anchors_in 0 at.anchors in omega arith in
      let few_tags : fields_in (tags 0 p.defs xs) ≤ 500000 = let e = tags_in s b 0 p.defs xs are in omega arith in
      let few_left : left_by (units p at.functions p.units) ≤ 1000000 = let e = units_left p at.functions p.units in omega arith in
      let known_anchors = anchors_known s all 0 at.anchors (omega arith) words in
      let known_tags = tags_known s b all f.2.0 xs (f.1 ∙ ap Some f.2.2) f.2.3 p.defs 0 p.defs xs (omega arith) (λ j. ap (slice_get xs) (let e : 0 + j ≡ j = omega arith in e)) are small in
      record {
        objects = a;
        structs = xs;
        are = are;
        knows = (
          tt,
          omega arith,
          (
            lit_ldb,
            refl,
            ((refl, tt), tt),
            (
              lit_target,
              refl,
              (((target_short at.target).0, tt), tt),
              (
                lit_anchors,
                refl,
                (anchors_alone 0 at.anchors, few_in, known_anchors, tt),
                (
                  lit_structs,
                  refl,
                  (tags_alone 0 p.defs xs, few_tags, known_tags, tt),
                  (
                    lit_objects,
                    refl,
                    (objects_fine, Array a false, o.1 ∙ ap Some o.2.2, itself (Array a false) tt, tt),
                    (lit_units, refl, (few_left, units_known p at.functions s all means p.units runs, tt), tt),
                  ),
                ),
              ),
            ),
          ),
          tt,
        );
      }
