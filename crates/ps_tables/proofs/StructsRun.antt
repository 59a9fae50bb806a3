-- The structs of a table are made, and their members put.
use Rattle.std.proofs.Common.{◌≡◌, ℕ, ℤ, pos, suc, ◌+◌, ◌*◌, ◌<◌, ◌≤◌, ◌^◌, true, false, Option, Some, None, Result, Ok, Err, List, [], ◌∷◌, ◌++◌, length, map, reverse, codes, slice_get, refl, sym, ap, ◌∙◌, subst, arith, append_assoc, append-nil}
use Rattle.std.proofs.lemmas.List.{reverse-append}
use Rattle.std.specs.List.{AllByRecursion}
use Rattle.ldb_words.specs.Word.{signed}
use Rattle.ps_scan.specs.Bytes.{is_regular, is_white, is_special}
use Rattle.c_tree.specs.declared.types.StructDef.{StructDef}
use Rattle.c_tree.specs.declared.types.Member.{Member}
use Rattle.ps_store.specs.declared.object.PsObj.{PsObj}
use Rattle.ps_store.specs.declared.object.PsObj.TheVariants.{Int, Name, Array, Dict, Op}
use Rattle.ps_store.specs.declared.object.DictId.{DictId}
use Rattle.ps_store.specs.declared.object.StringId.{StringId}
use Rattle.ps_store.specs.declared.object.ArrayId.{ArrayId}
use Rattle.ps_store.specs.declared.object.Pair.{Pair}
use Rattle.ps_store.specs.declared.key.Key.{Key}
use Rattle.ps_store.specs.Operators.{operator_number}
use Rattle.ps_store.specs.StoreState.{StoreState}
use Rattle.ps_store.specs.Store.{entries_of, text_units}
use Rattle.ps_step.specs.Keys.{named}
use Rattle.ps_step.specs.declared.item.Item.{Item}
use Rattle.ps_text.specs.Code.{Code, Stop, Num, Word, Lit, Text, render}
use Rattle.ps_text.specs.Spells.{Fine, units}
use Rattle.ps_text.proofs.Checks.{fine}
use Rattle.ps_terms.specs.Machine.{Does}
use Rattle.ps_terms.specs.Stands.{Means}
use Rattle.ps_terms.specs.Printing.{further}
use Rattle.ps_emit.specs.Terms.{◌⋯◌}
use Rattle.ps_emit.specs.Types.{each_struct, structs_code}
use Rattle.ps_tables.specs.Dictionaries.{Fields, AreFields, filled, joined}
use Rattle.ps_tables.specs.Making.{HasFields}
use Rattle.ps_tables.specs.Later.{StandsAt}
use Rattle.ps_tables.specs.Makers.{body, Ready}
use Rattle.ps_tables.specs.TableWords.{new_struct}
use Rattle.ps_tables.specs.Types.{of_arrays}
use Rattle.ps_tables.specs.Pieces.{Piece, End, Number, Literal, Row, Field, code, cost, steps, left_by, Knows, HasRoom, Values, Bottom, This, Named, Entry, Listed, after, Show}
use Rattle.ps_tables.specs.TablePieces.{structs}
use Rattle.ps_tables.specs.Runnable.{RunsStruct}
use Rattle.ps_tables.specs.Defined.{in_table}
use Rattle.ps_tables.specs.Senses.{Kind, Called, Structs, IsStruct, AreStructs, IsOf, HasSense, Knowing}
use Rattle.ps_tables.specs.Reached.{Reaches}
use Rattle.ps_tables.specs.Tabled.{structs_made}
use Rattle.ps_tables.specs.WordsKnown.{Printers, printer_senses, word_senses, struct_body}
use Rattle.ps_tables.specs.PartsKnown.{with_structs}
use Rattle.ps_tables.proofs.Types.{value_of, fields_value}
use Rattle.ps_tables.proofs.TypeTexts.{small_signed, small_fine, structs_fine}
use Rattle.ps_tables.proofs.TablePieces.{assoc}
use Rattle.ps_tables.proofs.Tokens.{head_is}
use Rattle.ps_tables.proofs.Copies.{fields_length}
use Rattle.ps_tables.proofs.MembersRun.{further_is}
use Rattle.ps_tables.proofs.Sequence.{defined_by}
use Rattle.ps_tables.proofs.WordsKnown.{sense_is, free_by}

new_struct_fine : Fine (Word (codes "NewStruct") Stop)
unfolding is_white is_special is_regular
new_struct_fine = fine (Word (codes "NewStruct") Stop) refl

lit_structs : Fine (Lit (codes "structs") Stop)
unfolding is_white is_special is_regular
lit_structs = fine (Lit (codes "structs") Stop) refl

free_structs : operator_number (codes "structs") ≡ None
unfolding operator_number
free_structs = refl

-- ---- the array of the structs

module _ (dict : DictId) (kind printer : PsObj) where
  abbrev pub each : List StructDef → Piece
  each defs = structs dict (of_arrays kind printer) defs

  each_is : (defs : List StructDef) (k : Code) → code (each defs) k ≡ (each_struct defs ⋯ k)
  each_is [] k = refl
  each_is (d ∷ defs) k = ap (λ c. Lit d.tag (Num (signed d.size) (Word (codes "NewStruct") c))) (each_is defs k)

  pub structs_are : (defs : List StructDef) (k : Code) → Lit (codes "structs") (code (Row (each defs) End) (Word (codes "def") k)) ≡ (structs_code defs ⋯ k)
  structs_are defs k =
      ap (λ c. Lit (codes "structs") (Word (codes "[") c))
      (each_is defs (Word (codes "]") (Word (codes "def") k))
      ∙ sym (assoc (each_struct defs ⋯ Word (codes "]") Stop) (Word (codes "def") Stop) k ∙ assoc (each_struct defs) (Word (codes "]") Stop) (Word (codes "def") k)))

  -- units and steps for each
  pub each_left : (defs : List StructDef) → left_by (each defs) ≡ length defs
  each_left [] = refl
  each_left (d ∷ defs) = ap suc (each_left defs)

  each_room : (defs : List StructDef) (n : ℕ) → n + length defs + 112 ≤ 100000 → HasRoom n (each defs)
  each_room [] n h = omega arith
  each_room (d ∷ defs) n h = (omega arith, each_room defs (suc n) (omega arith))

  each_knows : (s : StoreState) (ds : List DictId) (all defs : List StructDef) → AllByRecursion (RunsStruct all) defs → Means s ds (codes "NewStruct") (Does struct_body) → Ready s ds (new_struct dict (of_arrays kind printer)) → Knows s ds (each defs)
  each_knows s ds all [] h means ready = tt
  each_knows s ds all (d ∷ defs) h means ready =
      (new_struct_fine, means, ready, refl, omega arith, ((h.0.regular, h.0.short, tt), (small_fine d.size h.0.size, tt)), each_knows s ds all defs h.1 means ready)

  -- what is shown of them
  record Split (s : StoreState) (zs : List PsObj) (defs : List StructDef) (vs : Values) : Type 0 where
    pub front : List PsObj
    pub back : List PsObj
    pub are : zs ≡ front ++ back
    pub shows : Show s back vs
    pub structs : AreStructs s 4 (reverse front) defs

  parts : StructDef → Values
  parts d = after (Literal d.tag (Number (signed d.size) End)) Bottom

  struct_shown : (s : StoreState) (d : StructDef) (zs : List PsObj) (vs : Values) → Show s zs (Entry (new_struct dict (of_arrays kind printer)) (This (Int (signed d.size)) (Named d.tag Bottom)) vs)
      → (x : PsObj) × (ys : List PsObj) × (zs ≡ x ∷ ys) × IsStruct s 4 x d × Show s ys vs
  struct_shown s d zs vs h =
      let e : DictId = h.0 in
      let ws : List PsObj = h.1 in
      let name : StringId = h.8.3.0 in
      let two : ws ≡ Int (signed d.size) ∷ Name name false ∷ [] = h.8.1 ∙ ap (λ l. Int (signed d.size) ∷ l) (h.8.3.2 ∙ ap (λ l. Name name false ∷ l) h.8.3.4) in
      let made : Fields = filled (joined [] (of_arrays kind printer)) (codes "size" ∷ codes "tag" ∷ []) (Int (signed d.size) ∷ Name name false ∷ []) in
      let same : h.3 ≡ made = h.6 ∙ ap (filled (joined [] (of_arrays kind printer)) (codes "size" ∷ codes "tag" ∷ [])) two in
      let are : AreFields s (entries_of s e) made = subst (λ (fs : Fields). AreFields s (entries_of s e) fs) same h.5.are in
      let long : length (entries_of s e) ≡ length made = fields_length s (entries_of s e) made are in (
        Dict e,
        h.2,
        h.4,
        record {
          dict = e;
          is = refl;
          opened = h.7;
          there = h.5.is_there;
          size = fields_value s (entries_of s e) made (codes "size") are;
          small = omega arith;
          tag = Name name false;
          tagged = fields_value s (entries_of s e) made (codes "tag") are;
        },
        h.9,
      )

  split : (s : StoreState) (defs : List StructDef) (zs : List PsObj) (vs : Values) → Show s zs (after (each defs) vs) → Split s zs defs vs
  split s [] zs vs h = record { front = []; back = zs; are = refl; shows = h; structs = tt }
  split s (d ∷ defs) zs vs h =
      let e : Values = Entry (new_struct dict (of_arrays kind printer)) (This (Int (signed d.size)) (Named d.tag Bottom)) vs in
      let r : Split s zs defs e = split s defs zs e h in
      let one : (x : PsObj) × (ys : List PsObj) × (r.back ≡ x ∷ ys) × IsStruct s 4 x d × Show s ys vs = struct_shown s d r.back vs r.shows in
      let x : PsObj = one.0 in
      let turned : reverse (r.front ++ x ∷ []) ≡ x ∷ reverse r.front = reverse-append r.front (x ∷ []) in
      record {
        front = r.front ++ x ∷ [];
        back = one.1;
        are = r.are ∙ ap (λ l. r.front ++ l) one.2 ∙ sym (append_assoc r.front (x ∷ []) one.1);
        shows = one.4;
        structs = subst (λ (l : List PsObj). AreStructs s 4 l (d ∷ defs)) (sym turned) (one.3, r.structs);
      }

  structs_shown : (s : StoreState) (defs : List StructDef) (x : PsObj) → Show s (x ∷ []) (after (Row (each defs) End) Bottom) → IsOf s x (Structs 4 defs)
  structs_shown s defs x h =
      let r : Split s h.1 defs Bottom = split s defs h.1 Bottom h.5 in
      let whole : h.1 ≡ r.front = r.are ∙ ap (λ l. r.front ++ l) r.shows ∙ append-nil r.front in
      (h.0, reverse h.1, head_is x (Array h.0 false) h.2 h.3, h.4, subst (λ (l : List PsObj). AreStructs s 4 (reverse l) defs) (sym whole) r.structs)

each_cost : (dict : DictId) (kind printer : PsObj) (defs : List StructDef) → cost (each dict kind printer defs) ≡ structs_made defs
each_cost dict kind printer [] = refl
each_cost dict kind printer (d ∷ defs) = let e = each_cost dict kind printer defs in omega arith

each_steps : (dict : DictId) (kind printer : PsObj) (defs : List StructDef) → steps (each dict kind printer defs) ≡ 19 * length defs
each_steps dict kind printer [] = refl
each_steps dict kind printer (d ∷ defs) = let e = each_steps dict kind printer defs in omega arith

-- ---- the definition

module _ (index : ℕ) (ds : List DictId) (t : StringId) (under : List Item) (items_fit : length under + 100 ≤ 1000) (post : List ℕ) (p : Printers) (defs : List StructDef)
    (small : AllByRecursion (RunsStruct defs) defs) (few_defs : length defs ≤ 90000) where
  pub structs_reached : (k : Code) (n : ℕ) (s : StoreState) (at : ℕ) → Knowing s index ds n (word_senses ++ printer_senses p) → n < 900000 → s.table.units + s.command.units + (10 + length defs + structs_made defs) ≤ 8000000
      → StandsAt s t at (render (structs_code defs ⋯ k) ++ post) → Reaches index ds t under (4 + 19 * length defs) (10 + length defs + structs_made defs) (n + 1) (with_structs p 4 defs) s at (render k ++ post)
  structs_reached k n s at knowing few units_fit here =
      let all : List DictId = in_table index ∷ ds in
      let w : HasSense s all (codes "NewStruct") (Called struct_body) = sense_is s all (word_senses ++ printer_senses p) (codes "NewStruct") (Called struct_body) knowing.have refl in
      let f : HasSense s all (codes "StructType") Kind = sense_is s all (word_senses ++ printer_senses p) (codes "StructType") Kind knowing.have refl in
      let dict : DictId = f.2.0 in
      let kind : PsObj = f.2.1 in
      let printer : PsObj = f.2.2 in
      let value : Piece = Row (each dict kind printer defs) End in
      let means : Means s all (codes "NewStruct") (Does struct_body) = (w.2.0, w.1 ∙ ap Some w.2.1, w.2.2, w.2.3) in
      let ready : Ready s all (new_struct dict (of_arrays kind printer)) = (f.1 ∙ ap Some f.2.3, f.2.4, (omega arith, (omega arith, tt)), omega arith) in
      let size : cost (each dict kind printer defs) ≡ structs_made defs = each_cost dict kind printer defs in
      let left : left_by (each dict kind printer defs) ≡ length defs = each_left dict kind printer defs in
      let number : further (steps (Field (codes "structs") value End)) 1 ≡ 4 + 19 * length defs =
      ap (λ m. suc (suc (further (further (further m 1) 0) 1))) (each_steps dict kind printer defs)
      ∙ ap (λ m. suc (suc (further (further m 0) 1))) (further_is (19 * length defs) 1) ∙ ap (λ m. suc (suc (further m 1))) (further_is (19 * length defs + 1) 0) ∙ ap (λ m. suc (suc m)) (further_is (19 * length defs + 1 + 0) 1) ∙ omega arith in
      let units_of : cost (Field (codes "structs") value End) + units (Word (codes "def") Stop) + 1 ≡ 10 + length defs + structs_made defs = omega arith in
      let r : Reaches index ds t under (further (steps (Field (codes "structs") value End)) 1) (cost (Field (codes "structs") value End) + units (Word (codes "def") Stop) + 1) (n + 1) (with_structs p 4 defs) s at (render k ++ post) =
      defined_by index ds t under items_fit post (codes "structs") value (Structs 4 defs) k n (word_senses ++ printer_senses p) s at knowing (omega arith) lit_structs refl (each_room dict kind printer defs 2 (omega arith), omega arith)
      (omega arith, each_knows dict kind printer s all defs defs small means ready, tt) free_structs refl refl (free_by (codes "structs") (word_senses ++ printer_senses p) refl) (λ s' x. structs_shown dict kind printer s' defs x)
      (subst (λ (m : ℕ). s.table.units + s.command.units + m ≤ 8000000) (sym units_of) units_fit) (subst (λ (c : Code). StandsAt s t at (render c ++ post)) (sym (structs_are dict kind printer defs k)) here) in
      subst (λ (m : ℕ). Reaches index ds t under m (10 + length defs + structs_made defs) (n + 1) (with_structs p 4 defs) s at (render k ++ post)) number
      (subst (λ (m : ℕ). Reaches index ds t under (further (steps (Field (codes "structs") value End)) 1) m (n + 1) (with_structs p 4 defs) s at (render k ++ post)) units_of r)
