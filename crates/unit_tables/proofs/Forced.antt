-- The functions of a unit are run at their first use.
use Rattle.std.proofs.Common.{◌≡◌, ◌≢◌, ℕ, suc, ◌+◌, ◌<◌, ◌≤◌, Bool, true, false, bytes_eq, ◌&&◌, ◌==◌, is_some, if◌then◌else◌, Option, Some, None, Result, Ok, Err, List, [], ◌∷◌, length, reverse, codes, slice_index_or, slice_set, refl, sym, ap, ◌∙◌, subst, arith, eq-eqb, ne_eqb}
use Rattle.std.specs.Prelude.{option_map}
use Rattle.std.specs.Cmp.Lexicographic.{bytes_decides}
use Rattle.std.proofs.lemmas.List.{get_or-set_same, get_or-set_other, length-set}
use Rattle.obj_file.specs.declared.object.FunctionRow.{FunctionRow as Placed}
use Rattle.c_tree.specs.declared.rows.Program.{Program}
use Rattle.c_tree.specs.declared.rows.UnitRow.{UnitRow}
use Rattle.c_tree.specs.Layout.{struct_size_of}
use Rattle.ps_store.specs.declared.object.Part.{Part}
use Rattle.ps_store.specs.declared.object.Part.TheVariants.{Table, Command}
use Rattle.ps_store.specs.declared.object.Mark.{Mark}
use Rattle.ps_store.specs.declared.object.PsObj.{PsObj}
use Rattle.ps_store.specs.declared.object.PsObj.TheVariants.{Str, Array, Op}
use Rattle.ps_store.specs.declared.object.DictId.{DictId}
use Rattle.ps_store.specs.declared.object.StringId.{StringId}
use Rattle.ps_store.specs.declared.object.Pair.{Pair}
use Rattle.ps_store.specs.declared.key.Key.{Key}
use Rattle.ps_store.specs.declared.key.Key.TheVariants.{Name as NameKey, Int as IntKey, Bool as TruthKey}
use Rattle.ps_store.specs.Key.{same_key}
use Rattle.ps_store.specs.Entries.{value_at, with_value, replaced}
use Rattle.ps_store.specs.Operators.{operator_number}
use Rattle.ps_store.specs.StoreState.{StoreState}
use Rattle.ps_store.specs.Store.{held, entries_of}
use Rattle.ps_store.specs.Cut.{mark_of}
use Rattle.ps_step.specs.declared.fault.PsFault.{PsFault}
use Rattle.ps_step.specs.declared.fault.PsFault.TheVariants.{NoMemory}
use Rattle.ps_step.specs.declared.item.Item.TheVariants.{Object, Text as TextItem}
use Rattle.ps_step.specs.declared.machine.PsCore.{PsCore}
use Rattle.ps_step.specs.Compare.{same_part}
use Rattle.ps_step.specs.Composites.{same_dict}
use Rattle.ps_step.specs.Keys.{or_else, found_in, named}
use Rattle.ps_run.specs.Runs.{Answer, Operates}
use Rattle.ps_run.proofs.Apart.{finished}
use Rattle.ps_text.specs.Code.{render}
use Rattle.ps_terms.specs.Stands.{core}
use Rattle.ps_terms.specs.Printing.{further}
use Rattle.ps_emit.specs.Functions.{deferred}
use Rattle.ps_force.specs.Forcing.{Forced, apart, closing, forced_by, placing, Forces}
use Rattle.ps_tables.specs.Dictionaries.{Fields, AreFields}
use Rattle.ps_tables.specs.Making.{AreThere}
use Rattle.ps_tables.specs.Senses.{Sense, Stands, Sized, Kind, Variables, Called, Structs, Objects, Senses, IsOf, HaveSenses}
use Rattle.ps_tables.specs.WordsKnown.{word_senses}
use Rattle.ps_tables.specs.Later.{IsThere}
use Rattle.ps_tables.specs.Defined.{in_table}
use Rattle.ps_tables.specs.Left.{IsDeferred}
use Rattle.ps_tables.proofs.Going.{taken}
use Rattle.ps_tables.proofs.Known.{dict_is}
use Rattle.ps_tables.proofs.Kept.{Same, kept_string, kept_array}
use Rattle.ps_tables.proofs.Types.{value_of, fields_value}
use Rattle.ps_tables.proofs.News.{fields_kept}
use Rattle.unit_tables.specs.Kept.{Elsewhere, Lacks}
use Rattle.unit_tables.specs.Conditions.{RunsUnits, FunctionsFollowed}
use Rattle.unit_tables.specs.Functions.{function_rows, unit_steps, unit_made}
use Rattle.unit_tables.specs.Units.{Furnished, LeavesFunctions}
use Rattle.unit_tables.specs.Settled.{HasFunctions, Gives}
use Rattle.unit_tables.proofs.Elsewhere.{body_kept, sized_kept, named_kept, begin_kept, functions_kept}
use Rattle.unit_tables.proofs.Units.{unit_leaves}

-- ---- an entry that is settled

module _ (s : StoreState) (i : ℕ) (there : i < length s.table.dicts) (key : Key) (v : PsObj) (closed : Mark) (part : Part) where
  abbrev D : DictId
  D = in_table i

  abbrev pub settled : StoreState
  settled = record {
    table = record s.table { dicts = slice_set s.table.dicts i (replaced (entries_of s D) key v) };
    command = s.command;
    part = part;
    closed = closed;
    base = s.base;
    top = s.top;
  }

  other_entries : (e : DictId) → same_dict e D ≡ false → entries_of settled e ≡ entries_of s e
  other_entries e apart = by e.part e.index apart
    where
      by : (p : Part) (j : ℕ) → (same_part p Table && j == i) ≡ false → slice_index_or (held settled p).dicts j [] ≡ slice_index_or (held s p).dicts j []
      by Table j apart = get_or-set_other s.table.dicts i j (replaced (entries_of s D) key v) [] (λ same. absurd (let e : (j == i) ≡ true = eq-eqb _ _ same in let f : true ≡ false = sym e ∙ apart in cc))
      by Command j apart = refl

  other_there : (p : Part) (j : ℕ) → j < length (held s p).dicts → j < length (held settled p).dicts
  other_there Table j h = let e : length (slice_set s.table.dicts i (replaced (entries_of s D) key v)) ≡ length s.table.dicts = length-set s.table.dicts i (replaced (entries_of s D) key v) in omega arith
  other_there Command j h = h

  same_rest : Same s settled
  same_rest = record { arrays = arrays_same; strings = strings_same }
    where
      arrays_same : (p : Part) → (held settled p).arrays ≡ (held s p).arrays
      arrays_same Table = refl
      arrays_same Command = refl

      strings_same : (p : Part) → (held settled p).strings ≡ (held s p).strings
      strings_same Table = refl
      strings_same Command = refl

  pub elsewhere_settled : Elsewhere D s settled
  elsewhere_settled = record {
    strings = kept_string s settled same_rest;
    arrays = kept_array s settled same_rest;
    dicts = λ e apart h. (other_there e.part e.index h, other_entries e apart);
  }

  replaced_found : (es : List (Key × Pair)) → is_some (value_at es key) ≡ true → value_at (replaced es key v) key ≡ Some v
  replaced_found [] h = absurd cc
  replaced_found (e ∷ es) h = by (replaced_found es) (same_key key e.0) refl h
    where
      by : (is_some (value_at es key) ≡ true → value_at (replaced es key v) key ≡ Some v) → (b : Bool) → same_key key e.0 ≡ b → is_some (if b then Some e.1.value else value_at es key) ≡ true
          → value_at (if b then with_value e v ∷ es else e ∷ replaced es key v) key ≡ Some v
      by rest true f h = ap (λ (c : Bool). if c then Some v else value_at es key) f
      by rest false f h = ap (λ (c : Bool). if c then Some e.1.value else value_at (replaced es key v) key) f ∙ rest h

  pub settled_found : (old : PsObj) → value_at (entries_of s D) key ≡ Some old → value_at (entries_of settled D) key ≡ Some v
  settled_found old has =
      ap (λ (es : List (Key × Pair)). value_at es key) (get_or-set_same s.table.dicts i (replaced (entries_of s D) key v) [] there) ∙ replaced_found (entries_of s D) (ap is_some has)

-- under other names a dictionary has what it had
module _ (name : List ℕ) (v : PsObj) (other : List ℕ) (apart : bytes_eq other name ≡ false) where
  replaced_apart : (es : List (Key × Pair)) → value_at (replaced es (NameKey name) v) (NameKey other) ≡ value_at es (NameKey other)
  replaced_apart [] = refl
  replaced_apart (e ∷ es) = by (replaced_apart es) (same_key (NameKey name) e.0) refl
    where
      far : (k : Key) → same_key (NameKey name) k ≡ true → same_key (NameKey other) k ≡ false
      far (NameKey n) h = subst (λ (x : List ℕ). bytes_eq other x ≡ false) ((bytes_decides name n).0 h) apart
      far (IntKey i) h = absurd cc
      far (TruthKey b) h = absurd cc

      by : value_at (replaced es (NameKey name) v) (NameKey other) ≡ value_at es (NameKey other) → (b : Bool) → same_key (NameKey name) e.0 ≡ b
          → value_at (if b then with_value e v ∷ es else e ∷ replaced es (NameKey name) v) (NameKey other) ≡ value_at (e ∷ es) (NameKey other)
      by rest true f = ap (λ (c : Bool). if c then Some v else value_at es (NameKey other)) (far e.0 f) ∙ sym (ap (λ (c : Bool). if c then Some e.1.value else value_at es (NameKey other)) (far e.0 f))
      by rest false f = ap (λ (o : Option PsObj). if same_key (NameKey other) e.0 then Some e.1.value else o) rest

-- ---- the run

module _ {Dialect : Type 0} (Op : Operates Dialect) (program : Program) (fs : List Placed) (is_unit : RunsUnits program fs) where
  abbrev KEY : Key
  KEY = NameKey (codes "functions")

  no_memory : (mark : Mark) (d : DictId) (a : Answer) (operands : List PsObj) (s : StoreState) (result : Result PsObj PsFault) → (forced_by mark d KEY a operands s).0 ≡ result → result ≢ Err NoMemory → a ≢ Err NoMemory
  no_memory mark d a operands s result given other e = other (sym given ∙ ap (λ (x : Answer). (forced_by mark d KEY x operands s).0) e)

  pub forced_gives : (u : UnitRow) (c c' : PsCore) (index left m : ℕ) (t : StringId) (dialect dialect' : Dialect) (result : Result PsObj PsFault) → FunctionsFollowed program fs 0 u.functions → length u.functions ≤ 40000
      → Furnished program (apart c).store (reverse c.store.base) → IsDeferred program fs u c.store index t → c.store.table.units + c.store.command.units + unit_made program fs u ≤ 8000000
      → Forces Op (further (suc (unit_steps program fs u)) (suc left)) dialect c (in_table index) KEY (Str t true) result m dialect' c' → result ≢ Err NoMemory → Gives program fs u c index (suc left) dialect result m dialect' c'
  forced_gives u c c' index left m t dialect dialect' result followed few f unit room forces other =
      let D : DictId = in_table index in
      let s : StoreState = (apart c).store in
      let ds : List DictId = reverse c.store.base in
      let mark : Mark = mark_of c.store.table in
      let runs = forces.runs (no_memory mark D forces.answer forces.core.operands forces.core.store result forces.given other) in
      let l : LeavesFunctions program fs u (unit_steps program fs u) (unit_made program fs u) s ds t 0 = unit_leaves program fs is_unit ds t u s followed few f room (record { has = unit.text.has; bytes = unit.text.bytes }) in
      let x : PsObj = Array l.array false in
      let c₀ : PsCore = core s ds [] (Object (Str t true) ∷ []) in
      let c₁ : PsCore = core s ds [] (TextItem t 0 ∷ []) in
      let c₂ : PsCore = core l.store ds (x ∷ []) (TextItem t l.to ∷ []) in
      let c₃ : PsCore = core l.store ds (x ∷ []) [] in
      let last : PsCore = record forces.core { execution = runs.0 } in
      let e = finished Op left dialect c₂ c₃ forces.answer m dialect' last l.ends (taken Op (suc (unit_steps program fs u)) (suc left) m dialect dialect' c₀ c₂ last forces.answer (c₁, refl, l.takes) runs.1) in
      let came : forced_by mark D KEY forces.answer forces.core.operands forces.core.store ≡ forced_by mark D KEY (Ok tt) (x ∷ []) l.store =
      ap (λ (a : Answer). forced_by mark D KEY a forces.core.operands forces.core.store) e.answered ∙ ap (λ (k : PsCore). forced_by mark D KEY (Ok tt) k.operands k.store) e.core in
      let all : _ = (codes "functions", Str t true) ∷ (codes "file", unit.file) ∷ [] in
      let had : value_at (entries_of c.store D) KEY ≡ Some (Str t true) = fields_value c.store (entries_of c.store D) all (codes "functions") unit.fields.are in
      let kept = l.later.dicts D unit.fields.is_there in
      let has : value_at (entries_of l.store D) KEY ≡ Some (Str t true) = ap (λ (es : List (Key × Pair)). value_at es KEY) kept.1 ∙ had in
      let now : Forced = closing x (record l.store { table = record l.store.table { dicts = slice_set l.store.table.dicts index (replaced (entries_of l.store D) KEY x) } }) in
      let settles : forced_by mark D KEY forces.answer forces.core.operands forces.core.store ≡ now = came ∙ ap (λ (o : Option PsObj). placing mark D KEY x o l.store) has in
      let s₁ : StoreState = settled l.store index kept.0 KEY x (mark_of now.1.table) c.store.part in
      let store_is : c'.store ≡ s₁ = ap (λ (k : PsCore). k.store) forces.after ∙ ap (λ (g : Forced). record g.1 { part = c.store.part }) settles in
      let before : Elsewhere D c.store l.store = record { strings = λ a b h. l.later.strings a b (record { has = h.has; bytes = h.bytes }); arrays = λ a b h. l.later.arrays a b (record { has = h.has; items = h.items }); dicts = λ d apart_d h. l.later.dicts d h } in
      let after : Elsewhere D l.store s₁ = elsewhere_settled l.store index kept.0 KEY x (mark_of now.1.table) c.store.part in
      let lacks : Lacks l.store D = record {
        kind = ap (λ (es : List (Key × Pair)). value_at es (NameKey (codes "kind"))) kept.1 ∙ fields_value c.store (entries_of c.store D) all (codes "kind") unit.fields.are;
        line = ap (λ (es : List (Key × Pair)). value_at es (NameKey (codes "line"))) kept.1 ∙ fields_value c.store (entries_of c.store D) all (codes "line") unit.fields.are;
        name = ap (λ (es : List (Key × Pair)). value_at es (NameKey (codes "name"))) kept.1 ∙ fields_value c.store (entries_of c.store D) all (codes "name") unit.fields.are;
        size = ap (λ (es : List (Key × Pair)). value_at es (NameKey (codes "size"))) kept.1 ∙ fields_value c.store (entries_of c.store D) all (codes "size") unit.fields.are;
      } in
      let functions : HasFunctions program fs u c.store s₁ index x = record {
        array = l.array;
        is = refl;
        has = settled_found l.store index kept.0 KEY x (mark_of now.1.table) c.store.part (Str t true) has;
        items = l.items;
        holds = after.arrays l.array l.items l.holds;
        are = functions_kept D l.store s₁ after lacks program fs l.items (function_rows program fs u.functions) l.are;
        elsewhere = record {
          strings = λ a b h. after.strings a b (before.strings a b h);
          arrays = λ a b h. after.arrays a b (before.arrays a b h);
          dicts = λ d apart_d h. let one = before.dicts d apart_d h in let two = after.dicts d apart_d one.0 in (two.0, two.1 ∙ one.1);
        };
        own = subst (λ (n : ℕ). index < n) (sym (length-set l.store.table.dicts index (replaced (entries_of l.store D) KEY x))) kept.0;
        names = λ name apart_name.
            ap (λ (es : List (Key × Pair)). value_at es (NameKey name)) (get_or-set_same l.store.table.dicts index (replaced (entries_of l.store D) KEY x) [] kept.0)
            ∙ replaced_apart (codes "functions") x name apart_name (entries_of l.store D) ∙ ap (λ (es : List (Key × Pair)). value_at es (NameKey name)) kept.1;
        base = l.later.base;
        closed = refl;
        counted = l.later.counted;
      } in
      record {
        object = x;
        answer = sym forces.given ∙ ap (λ (g : Forced). g.0) settles;
        remains = e.left;
        dialect = e.dialect;
        functions = subst (λ (k : StoreState). HasFunctions program fs u c.store k index x) (sym store_is) functions;
      }

-- ---- what is left for the other units

-- senses that stay in a store that is closed
abbrev IsStill : Sense → Type 0
IsStill (Structs few defs) = ⊥
IsStill other = Unit {0}

abbrev AreStill : Senses → Type 0
AreStill [] = Unit {0}
AreStill (w ∷ ws) = IsStill w.1 × AreStill ws

words_still : AreStill word_senses
words_still = (tt, (tt, (tt, (tt, (tt, (tt, (tt, (tt, (tt, (tt, (tt, (tt, (tt, (tt, (tt, (tt, (tt, (tt, tt))))))))))))))))))

-- what is no operator's name may be found otherwise
abbrev OthersAreFound : (s s' : StoreState) → List DictId → Type 0
OthersAreFound s s' ds = (word : List ℕ) → bytes_eq word (codes "functions") ≡ false → found_in s' ds (NameKey word) ≡ found_in s ds (NameKey word)

free_functions : operator_number (codes "functions") ≡ None
unfolding operator_number
free_functions = refl

-- the words are others
abbrev AreOthers : Senses → Type 0
AreOthers [] = Unit {0}
AreOthers (w ∷ ws) = (bytes_eq w.0 (codes "functions") ≡ false) × AreOthers ws

words_other : AreOthers word_senses
words_other = (refl, (refl, (refl, (refl, (refl, (refl, (refl, (refl, (refl, (refl, (refl, (refl, (refl, (refl, (refl, (refl, (refl, (refl, tt))))))))))))))))))

module _ (changed : DictId) (s s' : StoreState) (kept : Elsewhere changed s s') (lacks : Lacks s changed) (ds : List DictId) (found : OthersAreFound s s' ds) (there : AreThere s' ds) where
  named_same : (word : List ℕ) → bytes_eq word (codes "functions") ≡ false → named s' ds word ≡ named s ds word
  named_same word apart = ap (λ (o : Option PsObj). or_else o (option_map (λ n. Op n) (operator_number word))) (found word apart)

  no_operator : (word : List ℕ) (n : ℕ) → operator_number word ≡ Some n → bytes_eq word (codes "functions") ≡ false
  no_operator word n e = by (bytes_eq word (codes "functions")) refl
    where
      by : (b : Bool) → bytes_eq word (codes "functions") ≡ b → b ≡ false
      by false h = refl
      by true h = let none : operator_number word ≡ None = ap operator_number ((bytes_decides word (codes "functions")).0 h) ∙ free_functions in absurd (let f : Some n ≡ None = sym e ∙ none in cc)

  is_of_kept : (x : PsObj) (sense : Sense) → IsStill sense → IsOf s x sense → IsOf s' x sense
  is_of_kept x (Stands y) still h = h
  is_of_kept x (Sized size) still h = (h.0, h.1, h.2, h.3, named_kept changed s s' kept lacks h.0 h.1 _ h.4)
  is_of_kept x Kind still h = (h.0, h.1, h.2, h.3, named_kept changed s s' kept lacks h.0 h.1 _ h.4)
  is_of_kept x Variables still h = (h.0, h.1, h.2, named_kept changed s s' kept lacks h.0 h.1 _ h.3)
  is_of_kept x (Called body) still h = let b = body_kept changed s s' kept body h.0 h.2 h.3 in (h.0, h.1, b.0, b.1)
  is_of_kept x (Structs few defs) still h = absurd still
  is_of_kept x (Objects count) still h = (h.0, h.1, h.2, kept.arrays h.0 h.1 h.3, begin_kept changed s s' kept lacks count h.1 h.4)

  senses_kept : (ws : Senses) → AreStill ws → AreOthers ws → HaveSenses s ds ws → HaveSenses s' ds ws
  senses_kept [] still others h = tt
  senses_kept (w ∷ ws) still others h = ((h.0.0, named_same w.0 others.0 ∙ h.0.1, is_of_kept h.0.0 w.1 still.0 h.0.2), senses_kept ws still.1 others.1 h.1)

  pub furnished_kept : (p : Program) → s'.part ≡ Table → s'.closed.dicts ≤ length s'.table.dicts → length s'.base ≤ length ds → Furnished p s ds → Furnished p s' ds
  furnished_kept p part closed base f = record {
    making = record { part = part; closed = closed; there = there; operators = λ name n e. named_same name (no_operator name n e) ∙ f.making.operators name n e };
    have = senses_kept word_senses words_still words_other f.have;
    no_kind = named_same (codes "kind") refl ∙ f.no_kind;
    no_tag = named_same (codes "tag") refl ∙ f.no_tag;
    structs = record {
      array = f.structs.array;
      items = f.structs.items;
      means = named_same (codes "structs") refl ∙ f.structs.means;
      holds = kept.arrays f.structs.array f.structs.items f.structs.holds;
      sized = λ n l. let x = f.structs.sized n l in (x.0, x.1, sized_kept changed s s' kept lacks x.0 (struct_size_of p.defs n) x.2);
    };
    listed = record {
      array = f.listed.array;
      items = f.listed.items;
      means = named_same (codes "objects") refl ∙ f.listed.means;
      holds = kept.arrays f.listed.array f.listed.items f.listed.holds;
      are = begin_kept changed s s' kept lacks (length p.objects) f.listed.items f.listed.are;
    };
    few_dicts = f.few_dicts;
    base = base;
  }

-- the same store, in which objects are made in the table's part
abbrev tabled : StoreState → StoreState
tabled s = record s { part = Table }

module _ (p : Program) (fs : List Placed) (u : UnitRow) (c c' : PsCore) (index : ℕ) (x : PsObj) (t : StringId) (h : HasFunctions p fs u c.store c'.store index x) (unit : IsDeferred p fs u c.store index t) where
  abbrev unit_dict : DictId
  unit_dict = in_table index

  abbrev fields : Fields
  fields = (codes "functions", Str t true) ∷ (codes "file", unit.file) ∷ []

  lacks_in : (name : List ℕ) → value_of fields name ≡ None → value_at (entries_of c.store unit_dict) (NameKey name) ≡ None
  lacks_in name none = fields_value c.store (entries_of c.store unit_dict) fields name unit.fields.are ∙ none

  in_both : Elsewhere unit_dict (tabled c.store) (tabled c'.store)
  in_both = record {
    strings = λ a b i. let r = h.elsewhere.strings a b (record { has = i.has; bytes = i.bytes }) in record { has = r.has; bytes = r.bytes };
    arrays = λ a b i. let r = h.elsewhere.arrays a b (record { has = i.has; items = i.items }) in record { has = r.has; items = r.items };
    dicts = h.elsewhere.dicts;
  }

  -- what the dictionaries of the stack have, where the unit's may be one of them
  others_found : (ds : List DictId) → AreThere (tabled c.store) ds → OthersAreFound (tabled c.store) (tabled c'.store) ds
  others_found [] there word apart = refl
  others_found (d ∷ ds) there word apart =
      let rest : found_in (tabled c'.store) ds (NameKey word) ≡ found_in (tabled c.store) ds (NameKey word) = others_found ds there.1 word apart in
      ap (λ (o : Option PsObj). or_else o (found_in (tabled c'.store) ds (NameKey word))) (one (same_dict d unit_dict) refl) ∙ ap (or_else (value_at (entries_of (tabled c.store) d) (NameKey word))) rest
    where
      one : (b : Bool) → same_dict d unit_dict ≡ b → value_at (entries_of (tabled c'.store) d) (NameKey word) ≡ value_at (entries_of (tabled c.store) d) (NameKey word)
      one true e = let same : d ≡ unit_dict = dict_is d unit_dict e in subst (λ (x : DictId). value_at (entries_of c'.store x) (NameKey word) ≡ value_at (entries_of c.store x) (NameKey word)) (sym same) (h.names word apart)
      one false e = ap (λ (es : List (Key × Pair)). value_at es (NameKey word)) (h.elsewhere.dicts d e there.0).1

  all_still : (ds : List DictId) → AreThere (tabled c.store) ds → AreThere (tabled c'.store) ds
  all_still [] there = tt
  all_still (d ∷ ds) there = (one (same_dict d unit_dict) refl, all_still ds there.1)
    where
      one : (b : Bool) → same_dict d unit_dict ≡ b → IsThere (tabled c'.store) d
      one true e = subst (λ (x : DictId). IsThere (tabled c'.store) x) (sym (dict_is d unit_dict e)) h.own
      one false e = (in_both.dicts d e there.0).0

  pub furnished_stays : Furnished p (tabled c.store) (reverse c.store.base) → Furnished p (tabled c'.store) (reverse c'.store.base)
  furnished_stays f =
      let ds : List DictId = reverse c.store.base in
      let closed : c'.store.closed.dicts ≤ length c'.store.table.dicts = subst (λ (m : Mark). m.dicts ≤ length c'.store.table.dicts) (sym h.closed) (omega arith) in
      let base : length c'.store.base ≤ length ds = subst (λ (b : List DictId). length b ≤ length ds) (sym h.base) f.base in
      let lacks : Lacks (tabled c.store) unit_dict = record { kind = lacks_in (codes "kind") refl; line = lacks_in (codes "line") refl; name = lacks_in (codes "name") refl; size = lacks_in (codes "size") refl } in
      subst (λ (b : List DictId). Furnished p (tabled c'.store) (reverse b)) (sym h.base) (furnished_kept unit_dict (tabled c.store) (tabled c'.store) in_both lacks ds (others_found ds f.making.there) (all_still ds f.making.there) p refl closed base f)

  -- the deferred entry of another unit
  pub deferred_stays : (v : UnitRow) (j : ℕ) (text : StringId) → (j ≡ index → ⊥) → IsDeferred p fs v c.store j text → IsDeferred p fs v c'.store j text
  deferred_stays v j text apart d =
      let entries : Fields = (codes "functions", Str text true) ∷ (codes "file", d.file) ∷ [] in
      let kept = h.elsewhere.dicts (in_table j) (ne_eqb j index apart) d.fields.is_there in
      record {
        file = d.file;
        fields = record {
          is_there = kept.0;
          are = subst (λ (es : List (Key × Pair)). AreFields c'.store es entries) (sym kept.1) (fields_kept c.store c'.store h.elsewhere.strings (entries_of c.store (in_table j)) entries d.fields.are);
          short = d.fields.short;
        };
        text = h.elsewhere.strings text (render (deferred p fs v)) d.text;
      }
