-- A new dictionary into which entries are put.
use Rattle.std.proofs.Common.{◌≡◌, ℕ, ℤ, pos, suc, ◌+◌, ◌-◌, ◌<◌, ◌≤◌, Bool, true, false, nat_le, ◌&&◌, ◌==◌, if◌then◌else◌, Option, Some, None, Result, Ok, Err, List, [], ◌∷◌, ◌++◌, length, map, codes, refl, sym, ap, ◌∙◌, subst, arith, zero, length-append, lt-ltb, le-leb, eqb→eq}
use Rattle.ps_scan.specs.Bytes.{is_regular, is_white, is_special}
use Rattle.ps_store.specs.declared.object.Part.{Part}
use Rattle.ps_store.specs.declared.object.Part.TheVariants.{Table, Command}
use Rattle.ps_store.specs.declared.object.PsObj.{PsObj}
use Rattle.ps_store.specs.declared.object.PsObj.TheVariants.{Int, Name, Dict, Op}
use Rattle.ps_store.specs.declared.object.DictId.{DictId}
use Rattle.ps_store.specs.declared.object.StringId.{StringId}
use Rattle.ps_store.specs.declared.object.Pair.{Pair}
use Rattle.ps_store.specs.declared.object.Mark.{Mark}
use Rattle.ps_store.specs.declared.key.Key.{Key}
use Rattle.ps_store.specs.declared.key.Key.TheVariants.{Name as NameKey}
use Rattle.ps_store.specs.Operators.{operator_number}
use Rattle.ps_store.specs.StoreState.{StoreState}
use Rattle.ps_store.specs.Store.{Given as Gave, entries_of, making_dict, text_units, held}
use Rattle.ps_step.specs.declared.fault.PsError.{PsError}
use Rattle.ps_step.specs.declared.fault.PsError.TheVariants.{LimitCheck}
use Rattle.ps_step.specs.declared.item.Item.{Item}
use Rattle.ps_step.specs.declared.item.Item.TheVariants.{Text as TextItem}
use Rattle.ps_step.specs.declared.machine.PsCore.{PsCore}
use Rattle.ps_step.specs.Results.{◌>>=◌, stored, at as at_state}
use Rattle.ps_step.specs.Keys.{named, valued, under as under_key}
use Rattle.ps_step.specs.Compare.{same_part}
use Rattle.ps_step.specs.Composites.{same_dict}
use Rattle.ps_step.specs.Executing.{alone, acting}
use Rattle.ps_run.specs.Step.{Next, settled, step}
use Rattle.ps_text.specs.Code.{Code, Stop, Num, Word, Lit, render}
use Rattle.ps_text.specs.Grown.{IsString}
use Rattle.ps_text.specs.Spells.{Fine, units}
use Rattle.ps_text.proofs.Checks.{fine}
use Rattle.ps_terms.specs.Stands.{core}
use Rattle.ps_terms.specs.Printing.{further}
use Rattle.ps_terms.proofs.Sound.{push_next}
use Rattle.ps_tables.specs.Taken.{Takes}
use Rattle.ps_tables.specs.Dictionaries.{Fields, updated, AreFields, none as no_fields, field, with_dict, next_dict}
use Rattle.ps_tables.specs.Making.{IsMaking, HasFields, AreShort}
use Rattle.ps_tables.specs.Later.{IsThere, Later, StandsAt}
use Rattle.ps_tables.specs.Defined.{in_table, Puts}
use Rattle.ps_tables.specs.Pieces.{Given, Called, Counted, Meant, Loads, given_term, given_steps, given_cost, Entries, putting, putting_steps, putting_cost, KnowsGiven, KnowsEntries, IsNoMark, Values, Bottom, This, Named, That, Under, given_value, entry_values, pairs, Show}
use Rattle.ps_tables.proofs.Going.{takes_then, takes_one}
use Rattle.ps_tables.proofs.Kept.{made_same}
use Rattle.ps_tables.proofs.Putting.{put_at, put_length, fields_at, entries_there}
use Rattle.ps_tables.proofs.Defining.{put_store, puts, put_defined, entries_put}
use Rattle.ps_tables.proofs.Words.{count_is, dict_made}
use Rattle.ps_tables.proofs.Stores.{later_none, later_then, later_within, later_made, making_later, named_later, stands_later, fields_are_later, fields_later}
use Rattle.ps_tables.proofs.Makers.{short_updated}
use Rattle.ps_tables.proofs.Tokens.{head_is, gives_value, Met, meets, met_step, Pushed, Acted, word_acts, word_pushes, number_pushes}
use Rattle.ps_tables.proofs.Values.{show_later, given_later, entries_later}
use Rattle.ps_tables.proofs.PieceSteps.{load_fine, load_number}

dup_fine : Fine (Word (codes "dup") Stop)
unfolding is_white is_special is_regular
dup_fine = fine (Word (codes "dup") Stop) refl

dup_number : operator_number (codes "dup") ≡ Some 1
unfolding operator_number
dup_number = refl

pub put_fine : Fine (Word (codes "put") Stop)
unfolding is_white is_special is_regular
put_fine = fine (Word (codes "put") Stop) refl

pub put_number : operator_number (codes "put") ≡ Some 33
unfolding operator_number
put_number = refl

dict_fine : Fine (Word (codes "dict") Stop)
unfolding is_white is_special is_regular
dict_fine = fine (Word (codes "dict") Stop) refl

dict_number : operator_number (codes "dict") ≡ Some 14
unfolding operator_number
dict_number = refl

-- ---- what is put

module _ (ds : List DictId) (t : StringId) (under : List Item) (post : List ℕ) where
  record Gives' (g : Given) (k : Code) (s : StoreState) (xs : List PsObj) (at : ℕ) : Type 0 where
    pub store : StoreState
    pub object : PsObj
    pub to : ℕ
    pub later : Later (given_cost g) s store
    pub shows : Show store (object ∷ []) (given_value g)
    pub stands : StandsAt store t to (render k ++ post)
    pub takes : Takes (given_steps g) (core s ds xs (TextItem t at ∷ under)) (core store ds (object ∷ xs) (TextItem t to ∷ under))

  gives' : (g : Given) (k : Code) (s : StoreState) (xs : List PsObj) (at : ℕ) → IsMaking s ds → KnowsGiven s ds g → length xs + 110 ≤ 100000 → s.table.units + s.command.units + given_cost g ≤ 8000000
      → StandsAt s t at (render (given_term g k) ++ post) → Gives' g k s xs at
  gives' (Called name) k s xs at is knows room units_fit h =
      let m : Met s ds xs t at under (Lit name k) post = meets s ds xs t at under (Lit name k) post tt knows h (omega arith) in
      let sp = m.spells in
      let x : PsObj = Name sp.0 false in
      record {
        store = m.store;
        object = x;
        to = m.to;
        later = later_within (units (Lit name Stop)) (given_cost (Called name)) s m.store (omega arith) m.later;
        shows = (sp.0, [], refl, sp.3, refl);
        stands = m.stands;
        takes = takes_one (core s ds xs (TextItem t at ∷ under)) (core m.store ds (x ∷ xs) (TextItem t m.to ∷ under)) (met_step s ds xs t at under (Lit name k) post m x (head_is m.object x sp.1 sp.2) room (λ c. refl));
      }
  gives' (Counted n) k s xs at is knows room units_fit h =
      let p : Pushed s ds xs t at under (Int n) 0 (render k ++ post) = number_pushes s ds xs t at under n k post knows h (omega arith) room in
      record {
        store = p.store;
        object = Int n;
        to = p.to;
        later = p.later;
        shows = ([], refl, tt, refl);
        stands = p.stands;
        takes = takes_one (core s ds xs (TextItem t at ∷ under)) (core p.store ds (Int n ∷ xs) (TextItem t p.to ∷ under)) p.steps;
      }
  gives' (Meant word x) k s xs at is knows room units_fit h =
      let p : Pushed s ds xs t at under x (units (Word word Stop)) (render k ++ post) =
      word_pushes s ds xs t at under word k post knows.1 x knows.0 knows.2 knows.3 is.there h (omega arith) room in
      record {
        store = p.store;
        object = x;
        to = p.to;
        later = later_within (units (Word word Stop)) (given_cost (Meant word x)) s p.store (omega arith) p.later;
        shows = ([], refl, gives_value knows.1 x knows.3, refl);
        stands = p.stands;
        takes = takes_one (core s ds xs (TextItem t at ∷ under)) (core p.store ds (x ∷ xs) (TextItem t p.to ∷ under)) p.steps;
      }
  gives' (Loads name x) k s xs at is knows room units_fit h =
      let u : ℕ = units (Lit name Stop) in
      let v : ℕ = units (Word (codes "load") Stop) in
      let last : Code = Word (codes "load") k in
      let m : Met s ds xs t at under (Lit name last) post = meets s ds xs t at under (Lit name last) post tt knows.0 h (omega arith) in
      let sp = m.spells in
      let n : StringId = sp.0 in
      let s₁ : StoreState = m.store in
      let counted : s₁.table.units + s₁.command.units ≤ s.table.units + s.command.units + u = m.later.counted in
      let is₁ : IsMaking s₁ ds = making_later u s s₁ m.later ds is in
      let all : List PsObj = Name n false ∷ xs in
      let w : Acted s₁ ds all t m.to under (Op 29) v (render k ++ post) = word_acts s₁ ds all t m.to under (codes "load") k post (Op 29) load_fine (is₁.operators (codes "load") 29 load_number) is₁.there m.stands (omega arith) in
      let s₂ : StoreState = w.store in
      let two : Later (u + v) s s₂ = later_then u v s s₁ s₂ m.later w.later in
      let text : IsString s₂ n name = w.later.strings n name sp.3 in
      let short : nat_le (length name) 127 ≡ true = le-leb _ _ knows.0.1 in
      let c : PsCore = core s₂ ds all (TextItem t w.to ∷ under) in
      let met : step (core s ds xs (TextItem t at ∷ under)) ≡ Next (core s₁ ds all (TextItem t m.to ∷ under)) =
      met_step s ds xs t at under (Lit name last) post m (Name n false) (head_is m.object (Name n false) sp.1 sp.2) room (λ c. refl) in
      let loaded : step (core s₁ ds all (TextItem t m.to ∷ under)) ≡ Next (core s₂ ds (x ∷ xs) (TextItem t w.to ∷ under)) =
      w.steps
      ∙ ap (λ (l : List ℕ). settled (alone (at_state c (((if nat_le (length l) 127 then Ok (NameKey l) else Err LimitCheck) >>= λ key. Ok (valued s₂ ds key)) >>= λ found. under_key found >>= λ y. Ok (core s₂ ds (y ∷ xs) (TextItem t w.to ∷ under)))))) text.bytes
      ∙ ap (λ (b : Bool). settled (alone (at_state c (((if b then Ok (NameKey name) else Err LimitCheck) >>= λ key. Ok (valued s₂ ds key)) >>= λ found. under_key found >>= λ y. Ok (core s₂ ds (y ∷ xs) (TextItem t w.to ∷ under)))))) short
      ∙ ap (λ (found : Option PsObj). settled (alone (at_state c (under_key found >>= λ y. Ok (core s₂ ds (y ∷ xs) (TextItem t w.to ∷ under)))))) (named_later (u + v) s s₂ two ds name is.there ∙ knows.1) in
      record {
        store = s₂;
        object = x;
        to = w.to;
        later = later_within (u + v) (given_cost (Loads name x)) s s₂ (omega arith) two;
        shows = ([], refl, knows.2, refl);
        stands = w.stands;
        takes = takes_then 1 1 (core s ds xs (TextItem t at ∷ under)) (core s₁ ds all (TextItem t m.to ∷ under)) (core s₂ ds (x ∷ xs) (TextItem t w.to ∷ under))
            (takes_one (core s ds xs (TextItem t at ∷ under)) (core s₁ ds all (TextItem t m.to ∷ under)) met) (takes_one (core s₁ ds all (TextItem t m.to ∷ under)) (core s₂ ds (x ∷ xs) (TextItem t w.to ∷ under)) loaded);
      }

-- ---- what is known of given values where only strings are known to stay

abbrev Simple : Values → Type 0
Simple Bottom = Unit {0}
Simple (This x below) = Simple below
Simple (Named name below) = Simple below
Simple (That x below) = Simple below
Simple (Under name value below) = Simple value × Simple below
Simple other = ⊥

simple_given : (g : Given) → Simple (given_value g)
simple_given (Called name) = tt
simple_given (Counted n) = tt
simple_given (Meant word x) = tt
simple_given (Loads name x) = tt

module _ (s s' : StoreState) (strings : (t : StringId) (text : List ℕ) → IsString s t text → IsString s' t text) where
  simple_kept : (vs : Values) (xs : List PsObj) → Simple vs → Show s xs vs → Show s' xs vs
  simple_kept Bottom xs simple h = h
  simple_kept (This x below) xs simple h = (h.0, h.1, h.2, simple_kept below h.0 simple h.3)
  simple_kept (Named name below) xs simple h = (h.0, h.1, h.2, strings h.0 name h.3, simple_kept below h.1 simple h.4)
  simple_kept (That x below) xs simple h = (h.0, h.1, h.2, simple_kept below h.0 simple h.3)
  simple_kept (Under name value below) xs simple h = (h.0, h.1, h.2, h.3, strings h.1 name h.4, h.5, simple_kept value (h.0 ∷ []) simple.0 h.6, simple_kept below h.2 simple.1 h.7)
  simple_kept _ xs simple h = absurd simple

  pub fields_kept : (es : List (Key × Pair)) (fs : Fields) → AreFields s es fs → AreFields s' es fs
  fields_kept _ _ no_fields = no_fields
  fields_kept _ _ (field name t v es fs is r) = field name t v es fs (strings t name is) (fields_kept es fs r)

-- a value is put into a dictionary that was not there
later_puts : (u i : ℕ) (s₀ s s' : StoreState) (name : List ℕ) (v : PsObj) → Later u s₀ s → length s₀.table.dicts ≤ i → Puts s s' (in_table i) name v → Later (u + 1) s₀ s'
later_puts u i s₀ s s' name v later beyond p =
    let counted₁ = later.counted in
    let counted₂ = p.counted in
    let more₁ = later.more in
    record {
      strings = λ t text is. p.strings t text (later.strings t text is);
      arrays = λ a xs is. p.arrays a xs (later.arrays a xs is);
      dicts = λ d there. let one = later.dicts d there in (p.there d one.0, p.dicts d (apart d.part d.index there) ∙ one.1);
      part = p.part ∙ later.part;
      closed = p.closed ∙ later.closed;
      base = p.base ∙ later.base;
      command = λ e. p.command ∙ later.command e;
      more = still (nat_le (length s₀.table.dicts) (length s'.table.dicts)) refl;
      counted = omega arith;
    }
  where
    apart : (q : Part) (j : ℕ) → j < length (held s₀ q).dicts → (same_part q Table && j == i) ≡ false
    apart Table j h = by (j == i) refl
      where
        by : (b : Bool) → (j == i) ≡ b → b ≡ false
        by true e = let same : j ≡ i = eqb→eq j i (rw e tt) in absurd (omega arith)
        by false e = refl
    apart Command j h = refl

    still : (b : Bool) → nat_le (length s₀.table.dicts) (length s'.table.dicts) ≡ b → length s₀.table.dicts ≤ length s'.table.dicts
    still b e = let more₁ = later.more in over (length s'.table.dicts) (p.there (in_table (length s'.table.dicts)))
      where
        over : (n : ℕ) → (n < length s.table.dicts → n < n) → length s₀.table.dicts ≤ n
        over n f = let more₁ = later.more in grind arith

-- ---- the entries

sum_fits : (n n₁ n₂ n₃ n₄ A B C D : ℕ) → n + (A + B + (C + (D + 1))) ≤ 8000000 → n₁ ≤ n + (A + 0) → n₂ ≤ n₁ + (B + 0) → n₃ ≤ n₂ + C → n₄ ≤ n₃ + (D + 0) → n₄ + 1 ≤ 8000000
sum_fits n n₁ n₂ n₃ n₄ A B C D h h₁ h₂ h₃ h₄ = omega arith

sum_within : (u A B C D : ℕ) → u + (A + 0 + (B + 0) + C + (D + 0)) + 1 ≤ u + (A + B + (C + (D + 1)))
sum_within u A B C D = omega arith

module _ (s₀ : StoreState) (ds : List DictId) (is₀ : IsMaking s₀ ds) (t : StringId) (under : List Item) (post : List ℕ) (o : List PsObj) (room : length o + 120 ≤ 100000)
    (i : ℕ) (beyond : length s₀.table.dicts ≤ i) (unclosed : s₀.closed.dicts ≤ i) where
  abbrev D : DictId
  D = in_table i

  record Fills (es : Entries) (k : Code) (u : ℕ) (items : Values) (s : StoreState) (at : ℕ) : Type 0 where
    pub store : StoreState
    pub values : List PsObj
    pub to : ℕ
    pub later : Later (u + putting_cost es) s₀ store
    pub has : HasFields store D (pairs (entry_values es items) values)
    pub shows : Show store values (entry_values es items)
    pub stands : StandsAt store t to (render k ++ post)
    pub takes : Takes (putting_steps es) (core s ds (Dict D ∷ o) (TextItem t at ∷ under)) (core store ds (Dict D ∷ o) (TextItem t to ∷ under))

  -- one entry
  record Fills1 (name : List ℕ) (g : Given) (k : Code) (u : ℕ) (items : Values) (zs : List PsObj) (s : StoreState) (at : ℕ) : Type 0 where
    pub store : StoreState
    pub values : List PsObj
    pub to : ℕ
    pub later : Later (u + (text_units (codes "dup") + text_units name + (given_cost g + (text_units (codes "put") + 1)))) s₀ store
    pub has : HasFields store D (pairs (Under name (given_value g) items) values)
    pub few : length (entries_of store D) ≤ length (entries_of s D) + 1
    pub shows : Show store values (Under name (given_value g) items)
    pub stands : StandsAt store t to (render k ++ post)
    pub takes : Takes (further 2 (further (given_steps g) 1)) (core s ds (Dict D ∷ o) (TextItem t at ∷ under)) (core store ds (Dict D ∷ o) (TextItem t to ∷ under))

  fills1 : (name : List ℕ) (g : Given) (k : Code) (u : ℕ) (items : Values) (zs : List PsObj) (s : StoreState) (at : ℕ) → Later u s₀ s → IsThere s D → HasFields s D (pairs items zs) → length (entries_of s D) < 1000000
      → Simple items → Show s zs items → Fine (Lit name Stop) → KnowsGiven s₀ ds g
      → s.table.units + s.command.units + (text_units (codes "dup") + text_units name + (given_cost g + (text_units (codes "put") + 1))) ≤ 8000000
      → StandsAt s t at (render (Word (codes "dup") (Lit name (given_term g (Word (codes "put") k)))) ++ post) → Fills1 name g k u items zs s at
  fills1 name g k u items zs s at later there has few simple shows fine knows units_fit h =
      let a : ℕ = units (Word (codes "dup") Stop) in
      let b : ℕ = units (Lit name Stop) in
      let c : ℕ = given_cost g in
      let d : ℕ = units (Word (codes "put") Stop) in
      let k₃ : Code = Word (codes "put") k in
      let k₂ : Code = given_term g k₃ in
      let is : IsMaking s ds = making_later u s₀ s later ds is₀ in
      let one : List PsObj = Dict D ∷ o in
      let two : List PsObj = Dict D ∷ one in
      let w : Acted s ds one t at under (Op 1) a (render (Lit name k₂) ++ post) =
      word_acts s ds one t at under (codes "dup") (Lit name k₂) post (Op 1) dup_fine (is.operators (codes "dup") 1 dup_number) is.there h (omega arith) in
      let s₁ : StoreState = w.store in
      let counted₁ : s₁.table.units + s₁.command.units ≤ s.table.units + s.command.units + a = w.later.counted in
      let c₀ : PsCore = core s ds one (TextItem t at ∷ under) in
      let c₁ : PsCore = core s₁ ds two (TextItem t w.to ∷ under) in
      let first : step c₀ ≡ Next c₁ = w.steps ∙ push_next (Dict D) (core s₁ ds one (TextItem t w.to ∷ under)) (omega arith) in
      let m : Met s₁ ds two t w.to under (Lit name k₂) post = meets s₁ ds two t w.to under (Lit name k₂) post tt fine w.stands (omega arith) in
      let sp = m.spells in
      let n : StringId = sp.0 in
      let three : List PsObj = Name n false ∷ two in
      let s₂ : StoreState = m.store in
      let counted₂ : s₂.table.units + s₂.command.units ≤ s₁.table.units + s₁.command.units + b = m.later.counted in
      let c₂ : PsCore = core s₂ ds three (TextItem t m.to ∷ under) in
      let second : step c₁ ≡ Next c₂ = met_step s₁ ds two t w.to under (Lit name k₂) post m (Name n false) (head_is m.object (Name n false) sp.1 sp.2) (omega arith) (λ c. refl) in
      let to₂ : Later (u + a + b) s₀ s₂ = later_then (u + a) b s₀ s₁ s₂ (later_then u a s₀ s s₁ later w.later) m.later in
      let is₂ : IsMaking s₂ ds = making_later (u + a + b) s₀ s₂ to₂ ds is₀ in
      let q : Gives' ds t under post g k₃ s₂ three m.to =
      gives' ds t under post g k₃ s₂ three m.to is₂ (given_later (u + a + b) s₀ s₂ to₂ ds is₀.there g knows) (omega arith) (omega arith) m.stands in
      let s₃ : StoreState = q.store in
      let v : PsObj = q.object in
      let counted₃ : s₃.table.units + s₃.command.units ≤ s₂.table.units + s₂.command.units + c = q.later.counted in
      let c₃ : PsCore = core s₃ ds (v ∷ three) (TextItem t q.to ∷ under) in
      let is₃ : IsMaking s₃ ds = making_later c s₂ s₃ q.later ds is₂ in
      let z : Acted s₃ ds (v ∷ three) t q.to under (Op 33) d (render k ++ post) =
      word_acts s₃ ds (v ∷ three) t q.to under (codes "put") k post (Op 33) put_fine (is₃.operators (codes "put") 33 put_number) is₃.there q.stands (omega arith) in
      let s₄ : StoreState = z.store in
      let counted₄ : s₄.table.units + s₄.command.units ≤ s₃.table.units + s₃.command.units + d = z.later.counted in
      let from : Later (a + b + c + d) s s₄ = later_then (a + b + c) d s s₃ s₄ (later_then (a + b) c s s₂ s₃ (later_then a b s s₁ s₂ w.later m.later) q.later) z.later in
      let to₄ : Later (u + (a + b + c + d)) s₀ s₄ = later_then u (a + b + c + d) s₀ s s₄ later from in
      let kept : IsThere s₄ D × (entries_of s₄ D ≡ entries_of s D) = from.dicts D there in
      let still : s₄.closed.dicts ≤ i = subst (λ (m : Mark). m.dicts ≤ i) (sym to₄.closed) unclosed in
      let written : IsString s₄ n name = z.later.strings n name (q.later.strings n name sp.3) in
      let size : length (entries_of s₄ D) ≡ length (entries_of s D) = ap length kept.1 in
      let s₅ : StoreState = put_store s₄ i still kept.0 name n v in
      let put : Puts s₄ s₅ D name v = puts s₄ i still kept.0 name n v in
      let has₄ : HasFields s₄ D (pairs items zs) = fields_later (a + b + c + d) s s₄ from D (pairs items zs) has in
      let es₅ : List (Key × Pair) = put_at (entries_of s₄ D) name n v in
      let same : entries_of s₅ D ≡ es₅ = entries_put s₄ i still kept.0 name n v in
      let longer : length es₅ ≤ length (entries_of s₄ D) + 1 = put_length (entries_of s₄ D) name n v in
      let long : length (entries_of s₅ D) ≡ length es₅ = ap length same in
      let A : ℕ = text_units (codes "dup") in
      let B : ℕ = text_units name in
      let E : ℕ = text_units (codes "put") in
      let few₄ : length (entries_of s₄ D) < 1000000 = subst (λ (j : ℕ). j < 1000000) (sym size) few in
      let fits₄ : s₄.table.units + s₄.command.units + 1 ≤ 8000000 =
      sum_fits (s.table.units + s.command.units) (s₁.table.units + s₁.command.units) (s₂.table.units + s₂.command.units) (s₃.table.units + s₃.command.units) (s₄.table.units + s₄.command.units) A B c E
      units_fit counted₁ counted₂ counted₃ counted₄ in
      let longest : length (entries_of s₅ D) ≤ length (entries_of s D) + 1 = subst (λ (j : ℕ). j ≤ length (entries_of s D) + 1) (sym long) (subst (λ (j : ℕ). length es₅ ≤ j + 1) size longer) in
      let c₄ : PsCore = core s₄ ds (v ∷ three) (TextItem t z.to ∷ under) in
      let c₅ : PsCore = core s₅ ds one (TextItem t z.to ∷ under) in
      let last : step c₃ ≡ Next c₅ =
      z.steps ∙ ap (λ (r : Result StoreState PsError). settled (alone (at_state c₄ (r >>= λ x. Ok (core x ds one (TextItem t z.to ∷ under)))))) (put_defined s₄ i still kept.0 name n v fine.1 written.bytes few₄ fits₄) in
      let shown : Show s₄ (v ∷ []) (given_value g) = show_later d s₃ s₄ z.later (given_value g) (v ∷ []) q.shows in
      let below : Show s₄ zs items = show_later (a + b + c + d) s s₄ from items zs shows in
      let all : Later (u + (a + b + c + d) + 1) s₀ s₅ = later_puts (u + (a + b + c + d)) i s₀ s₄ s₅ name v to₄ beyond put in
      record {
        store = s₅;
        values = v ∷ Name n false ∷ zs;
        to = z.to;
        later = later_within (u + (a + b + c + d) + 1) (u + (text_units (codes "dup") + text_units name + (given_cost g + (text_units (codes "put") + 1)))) s₀ s₅ (sum_within u A B c E) all;
        has = record {
          is_there = put.there D kept.0;
          are = subst (λ (es : List (Key × Pair)). AreFields s₅ es (updated (pairs items zs) name v)) (sym same)
              (fields_kept s₄ s₅ put.strings es₅ (updated (pairs items zs) name v) (fields_at s₄ (entries_of s₄ D) (pairs items zs) name n v written has₄.are));
          short = short_updated (pairs items zs) name v has₄.short fine.1;
        };
        few = longest;
        shows = (v, n, zs, refl, put.strings n name written, fine.1, simple_kept s₄ s₅ put.strings (given_value g) (v ∷ []) (simple_given g) shown, simple_kept s₄ s₅ put.strings items zs simple below);
        stands = record { text = z.stands.text; lead = z.stands.lead; is_lead = z.stands.is_lead; is = put.strings t z.stands.text z.stands.is; here = z.stands.here; within = z.stands.within };
        takes = takes_then 1 (suc (further (given_steps g) 1)) c₀ c₁ c₅ (takes_one c₀ c₁ first)
            (takes_then 1 (further (given_steps g) 1) c₁ c₂ c₅ (takes_one c₁ c₂ second) (takes_then (given_steps g) 1 c₂ c₃ c₅ q.takes (takes_one c₃ c₅ last)));
      }

  further_then : (a b c : ℕ) → further (further a b) c ≡ further a (further b c)
  further_then zero b c = refl
  further_then (suc a) b c = ap suc (further_then a b c)

  fills : (es : Entries) (k : Code) (u : ℕ) (items : Values) (zs : List PsObj) (s : StoreState) (at : ℕ) → Later u s₀ s → HasFields s D (pairs items zs) → length (entries_of s D) + length es < 1000000
      → Simple items → Show s zs items → KnowsEntries s₀ ds es → s.table.units + s.command.units + putting_cost es ≤ 8000000 → s₀.table.units + s₀.command.units + (u + putting_cost es) ≤ 8000000
      → StandsAt s t at (render (putting es k) ++ post) → Fills es k u items s at
  fills [] k u items zs s at later has few simple shows knows units_fit all_fit h =
      record { store = s; values = zs; to = at; later = later_within u (u + 0) s₀ s (omega arith) later; has = has; shows = shows; stands = h; takes = refl }
  fills (e ∷ es) k u items zs s at later has few simple shows knows units_fit all_fit h =
      let x : ℕ = text_units (codes "dup") + text_units e.0 + (given_cost e.1 + (text_units (codes "put") + 1)) in
      let f : Fills1 e.0 e.1 (putting es k) u items zs s at = fills1 e.0 e.1 (putting es k) u items zs s at later has.is_there has (omega arith) simple shows knows.0 knows.1 (omega arith) h in
      let counted : f.store.table.units + f.store.command.units ≤ s₀.table.units + s₀.command.units + (u + x) = f.later.counted in
      let few₁ = f.few in
      let r : Fills es k (u + x) (Under e.0 (given_value e.1) items) f.store f.to =
      fills es k (u + x) (Under e.0 (given_value e.1) items) f.values f.store f.to f.later f.has (omega arith) (simple_given e.1, simple) f.shows knows.2 (omega arith) (omega arith) f.stands in
      let c₀ : PsCore = core s ds (Dict D ∷ o) (TextItem t at ∷ under) in
      let c₁ : PsCore = core f.store ds (Dict D ∷ o) (TextItem t f.to ∷ under) in
      let c₂ : PsCore = core r.store ds (Dict D ∷ o) (TextItem t r.to ∷ under) in
      let steps : further (further 2 (further (given_steps e.1) 1)) (putting_steps es) ≡ putting_steps (e ∷ es) = ap (λ n. suc (suc n)) (further_then (given_steps e.1) 1 (putting_steps es)) in
      record {
        store = r.store;
        values = r.values;
        to = r.to;
        later = later_within (u + x + putting_cost es) (u + putting_cost (e ∷ es)) s₀ r.store (omega arith) r.later;
        has = r.has;
        shows = r.shows;
        stands = r.stands;
        takes = subst (λ n. Takes n c₀ c₂) steps (takes_then (further 2 (further (given_steps e.1) 1)) (putting_steps es) c₀ c₁ c₂ f.takes r.takes);
      }

-- ---- all of it

module _ (ds : List DictId) (t : StringId) (under : List Item) (post : List ℕ) where
  pub record MakesNew (es : Entries) (k : Code) (s : StoreState) (o : List PsObj) (size at : ℕ) : Type 0 where
    pub store : StoreState
    pub dict : DictId
    pub values : List PsObj
    pub to : ℕ
    pub later : Later (text_units (codes "dict") + 1 + putting_cost es) s store
    pub has : HasFields store dict (pairs (entry_values es Bottom) values)
    pub shows : Show store values (entry_values es Bottom)
    pub stands : StandsAt store t to (render k ++ post)
    pub takes : Takes (further 2 (putting_steps es)) (core s ds o (TextItem t at ∷ under)) (core store ds (Dict dict ∷ o) (TextItem t to ∷ under))

  pub makes_new : (es : Entries) (k : Code) (s : StoreState) (o : List PsObj) (size at : ℕ) → IsMaking s ds → Fine (Num (pos size) Stop) → length es ≤ 1000 → KnowsEntries s ds es → length o + 120 ≤ 100000
      → s.table.units + s.command.units + (text_units (codes "dict") + 1 + putting_cost es) ≤ 8000000 → StandsAt s t at (render (Num (pos size) (Word (codes "dict") (putting es k))) ++ post) → MakesNew es k s o size at
  makes_new es k s o size at is fine few knows room units_fit h =
      let u : ℕ = units (Word (codes "dict") Stop) in
      let last : Code = Word (codes "dict") (putting es k) in
      let p : Pushed s ds o t at under (Int (pos size)) 0 (render last ++ post) = number_pushes s ds o t at under (pos size) last post fine h (omega arith) (omega arith) in
      let s₁ : StoreState = p.store in
      let counted₁ : s₁.table.units + s₁.command.units ≤ s.table.units + s.command.units + 0 = p.later.counted in
      let is₁ : IsMaking s₁ ds = making_later 0 s s₁ p.later ds is in
      let w : Acted s₁ ds (Int (pos size) ∷ o) t p.to under (Op 14) u (render (putting es k) ++ post) =
      word_acts s₁ ds (Int (pos size) ∷ o) t p.to under (codes "dict") (putting es k) post (Op 14) dict_fine (is₁.operators (codes "dict") 14 dict_number) is₁.there p.stands (omega arith) in
      let s₂ : StoreState = w.store in
      let counted₂ : s₂.table.units + s₂.command.units ≤ s₁.table.units + s₁.command.units + u = w.later.counted in
      let two : Later (0 + u) s s₂ = later_then 0 u s s₁ s₂ p.later w.later in
      let is₂ : IsMaking s₂ ds = making_later (0 + u) s s₂ two ds is in
      let s₃ : StoreState = with_dict s₂ [] in
      let made : Later (1 + 0) s₂ s₃ = later_made s₂ [] is₂.part in
      let three : Later (0 + u + (1 + 0)) s s₃ = later_then (0 + u) (1 + 0) s s₂ s₃ two made in
      let counted₃ : s₃.table.units + s₃.command.units ≤ s₂.table.units + s₂.command.units + (1 + 0) = made.counted in
      let i : ℕ = length s₂.table.dicts in
      let beyond : length s.table.dicts ≤ i = two.more in
      let closed : s.closed.dicts ≤ length s.table.dicts = is.closed in
      let there : entries_of s₃ (next_dict s₂) ≡ [] = entries_there s₂ is₂.closed [] in
      let none_there : length (entries_of s₃ (next_dict s₂)) ≡ 0 = ap length there in
      let has : HasFields s₃ (in_table i) [] = record {
        is_there = let len : length (s₂.table.dicts ++ [] ∷ []) ≡ length s₂.table.dicts + 1 = length-append s₂.table.dicts ([] ∷ []) in omega arith;
        are = subst (λ (l : List (Key × Pair)). AreFields s₃ l []) (sym there) no_fields;
        short = tt;
      } in
      let c : PsCore = core s₂ ds (Int (pos size) ∷ o) (TextItem t w.to ∷ under) in
      let c₀ : PsCore = core s ds o (TextItem t at ∷ under) in
      let c₁ : PsCore = core s₁ ds (Int (pos size) ∷ o) (TextItem t p.to ∷ under) in
      let c₂ : PsCore = core s₃ ds (Dict (next_dict s₂) ∷ o) (TextItem t w.to ∷ under) in
      let second : step c₁ ≡ Next c₂ =
      w.steps
      ∙ ap (λ (r : Result ℕ PsError). settled (alone (at_state c (r >>= λ n. stored (making_dict s₂) >>= λ given. Ok (core given.1 ds (Dict given.0 ∷ o) (TextItem t w.to ∷ under)))))) (count_is size)
      ∙ ap (λ (g : Gave DictId). settled (alone (at_state c (stored g >>= λ given. Ok (core given.1 ds (Dict given.0 ∷ o) (TextItem t w.to ∷ under)))))) (dict_made s₂ ds is₂ (omega arith)) in
      let f : Fills s ds is t under post o room i beyond (omega arith) es k (0 + u + (1 + 0)) Bottom s₃ w.to =
      fills s ds is t under post o room i beyond (omega arith) es k (0 + u + (1 + 0)) Bottom [] s₃ w.to three has (omega arith) tt refl knows (omega arith) (omega arith) (stands_later (1 + 0) s₂ s₃ made t w.to (render (putting es k) ++ post) w.stands) in
      let c₃ : PsCore = core f.store ds (Dict (next_dict s₂) ∷ o) (TextItem t f.to ∷ under) in
      record {
        store = f.store;
        dict = next_dict s₂;
        values = f.values;
        to = f.to;
        later = later_within (0 + u + (1 + 0) + putting_cost es) (text_units (codes "dict") + 1 + putting_cost es) s f.store (omega arith) f.later;
        has = f.has;
        shows = f.shows;
        stands = f.stands;
        takes = takes_then 1 (suc (putting_steps es)) c₀ c₁ c₃ (takes_one c₀ c₁ p.steps) (takes_then 1 (putting_steps es) c₁ c₂ c₃ (takes_one c₁ c₂ second) f.takes);
      }
