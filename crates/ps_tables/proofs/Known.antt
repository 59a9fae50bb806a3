-- What is known of words stays known.
use Rattle.std.proofs.Common.{◌≡◌, ℕ, ℤ, pos, zero, suc, ◌+◌, ◌<◌, ◌≤◌, Bool, true, false, ◌&&◌, ◌==◌, bytes_eq, if◌then◌else◌, Option, Some, None, List, [], ◌∷◌, ◌++◌, length, map, codes, refl, sym, ap, ◌∙◌, subst, arith, eqb→eq}
use Rattle.std.specs.Prelude.{option_map}
use Rattle.ldb_words.specs.Word.{signed}
use Rattle.c_tree.specs.declared.types.StructDef.{StructDef}
use Rattle.ps_store.specs.declared.object.Part.{Part}
use Rattle.ps_store.specs.declared.object.Part.TheVariants.{Table, Command}
use Rattle.ps_store.specs.declared.object.PsObj.{PsObj}
use Rattle.ps_store.specs.declared.object.PsObj.TheVariants.{Int, Str, Array, Dict, Op, Null}
use Rattle.ps_store.specs.declared.object.ArrayId.{ArrayId}
use Rattle.ps_store.specs.declared.object.DictId.{DictId}
use Rattle.ps_store.specs.declared.object.StringId.{StringId}
use Rattle.ps_store.specs.declared.object.Pair.{Pair}
use Rattle.ps_store.specs.declared.object.Mark.{Mark}
use Rattle.ps_store.specs.declared.key.Key.{Key}
use Rattle.ps_store.specs.declared.key.Key.TheVariants.{Name as NameKey}
use Rattle.ps_store.specs.Key.{same_key}
use Rattle.ps_store.specs.Entries.{value_at}
use Rattle.ps_store.specs.Operators.{operator_number}
use Rattle.ps_store.specs.StoreState.{StoreState}
use Rattle.ps_store.specs.Store.{entries_of, elements_of}
use Rattle.ps_step.specs.Compare.{same_part}
use Rattle.ps_step.specs.Composites.{same_dict}
use Rattle.ps_step.specs.Keys.{or_else, found_in, named}
use Rattle.ps_text.specs.Code.{Code, Stop, Num, Word, Lit, Text, Proc}
use Rattle.ps_text.specs.Grown.{HasArray, IsArray, IsString}
use Rattle.ps_text.specs.Spells.{Spells}
use Rattle.ps_terms.specs.Machine.{Does}
use Rattle.ps_terms.specs.Stands.{Means}
use Rattle.ps_tables.specs.Dictionaries.{Fields, AreFields}
use Rattle.ps_tables.specs.Making.{AreThere, HasFields}
use Rattle.ps_tables.specs.Later.{IsThere, IsOpen, Later}
use Rattle.ps_tables.specs.Defined.{Puts}
use Rattle.ps_tables.specs.Types.{of_arrays}
use Rattle.ps_tables.specs.Senses.{Sense, Stands, Sized, Kind, Variables, Called, Structs, Objects, object_fields, IsObject, BeginWith, basic_fields, variable_fields, IsStruct, AreStructs, IsOf, HasSense, raised, Senses, HaveSenses, AreOther}
use Rattle.ps_tables.proofs.Stores.{named_later, fields_later, has_array_later, body_later, open_later}
use Rattle.ps_tables.proofs.Types.{value_of, fields_value}
use Rattle.ps_tables.proofs.News.{fields_kept}

-- ---- dictionaries that differ

part_is : (p q : Part) → same_part p q ≡ true → p ≡ q
part_is Table Table e = refl
part_is Table Command e = absurd cc
part_is Command Table e = absurd cc
part_is Command Command e = refl

both : (a b : Bool) → (a && b) ≡ true → (a ≡ true) × (b ≡ true)
both true b e = (refl, e)
both false b e = absurd cc

pub dict_is : (d e : DictId) → same_dict d e ≡ true → d ≡ e
dict_is d e h =
    let two : (same_part d.part e.part ≡ true) × ((d.index == e.index) ≡ true) = both (same_part d.part e.part) (d.index == e.index) h in
    let p : d.part ≡ e.part = part_is d.part e.part two.0 in
    let i : d.index ≡ e.index = eqb→eq d.index e.index (rw two.1 tt) in
    ap (λ (q : Part). record { part = q; index = d.index }) p ∙ ap (λ (j : ℕ). record { part = e.part; index = j }) i

-- a dictionary has a key that another one lacks
pub apart_by : (s : StoreState) (d e : DictId) (key : Key) (v : PsObj) → value_at (entries_of s d) key ≡ Some v → value_at (entries_of s e) key ≡ None → same_dict d e ≡ false
apart_by s d e key v has lacks = by (same_dict d e) refl
  where
    by : (b : Bool) → same_dict d e ≡ b → b ≡ false
    by false h = refl
    by true h = let same : d ≡ e = dict_is d e h in let f : value_at (entries_of s d) key ≡ None = subst (λ (x : DictId). value_at (entries_of s x) key ≡ None) (sym same) lacks in absurd (let g : Some v ≡ None = sym has ∙ f in cc)

pub apart_back : (s : StoreState) (d e : DictId) (key : Key) (v : PsObj) → value_at (entries_of s d) key ≡ Some v → value_at (entries_of s e) key ≡ None → same_dict e d ≡ false
apart_back s d e key v has lacks = by (same_dict e d) refl
  where
    by : (b : Bool) → same_dict e d ≡ b → b ≡ false
    by false h = refl
    by true h = let same : e ≡ d = dict_is e d h in let f : value_at (entries_of s d) key ≡ None = subst (λ (x : DictId). value_at (entries_of s x) key ≡ None) same lacks in absurd (let g : Some v ≡ None = sym has ∙ f in cc)

-- ---- names that no dictionary has

abbrev pub EachLacks : StoreState → List DictId → Key → Type 0
EachLacks s [] key = Unit {0}
EachLacks s (d ∷ ds) key = (value_at (entries_of s d) key ≡ None) × EachLacks s ds key

neither : (a b : Option PsObj) → or_else a b ≡ None → (a ≡ None) × (b ≡ None)
neither (Some x) b h = absurd cc
neither None b h = (refl, h)

found_none : (s : StoreState) (ds : List DictId) (key : Key) → found_in s ds key ≡ None → EachLacks s ds key
found_none s [] key h = tt
found_none s (d ∷ ds) key h = let two = neither (value_at (entries_of s d) key) (found_in s ds key) h in (two.0, found_none s ds key two.1)

pub named_none : (s : StoreState) (ds : List DictId) (name : List ℕ) → named s ds name ≡ None → EachLacks s ds (NameKey name)
named_none s ds name h = found_none s ds (NameKey name) (neither (found_in s ds (NameKey name)) (option_map (λ n. Op n) (operator_number name)) h).0

-- ---- a store in which a value was put into another dictionary

pub others_by : (s : StoreState) (ds : List DictId) (e : DictId) (key : Key) (v : PsObj) → value_at (entries_of s e) key ≡ Some v → EachLacks s ds key → AreOther ds e
others_by s [] e key v has lacks = tt
others_by s (d ∷ ds) e key v has lacks = (apart_back s e d key v has lacks.0, others_by s ds e key v has lacks.1)

module _ (s s' : StoreState) (e : DictId) (name : List ℕ) (v : PsObj) (puts : Puts s s' e name v) where
  pub found_puts : (ds : List DictId) (key : Key) → AreOther ds e → found_in s' ds key ≡ found_in s ds key
  found_puts [] key h = refl
  found_puts (d ∷ ds) key h =
      ap (λ (es : List (Key × Pair)). or_else (value_at es key) (found_in s' ds key)) (puts.dicts d h.0) ∙ ap (or_else (value_at (entries_of s d) key)) (found_puts ds key h.1)

  pub named_puts : (ds : List DictId) (word : List ℕ) → AreOther ds e → named s' ds word ≡ named s ds word
  named_puts ds word h = ap (λ (o : Option PsObj). or_else o (option_map (λ n. Op n) (operator_number word))) (found_puts ds (NameKey word) h)

  -- in front of others
  pub named_above : (ds : List DictId) (word : List ℕ) → AreOther ds e → bytes_eq word name ≡ false → named s' (e ∷ ds) word ≡ named s (e ∷ ds) word
  named_above ds word h apart =
      ap (λ (o : Option PsObj). or_else o (option_map (λ n. Op n) (operator_number word)))
      (ap (λ (x : Option PsObj). or_else x (found_in s' ds (NameKey word))) (puts.others (NameKey word) apart) ∙ ap (or_else (value_at (entries_of s e) (NameKey word))) (found_puts ds (NameKey word) h))

  pub named_new : (ds : List DictId) → named s' (e ∷ ds) name ≡ Some v
  named_new ds = ap (λ (x : Option PsObj). or_else (or_else x (found_in s' ds (NameKey name))) (option_map (λ n. Op n) (operator_number name))) puts.found

  pub there_puts : (ds : List DictId) → AreThere s ds → AreThere s' ds
  there_puts [] h = tt
  there_puts (d ∷ ds) h = (puts.there d h.0, there_puts ds h.1)

  spells_puts : (k : Code) (xs : List PsObj) → Spells s xs k → Spells s' xs k
  spells_puts Stop xs h = h
  spells_puts (Num n rest) xs h = (h.0, h.1, spells_puts rest h.0 h.2)
  spells_puts (Word word rest) xs h = (h.0, h.1, h.2, puts.strings h.0 word h.3, spells_puts rest h.1 h.4)
  spells_puts (Lit word rest) xs h = (h.0, h.1, h.2, puts.strings h.0 word h.3, spells_puts rest h.1 h.4)
  spells_puts (Text bytes rest) xs h = (h.0, h.1, h.2, puts.strings h.0 bytes h.3, spells_puts rest h.1 h.4)
  spells_puts (Proc body rest) xs h = (h.0, h.1, h.2, h.3, puts.arrays h.0 h.1 h.4, spells_puts body h.1 h.5, spells_puts rest h.2 h.6)

  pub body_puts : (k : Code) (a : ArrayId) → HasArray s a → Spells s (elements_of s a) k → HasArray s' a × Spells s' (elements_of s' a) k
  body_puts k a has h =
      let kept : IsArray s' a (elements_of s a) = puts.arrays a (elements_of s a) (record { has = has; items = refl }) in
      (kept.has, subst (λ (xs : List PsObj). Spells s' xs k) (sym kept.items) (spells_puts k (elements_of s a) h))

  pub fields_puts : (d : DictId) (fields : Fields) → same_dict d e ≡ false → HasFields s d fields → HasFields s' d fields
  fields_puts d fields apart has = record {
    is_there = puts.there d has.is_there;
    are = subst (λ (es : List (Key × Pair)). AreFields s' es fields) (sym (puts.dicts d apart)) (fields_kept s s' puts.strings (entries_of s d) fields has.are);
    short = has.short;
  }

  pub open_puts : (d : DictId) → IsOpen s d → IsOpen s' d
  open_puts d h = (h.0, h.1, subst (λ (m : Mark). m.dicts ≤ h.0) (sym puts.closed) h.2)

  -- what is known of dictionaries, where the one that changes is none of them
  module _ (ds : List DictId) (apart : (d : DictId) (kind : PsObj) (fields : Fields) → HasFields s d ((codes "kind", kind) ∷ fields) → value_of fields (codes "tag") ≡ None → same_dict d e ≡ false)
      (up : ℕ → ℕ) (structs : (few : ℕ) (x : PsObj) (d : StructDef) → IsStruct s few x d → IsStruct s' (up few) x d) where
    structs_put : (few : ℕ) (xs : List PsObj) (defs : List StructDef) → AreStructs s few xs defs → AreStructs s' (up few) xs defs
    structs_put few [] [] h = tt
    structs_put few (x ∷ xs) (d ∷ defs) h = (structs few x d h.0, structs_put few xs defs h.1)
    structs_put few [] (d ∷ defs) h = absurd h
    structs_put few (x ∷ xs) [] h = absurd h

    object_puts : (x : PsObj) → IsObject s x → IsObject s' x
    object_puts x h = record {
      dict = h.dict;
      is = h.is;
      kind = h.kind;
      ctype = h.ctype;
      place = h.place;
      label = h.label;
      name = h.name;
      has = fields_puts h.dict (object_fields h.kind Null h.ctype (Array h.place true) (Str h.label false) (Str h.name false)) (apart h.dict h.kind _ h.has refl) h.has;
    }

    begin_puts : (n : ℕ) (xs : List PsObj) → BeginWith s n xs → BeginWith s' n xs
    begin_puts zero xs h = tt
    begin_puts (suc n) [] h = absurd h
    begin_puts (suc n) (x ∷ xs) h = (object_puts x h.0, begin_puts n xs h.1)

    pub is_of_puts : (x : PsObj) (sense : Sense) → IsOf s x sense → IsOf s' x (raised up sense)
    is_of_puts x (Stands y) h = h
    is_of_puts x (Sized size) h = (h.0, h.1, h.2, h.3, fields_puts h.0 (basic_fields size h.1 h.2) (apart h.0 h.1 ((codes "size", Int (pos size)) ∷ (codes "printer", h.2) ∷ []) h.4 refl) h.4)
    is_of_puts x Kind h = (h.0, h.1, h.2, h.3, fields_puts h.0 (of_arrays h.1 h.2) (apart h.0 h.1 ((codes "printer", h.2) ∷ []) h.4 refl) h.4)
    is_of_puts x Variables h = (h.0, h.1, h.2, fields_puts h.0 (variable_fields h.1) (apart h.0 h.1 _ h.3 refl) h.3)
    is_of_puts x (Called body) h = let b = body_puts body h.0 h.2 h.3 in (h.0, h.1, b.0, b.1)
    is_of_puts x (Structs few defs) h = (h.0, h.1, h.2, puts.arrays h.0 h.1 h.3, structs_put few h.1 defs h.4)
    is_of_puts x (Objects count) h = (h.0, h.1, h.2, puts.arrays h.0 h.1 h.3, begin_puts count h.1 h.4)

    pub sense_puts : (word : List ℕ) (sense : Sense) → named s' ds word ≡ named s ds word → HasSense s ds word sense → HasSense s' ds word (raised up sense)
    sense_puts word sense same h = (h.0, same ∙ h.1, is_of_puts h.0 sense h.2)

raised_same : (sense : Sense) → raised (λ n. n) sense ≡ sense
raised_same (Stands x) = refl
raised_same (Sized size) = refl
raised_same Kind = refl
raised_same Variables = refl
raised_same (Called body) = refl
raised_same (Structs few defs) = refl
raised_same (Objects count) = refl

-- a definition: the words but for this one
abbrev pub AreFree : List ℕ → Senses → Type 0
AreFree name [] = Unit {0}
AreFree name (w ∷ ws) = (bytes_eq w.0 name ≡ false) × AreFree name ws

module _ (s s' : StoreState) (e : DictId) (name : List ℕ) (v : PsObj) (puts : Puts s s' e name v) (ds : List DictId) (others : AreOther ds e)
    (no_kind : value_at (entries_of s e) (NameKey (codes "kind")) ≡ None) (no_tag : value_at (entries_of s e) (NameKey (codes "tag")) ≡ None) where
  apart_kind : (d : DictId) (kind : PsObj) (fields : Fields) → HasFields s d ((codes "kind", kind) ∷ fields) → value_of fields (codes "tag") ≡ None → same_dict d e ≡ false
  apart_kind d kind fields has none = apart_by s d e (NameKey (codes "kind")) kind (fields_value s (entries_of s d) ((codes "kind", kind) ∷ fields) (codes "kind") has.are) no_kind

  struct_above : (few : ℕ) (x : PsObj) (d : StructDef) → IsStruct s few x d → IsStruct s' few x d
  struct_above few x d h =
      let same : entries_of s' h.dict ≡ entries_of s h.dict = puts.dicts h.dict (apart_by s h.dict e (NameKey (codes "tag")) h.tag h.tagged no_tag) in
      record {
        dict = h.dict;
        is = h.is;
        opened = open_puts s s' e name v puts h.dict h.opened;
        there = puts.there h.dict h.there;
        size = ap (λ (es : List (Key × Pair)). value_at es (NameKey (codes "size"))) same ∙ h.size;
        small = subst (λ (es : List (Key × Pair)). length es ≤ few) (sym same) h.small;
        tag = h.tag;
        tagged = ap (λ (es : List (Key × Pair)). value_at es (NameKey (codes "tag"))) same ∙ h.tagged;
      }

  pub is_of_defined : (x : PsObj) (sense : Sense) → IsOf s x sense → IsOf s' x sense
  is_of_defined x sense h = subst (λ (z : Sense). IsOf s' x z) (raised_same sense) (is_of_puts s s' e name v puts (e ∷ ds) apart_kind (λ n. n) struct_above x sense h)

  pub senses_defined : (ws : Senses) → AreFree name ws → HaveSenses s (e ∷ ds) ws → HaveSenses s' (e ∷ ds) ws
  senses_defined [] free h = tt
  senses_defined (w ∷ ws) free h =
      (subst (λ (z : Sense). HasSense s' (e ∷ ds) w.0 z) (raised_same w.1) (sense_puts s s' e name v puts (e ∷ ds) apart_kind (λ n. n) struct_above w.0 w.1 (named_above s s' e name v puts ds w.0 others free.0) h.0), senses_defined ws free.1 h.1)

-- a value is put into the dictionary of a struct, which none of the stack is
module _ (s s' : StoreState) (e : DictId) (v tag : PsObj) (puts : Puts s s' e (codes "members") v) (ds : List DictId) (others : AreOther ds e)
    (tagged : value_at (entries_of s e) (NameKey (codes "tag")) ≡ Some tag) where
  apart_tag : (d : DictId) (kind : PsObj) (fields : Fields) → HasFields s d ((codes "kind", kind) ∷ fields) → value_of fields (codes "tag") ≡ None → same_dict d e ≡ false
  apart_tag d kind fields has none = apart_back s e d (NameKey (codes "tag")) tag tagged (fields_value s (entries_of s d) ((codes "kind", kind) ∷ fields) (codes "tag") has.are ∙ none)

  value_kept : (d : DictId) (key : List ℕ) → bytes_eq key (codes "members") ≡ false → value_at (entries_of s' d) (NameKey key) ≡ value_at (entries_of s d) (NameKey key)
  value_kept d key other = by (same_dict d e) refl
    where
      by : (b : Bool) → same_dict d e ≡ b → value_at (entries_of s' d) (NameKey key) ≡ value_at (entries_of s d) (NameKey key)
      by true h = let same : d ≡ e = dict_is d e h in subst (λ (x : DictId). value_at (entries_of s' x) (NameKey key) ≡ value_at (entries_of s x) (NameKey key)) (sym same) (puts.others (NameKey key) other)
      by false h = ap (λ (es : List (Key × Pair)). value_at es (NameKey key)) (puts.dicts d h)

  length_kept : (d : DictId) → length (entries_of s' d) ≤ length (entries_of s d) + 1
  length_kept d = by (same_dict d e) refl
    where
      by : (b : Bool) → same_dict d e ≡ b → length (entries_of s' d) ≤ length (entries_of s d) + 1
      by true h = let same : d ≡ e = dict_is d e h in subst (λ (x : DictId). length (entries_of s' x) ≤ length (entries_of s x) + 1) (sym same) puts.few
      by false h = subst (λ (es : List (Key × Pair)). length es ≤ length (entries_of s d) + 1) (sym (puts.dicts d h)) (omega arith)

  struct_filled : (few : ℕ) (x : PsObj) (d : StructDef) → IsStruct s few x d → IsStruct s' (few + 1) x d
  struct_filled few x d h = record {
    dict = h.dict;
    is = h.is;
    opened = open_puts s s' e (codes "members") v puts h.dict h.opened;
    there = puts.there h.dict h.there;
    size = value_kept h.dict (codes "size") refl ∙ h.size;
    small = let a = length_kept h.dict in let b = h.small in omega arith;
    tag = h.tag;
    tagged = value_kept h.dict (codes "tag") refl ∙ h.tagged;
  }

  pub senses_filled : (ws : Senses) → HaveSenses s ds ws → HaveSenses s' ds (map (λ w. (w.0, raised (λ n. n + 1) w.1)) ws)
  senses_filled [] h = tt
  senses_filled (w ∷ ws) h = (sense_puts s s' e (codes "members") v puts ds apart_tag (λ n. n + 1) struct_filled w.0 w.1 (named_puts s s' e (codes "members") v puts ds w.0 others) h.0, senses_filled ws h.1)

-- ---- a later store

module _ (u : ℕ) (s s' : StoreState) (later : Later u s s') (ds : List DictId) (there : AreThere s ds) where
  pub struct_later : (few : ℕ) (x : PsObj) (d : StructDef) → IsStruct s few x d → IsStruct s' few x d
  struct_later few x d h =
      let kept = later.dicts h.dict h.there in
      record {
        dict = h.dict;
        is = h.is;
        opened = open_later u s s' later h.dict h.opened;
        there = kept.0;
        size = ap (λ (es : List (Key × Pair)). value_at es (NameKey (codes "size"))) kept.1 ∙ h.size;
        small = subst (λ (es : List (Key × Pair)). length es ≤ few) (sym kept.1) h.small;
        tag = h.tag;
        tagged = ap (λ (es : List (Key × Pair)). value_at es (NameKey (codes "tag"))) kept.1 ∙ h.tagged;
      }

  pub structs_later : (few : ℕ) (xs : List PsObj) (defs : List StructDef) → AreStructs s few xs defs → AreStructs s' few xs defs
  structs_later few [] [] h = tt
  structs_later few (x ∷ xs) (d ∷ defs) h = (struct_later few x d h.0, structs_later few xs defs h.1)
  structs_later few [] (d ∷ defs) h = absurd h
  structs_later few (x ∷ xs) [] h = absurd h

  object_later : (x : PsObj) → IsObject s x → IsObject s' x
  object_later x h = record {
    dict = h.dict;
    is = h.is;
    kind = h.kind;
    ctype = h.ctype;
    place = h.place;
    label = h.label;
    name = h.name;
    has = fields_later u s s' later h.dict (object_fields h.kind Null h.ctype (Array h.place true) (Str h.label false) (Str h.name false)) h.has;
  }

  pub begin_later : (n : ℕ) (xs : List PsObj) → BeginWith s n xs → BeginWith s' n xs
  begin_later zero xs h = tt
  begin_later (suc n) [] h = absurd h
  begin_later (suc n) (x ∷ xs) h = (object_later x h.0, begin_later n xs h.1)

  pub is_of_later : (x : PsObj) (sense : Sense) → IsOf s x sense → IsOf s' x sense
  is_of_later x (Stands y) h = h
  is_of_later x (Sized size) h = (h.0, h.1, h.2, h.3, fields_later u s s' later h.0 (basic_fields size h.1 h.2) h.4)
  is_of_later x Kind h = (h.0, h.1, h.2, h.3, fields_later u s s' later h.0 (of_arrays h.1 h.2) h.4)
  is_of_later x Variables h = (h.0, h.1, h.2, fields_later u s s' later h.0 (variable_fields h.1) h.3)
  is_of_later x (Called body) h = (h.0, h.1, (has_array_later u s s' later h.0 h.2).has, body_later u s s' later body h.0 h.2 h.3)
  is_of_later x (Structs few defs) h = (h.0, h.1, h.2, later.arrays h.0 h.1 h.3, structs_later few h.1 defs h.4)
  is_of_later x (Objects count) h = (h.0, h.1, h.2, later.arrays h.0 h.1 h.3, begin_later count h.1 h.4)

  sense_later : (word : List ℕ) (sense : Sense) → HasSense s ds word sense → HasSense s' ds word sense
  sense_later word sense h = (h.0, named_later u s s' later ds word there ∙ h.1, is_of_later h.0 sense h.2)

  pub senses_later : (ws : Senses) → HaveSenses s ds ws → HaveSenses s' ds ws
  senses_later [] h = tt
  senses_later (w ∷ ws) h = (sense_later w.0 w.1 h.0, senses_later ws h.1)
