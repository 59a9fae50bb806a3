-- A value is put under a name of a new dictionary.
use Rattle.std.proofs.Common.{◌≡◌, ℕ, suc, ◌+◌, ◌<◌, ◌≤◌, Bool, true, false, ◌&&◌, nat_le, nat_lt, bytes_eq, is_some, if◌then◌else◌, Some, Ok, Err, List, [], ◌∷◌, ◌++◌, length, slice_set, refl, ap, ◌∙◌, arith, length-append, lt-ltb, le-leb, le-ltb}
use Rattle.std.proofs.Math.Seq.{get_or-append_seam, set-append_seam}
use Rattle.ps_store.specs.declared.object.Part.TheVariants.{Table}
use Rattle.ps_store.specs.declared.object.PsObj.{PsObj}
use Rattle.ps_store.specs.declared.object.PsObj.TheVariants.{Name, Dict}
use Rattle.ps_store.specs.declared.object.DictId.{DictId}
use Rattle.ps_store.specs.declared.object.StringId.{StringId}
use Rattle.ps_store.specs.declared.object.Pair.{Pair}
use Rattle.ps_store.specs.declared.key.Key.{Key}
use Rattle.ps_store.specs.declared.key.Key.TheVariants.{Name as NameKey}
use Rattle.ps_store.specs.declared.fault.StoreFault.TheVariants.{Limit, ReadOnly}
use Rattle.ps_store.specs.Key.{same_key}
use Rattle.ps_store.specs.Entries.{value_at, with_value, replaced}
use Rattle.ps_store.specs.StoreState.{StoreState}
use Rattle.ps_store.specs.Store.{Given, bytes_of, entries_of, with_entries, has_room, adding_pair, putting}
use Rattle.ps_text.specs.Grown.{IsString}
use Rattle.ps_step.specs.Results.{◌>>=◌, stored}
use Rattle.ps_step.specs.Composites.{put_in}
use Rattle.ps_tables.specs.Dictionaries.{Fields, updated, AreFields, none, field, with_dict, next_dict}

abbrev pub pair_of : StringId → PsObj → Pair
pair_of t v = record { key = Name t false; value = v }

abbrev pub put_if : Bool → List (Key × Pair) → List ℕ → StringId → PsObj → List (Key × Pair)
put_if b es name t v = if b then replaced es (NameKey name) v else es ++ (NameKey name, pair_of t v) ∷ []

-- the pairs once a value is put
abbrev pub put_at : List (Key × Pair) → List ℕ → StringId → PsObj → List (Key × Pair)
put_at es name t v = put_if (is_some (value_at es (NameKey name))) es name t v

pub replaced_length : (es : List (Key × Pair)) (key : Key) (v : PsObj) → length (replaced es key v) ≡ length es
replaced_length [] key v = refl
replaced_length (e ∷ es) key v = by (same_key key e.0) (replaced_length es key v)
  where
    by : (b : Bool) → length (replaced es key v) ≡ length es → length (if b then with_value e v ∷ es else e ∷ replaced es key v) ≡ suc (length es)
    by true h = refl
    by false h = ap suc h

-- ---- fields

-- a first pair, and what is put
abbrev whole : Bool → List ℕ → StringId → PsObj → List (Key × Pair) → List ℕ → StringId → PsObj → List (Key × Pair)
whole b other u w es name t v =
    if is_some (if b then Some w else value_at es (NameKey name))
    then (if b then (NameKey other, pair_of u v) ∷ es else (NameKey other, pair_of u w) ∷ replaced es (NameKey name) v)
    else (NameKey other, pair_of u w) ∷ (es ++ (NameKey name, pair_of t v) ∷ [])

pub fields_at : (s : StoreState) (es : List (Key × Pair)) (fs : Fields) (name : List ℕ) (t : StringId) (v : PsObj) → IsString s t name → AreFields s es fs → AreFields s (put_at es name t v) (updated fs name v)
fields_at s _ _ name t v is none = field name t v [] [] is none
fields_at s _ _ name t v is (field other u w es fs i r) = by (bytes_eq name other) (fields_at s es fs name t v is r)
  where
    behind : (b : Bool) → AreFields s (put_if b es name t v) (updated fs name v)
        → AreFields s (if b then (NameKey other, pair_of u w) ∷ replaced es (NameKey name) v else (NameKey other, pair_of u w) ∷ (es ++ (NameKey name, pair_of t v) ∷ [])) ((other, w) ∷ updated fs name v)
    behind true h = field other u w (replaced es (NameKey name) v) (updated fs name v) i h
    behind false h = field other u w (es ++ (NameKey name, pair_of t v) ∷ []) (updated fs name v) i h

    by : (b : Bool) → AreFields s (put_at es name t v) (updated fs name v) → AreFields s (whole b other u w es name t v) (if b then (other, v) ∷ fs else (other, w) ∷ updated fs name v)
    by true h = field other u v es fs i r
    by false h = behind (is_some (value_at es (NameKey name))) h

-- ---- the store

module _ (s : StoreState) (closed : s.closed.dicts ≤ length s.table.dicts) where
  abbrev D : DictId
  D = next_dict s

  abbrev dicts_store : List (List (Key × Pair)) → ℕ → StoreState
  dicts_store dicts units = record {
    table = record s.table { dicts = dicts; units = units };
    command = s.command;
    part = Table;
    closed = s.closed;
    base = s.base;
    top = s.top;
  }

  pub entries_there : (es : List (Key × Pair)) → entries_of (with_dict s es) D ≡ es
  entries_there es = get_or-append_seam s.table.dicts es [] []

  set_there : (es fs : List (Key × Pair)) → slice_set (s.table.dicts ++ es ∷ []) (length s.table.dicts) fs ≡ s.table.dicts ++ fs ∷ []
  set_there es fs = set-append_seam s.table.dicts es [] fs

  same_store : (es fs : List (Key × Pair)) (units : ℕ) → units ≡ s.table.units + (1 + length fs) → dicts_store (slice_set (s.table.dicts ++ es ∷ []) (length s.table.dicts) fs) units ≡ with_dict s fs
  same_store es fs units e =
      ap (λ (ds : List (List (Key × Pair))). dicts_store ds units) (set_there es fs)
      ∙ ap (dicts_store (s.table.dicts ++ fs ∷ [])) e

  module _ (es : List (Key × Pair)) (name : List ℕ) (t : StringId) (v : PsObj) (few : length es < 1000000) (room : s.table.units + s.command.units + (2 + length es) ≤ 8000000) where
    abbrev S : StoreState
    S = with_dict s es

    added : adding_pair S D (NameKey name) (pair_of t v) ≡ Ok (tt, with_dict s (es ++ (NameKey name, pair_of t v) ∷ []))
    added =
        let fs : List (Key × Pair) = es ++ (NameKey name, pair_of t v) ∷ [] in
        let short : nat_lt (length es) 1000000 ≡ true = lt-ltb _ _ few in
        let fits : has_room S 1 ≡ true = le-leb _ _ (omega arith) in
        let len : length fs ≡ length es + 1 = length-append es ((NameKey name, pair_of t v) ∷ []) in
        ap (λ (xs : List (Key × Pair)). if nat_lt (length xs) 1000000 && has_room S 1
        then Ok (tt, dicts_store (slice_set (s.table.dicts ++ es ∷ []) (length s.table.dicts) (xs ++ (NameKey name, pair_of t v) ∷ [])) (S.table.units + 1)) else Err Limit) (entries_there es)
        ∙ ap (λ (b : Bool). if b && has_room S 1 then Ok (tt, dicts_store (slice_set (s.table.dicts ++ es ∷ []) (length s.table.dicts) fs) (S.table.units + 1)) else Err Limit) short
        ∙ ap (λ (b : Bool). if b then Ok (tt, dicts_store (slice_set (s.table.dicts ++ es ∷ []) (length s.table.dicts) fs) (S.table.units + 1)) else Err Limit) fits
        ∙ ap (λ (x : StoreState). Ok (tt, x)) (same_store es fs (S.table.units + 1) (omega arith))

    replaced_there : with_entries S D (replaced es (NameKey name) v) ≡ with_dict s (replaced es (NameKey name) v)
    replaced_there =
        let len : length (replaced es (NameKey name) v) ≡ length es = replaced_length es (NameKey name) v in
        same_store es (replaced es (NameKey name) v) S.table.units (omega arith)

    put_by : (b : Bool) → (if b then Ok (tt, with_entries S D (replaced es (NameKey name) v)) else adding_pair S D (NameKey name) (pair_of t v)) ≡ Ok (tt, with_dict s (put_if b es name t v))
    put_by true = ap (λ (x : StoreState). Ok (tt, x)) replaced_there
    put_by false = added

    put_given : putting S D (NameKey name) (Ok (Name t false, S)) v ≡ Ok (tt, with_dict s (put_at es name t v))
    put_given =
        let unclosed : nat_lt (length s.table.dicts) s.closed.dicts ≡ false = le-ltb _ _ closed in
        ap (λ (b : Bool). if b then Err ReadOnly else if is_some (value_at (entries_of S D) (NameKey name)) then Ok (tt, with_entries S D (replaced (entries_of S D) (NameKey name) v)) else adding_pair S D (NameKey name) (pair_of t v)) unclosed
        ∙ ap (λ (xs : List (Key × Pair)). if is_some (value_at xs (NameKey name)) then Ok (tt, with_entries S D (replaced xs (NameKey name) v)) else adding_pair S D (NameKey name) (pair_of t v)) (entries_there es)
        ∙ put_by (is_some (value_at es (NameKey name)))

    -- `put` under a literal name
    pub put_made : length name ≤ 127 → bytes_of S t ≡ name → put_in S (Dict D) (Name t false) v ≡ Ok (with_dict s (put_at es name t v))
    put_made short is =
        let fits : nat_le (length name) 127 ≡ true = le-leb _ _ short in
        ap (λ (text : List ℕ). stored (if nat_le (length text) 127 then putting S D (NameKey text) (Ok (Name t false, S)) v else Err Limit) >>= λ given. Ok given.1) is
        ∙ ap (λ (b : Bool). stored (if b then putting S D (NameKey name) (Ok (Name t false, S)) v else Err Limit) >>= λ given. Ok given.1) fits
        ∙ ap (λ (g : Given (Unit {0})). stored g >>= λ given. Ok given.1) put_given

pub put_length : (es : List (Key × Pair)) (name : List ℕ) (t : StringId) (v : PsObj) → length (put_at es name t v) ≤ length es + 1
put_length es name t v = by (is_some (value_at es (NameKey name)))
  where
    by : (b : Bool) → length (put_if b es name t v) ≤ length es + 1
    by true = let len : length (replaced es (NameKey name) v) ≡ length es = replaced_length es (NameKey name) v in omega arith
    by false = let len : length (es ++ (NameKey name, pair_of t v) ∷ []) ≡ length es + 1 = length-append es ((NameKey name, pair_of t v) ∷ []) in omega arith
