-- A value is put under an integer of a dictionary.
use Rattle.std.proofs.Common.{◌≡◌, ℕ, ℤ, ◌+◌, ◌<◌, ◌≤◌, Bool, true, false, ◌&&◌, ◌==◌, nat_lt, is_some, if◌then◌else◌, Option, Some, None, Ok, Err, List, [], ◌∷◌, ◌++◌, length, slice_index_or, slice_set, refl, sym, ap, ◌∙◌, subst, arith, length-append, eq-eqb, lt-ltb, le-leb, le-ltb}
use Rattle.std.proofs.lemmas.List.{get_or-set_same, get_or-set_other, length-set}
use Rattle.std.proofs.lemmas.Bool.Decides.{Decides-int_eq}
use Rattle.ps_store.specs.declared.object.Part.{Part}
use Rattle.ps_store.specs.declared.object.Part.TheVariants.{Table, Command}
use Rattle.ps_store.specs.declared.object.PsObj.{PsObj}
use Rattle.ps_store.specs.declared.object.PsObj.TheVariants.{Int}
use Rattle.ps_store.specs.declared.object.DictId.{DictId}
use Rattle.ps_store.specs.declared.object.Pair.{Pair}
use Rattle.ps_store.specs.declared.key.Key.{Key}
use Rattle.ps_store.specs.declared.key.Key.TheVariants.{Name as NameKey, Int as IntKey, Bool as TruthKey}
use Rattle.ps_store.specs.declared.fault.StoreFault.TheVariants.{Limit, ReadOnly}
use Rattle.ps_store.specs.Key.{same_key}
use Rattle.ps_store.specs.Entries.{value_at, with_value, replaced}
use Rattle.ps_store.specs.StoreState.{StoreState}
use Rattle.ps_store.specs.Store.{Given, held, entries_of, with_entries, has_room, adding_pair, putting}
use Rattle.ps_step.specs.Results.{◌>>=◌, stored}
use Rattle.ps_step.specs.Keys.{put_under}
use Rattle.ps_step.specs.Compare.{same_part}
use Rattle.ps_step.specs.Composites.{same_dict}
use Rattle.ps_tables.proofs.Kept.{Same, kept_string, kept_array}
use Rattle.ps_tables.proofs.Putting.{replaced_length}
use Rattle.unit_tables.specs.Amended.{PutsUnder}

-- ---- pairs

module _ (n : ℤ) (v : PsObj) where
  abbrev K : Key
  K = IntKey n

  abbrev new : Key × Pair
  new = (K, record { key = Int n; value = v })

  abbrev pub put_if : Bool → List (Key × Pair) → List (Key × Pair)
  put_if true es = replaced es K v
  put_if false es = es ++ new ∷ []

  abbrev pub put_at : List (Key × Pair) → List (Key × Pair)
  put_at es = put_if (is_some (value_at es K)) es

  same_self : same_key K K ≡ true
  same_self = (Decides-int_eq n n).1 refl

  is_number : (k : Key) → same_key K k ≡ true → K ≡ k
  is_number (IntKey m) h = ap IntKey ((Decides-int_eq n m).0 h)
  is_number (NameKey name) h = absurd cc
  is_number (TruthKey b) h = absurd cc

  replaced_found : (es : List (Key × Pair)) → is_some (value_at es K) ≡ true → value_at (replaced es K v) K ≡ Some v
  replaced_found [] h = absurd cc
  replaced_found (e ∷ es) h = by (replaced_found es) (same_key K e.0) refl h
    where
      by : (is_some (value_at es K) ≡ true → value_at (replaced es K v) K ≡ Some v) → (b : Bool) → same_key K e.0 ≡ b → is_some (if b then Some e.1.value else value_at es K) ≡ true
          → value_at (if b then with_value e v ∷ es else e ∷ replaced es K v) K ≡ Some v
      by rest true f h = ap (λ (c : Bool). if c then Some v else value_at es K) f
      by rest false f h = ap (λ (c : Bool). if c then Some e.1.value else value_at (replaced es K v) K) f ∙ rest h

  added_found : (es : List (Key × Pair)) → is_some (value_at es K) ≡ false → value_at (es ++ new ∷ []) K ≡ Some v
  added_found [] h = ap (λ (c : Bool). if c then Some v else None) same_self
  added_found (e ∷ es) h = by (added_found es) (same_key K e.0) refl h
    where
      by : (is_some (value_at es K) ≡ false → value_at (es ++ new ∷ []) K ≡ Some v) → (b : Bool) → same_key K e.0 ≡ b → is_some (if b then Some e.1.value else value_at es K) ≡ false
          → value_at (e ∷ (es ++ new ∷ [])) K ≡ Some v
      by rest true f h = absurd cc
      by rest false f h = ap (λ (c : Bool). if c then Some e.1.value else value_at (es ++ new ∷ []) K) f ∙ rest h

  put_found : (es : List (Key × Pair)) → value_at (put_at es) K ≡ Some v
  put_found es = by (is_some (value_at es K)) refl
    where
      by : (b : Bool) → is_some (value_at es K) ≡ b → value_at (put_if b es) K ≡ Some v
      by true f = replaced_found es f
      by false f = added_found es f

  replaced_other : (key : Key) → same_key key K ≡ false → (es : List (Key × Pair)) → value_at (replaced es K v) key ≡ value_at es key
  replaced_other key apart [] = refl
  replaced_other key apart (e ∷ es) = by (replaced_other key apart es) (same_key K e.0) refl
    where
      by : value_at (replaced es K v) key ≡ value_at es key → (b : Bool) → same_key K e.0 ≡ b → value_at (if b then with_value e v ∷ es else e ∷ replaced es K v) key ≡ value_at (e ∷ es) key
      by rest true f =
          let far : same_key key e.0 ≡ false = subst (λ (k : Key). same_key key k ≡ false) (is_number e.0 f) apart in
          ap (λ (c : Bool). if c then Some v else value_at es key) far ∙ sym (ap (λ (c : Bool). if c then Some e.1.value else value_at es key) far)
      by rest false f = ap (λ (o : Option PsObj). if same_key key e.0 then Some e.1.value else o) rest

  added_other : (key : Key) → same_key key K ≡ false → (es : List (Key × Pair)) → value_at (es ++ new ∷ []) key ≡ value_at es key
  added_other key apart [] = ap (λ (c : Bool). if c then Some v else None) apart
  added_other key apart (e ∷ es) = ap (λ (o : Option PsObj). if same_key key e.0 then Some e.1.value else o) (added_other key apart es)

  put_other : (key : Key) → same_key key K ≡ false → (es : List (Key × Pair)) → value_at (put_at es) key ≡ value_at es key
  put_other key apart es = by (is_some (value_at es K))
    where
      by : (b : Bool) → value_at (put_if b es) key ≡ value_at es key
      by true = replaced_other key apart es
      by false = added_other key apart es

  put_length : (es : List (Key × Pair)) → length (put_at es) ≤ length es + 1
  put_length es = by (is_some (value_at es K))
    where
      by : (b : Bool) → length (put_if b es) ≤ length es + 1
      by true = let e : length (replaced es K v) ≡ length es = replaced_length es K v in omega arith
      by false = let e : length (es ++ new ∷ []) ≡ length es + 1 = length-append es (new ∷ []) in omega arith

-- ---- the store

module _ (s : StoreState) (i : ℕ) (unclosed : s.closed.dicts ≤ i) (there : i < length s.table.dicts) (n : ℤ) (v : PsObj) where
  abbrev D : DictId
  D = record { part = Table; index = i }

  abbrev es : List (Key × Pair)
  es = entries_of s D

  abbrev changed : List (Key × Pair) → ℕ → StoreState
  changed fs units = record s { table = record s.table { dicts = slice_set s.table.dicts i fs; units = units } }

  -- the units behind it
  abbrev units_if : Bool → ℕ
  units_if b = if b then s.table.units else s.table.units + 1

  abbrev pub put_store : StoreState
  put_store = changed (put_at n v es) (units_if (is_some (value_at es (IntKey n))))

  less : (b : Bool) → units_if b ≤ s.table.units + 1
  less true = omega arith
  less false = omega arith

  other_entries : (e : DictId) → same_dict e D ≡ false → (fs : List (Key × Pair)) (units : ℕ) → entries_of (changed fs units) e ≡ entries_of s e
  other_entries e apart fs units = by e.part e.index apart
    where
      by : (p : Part) (j : ℕ) → (same_part p Table && j == i) ≡ false → slice_index_or (held (changed fs units) p).dicts j [] ≡ slice_index_or (held s p).dicts j []
      by Table j apart = get_or-set_other s.table.dicts i j fs [] (λ same. absurd (let e : (j == i) ≡ true = eq-eqb _ _ same in let f : true ≡ false = sym e ∙ apart in cc))
      by Command j apart = refl

  put_there : (p : Part) (j : ℕ) (fs : List (Key × Pair)) (units : ℕ) → j < length (held s p).dicts → j < length (held (changed fs units) p).dicts
  put_there Table j fs units h = let e : length (slice_set s.table.dicts i fs) ≡ length s.table.dicts = length-set s.table.dicts i fs in omega arith
  put_there Command j fs units h = h

  arrays_same : (p : Part) → (held put_store p).arrays ≡ (held s p).arrays
  arrays_same Table = refl
  arrays_same Command = refl

  strings_same : (p : Part) → (held put_store p).strings ≡ (held s p).strings
  strings_same Table = refl
  strings_same Command = refl

  same_rest : Same s put_store
  same_rest = record { arrays = arrays_same; strings = strings_same }

  pub puts_number : PutsUnder s put_store D (IntKey n) v
  puts_number =
      let fs : List (Key × Pair) = put_at n v es in
      let u : ℕ = units_if (is_some (value_at es (IntKey n))) in
      let here : entries_of put_store D ≡ fs = get_or-set_same s.table.dicts i fs [] there in
      let few : u ≤ s.table.units + 1 = less (is_some (value_at es (IntKey n))) in
      record {
        found = ap (λ (l : List (Key × Pair)). value_at l (IntKey n)) here ∙ put_found n v es;
        others = λ key apart. ap (λ (l : List (Key × Pair)). value_at l key) here ∙ put_other n v key apart es;
        few = subst (λ (l : List (Key × Pair)). length l ≤ length es + 1) (sym here) (put_length n v es);
        dicts = λ e apart. other_entries e apart fs u;
        there = λ e h. put_there e.part e.index fs u h;
        strings = kept_string s put_store same_rest;
        arrays = kept_array s put_store same_rest;
        part = refl;
        closed = refl;
        base = refl;
        command = refl;
        more = length-set s.table.dicts i fs;
        counted = omega arith;
      }

  module _ (few : length es < 1000000) (room : s.table.units + s.command.units + 1 ≤ 8000000) where
    added : adding_pair s D (IntKey n) (record { key = Int n; value = v }) ≡ Ok (tt, changed (es ++ (IntKey n, record { key = Int n; value = v }) ∷ []) (s.table.units + 1))
    added =
        let size : nat_lt (length es) 1000000 ≡ true = lt-ltb _ _ few in
        let fits : has_room s 1 ≡ true = le-leb _ _ room in
        ap (λ (b : Bool). if b && has_room s 1 then Ok (tt, changed (es ++ (IntKey n, record { key = Int n; value = v }) ∷ []) (s.table.units + 1)) else Err Limit) size
        ∙ ap (λ (b : Bool). if b then Ok (tt, changed (es ++ (IntKey n, record { key = Int n; value = v }) ∷ []) (s.table.units + 1)) else Err Limit) fits

    put_by : (b : Bool) → (if b then Ok (tt, with_entries s D (replaced es (IntKey n) v)) else adding_pair s D (IntKey n) (record { key = Int n; value = v })) ≡ Ok (tt, changed (put_if n v b es) (units_if b))
    put_by true = refl
    put_by false = added

    put_given : putting s D (IntKey n) (Ok (Int n, s)) v ≡ Ok (tt, put_store)
    put_given =
        let after_closed : nat_lt i s.closed.dicts ≡ false = le-ltb _ _ unclosed in
        ap (λ (b : Bool). if b then Err ReadOnly else if is_some (value_at es (IntKey n)) then Ok (tt, with_entries s D (replaced es (IntKey n) v)) else adding_pair s D (IntKey n) (record { key = Int n; value = v })) after_closed
        ∙ put_by (is_some (value_at es (IntKey n)))

    pub put_numbered : put_under s D (Int n) v ≡ Ok put_store
    put_numbered = ap (λ (g : Given (Unit {0})). stored g >>= λ given. Ok given.1) put_given
