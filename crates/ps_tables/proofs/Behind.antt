-- The prelude leaves what a table begins with.
use Rattle.std.proofs.Common.{◌≡◌, ℕ, suc, zero, ◌+◌, ◌<◌, ◌≤◌, Bool, true, false, ◌&&◌, bytes_eq, is_some, is_none, nat_le, leb-true, if◌then◌else◌, Option, Some, None, List, [], ◌∷◌, ◌++◌, length, codes, refl, sym, ap, ◌∙◌, subst, arith}
use Rattle.std.specs.Prelude.{option_map}
use Rattle.std.specs.Fmt.{digits}
use Rattle.std.specs.Cmp.Lexicographic.{bytes_decides}
use Rattle.ps_scan.specs.Bytes.{is_regular, is_white, is_special, is_hexadecimal}
use Rattle.ps_store.specs.declared.object.Part.TheVariants.{Table}
use Rattle.ps_store.specs.declared.object.PsObj.{PsObj}
use Rattle.ps_store.specs.declared.object.PsObj.TheVariants.{Op}
use Rattle.ps_store.specs.declared.object.DictId.{DictId}
use Rattle.ps_store.specs.declared.object.Pair.{Pair}
use Rattle.ps_store.specs.declared.key.Key.{Key}
use Rattle.ps_store.specs.declared.key.Key.TheVariants.{Name as NameKey, Int as IntKey, Bool as TruthKey}
use Rattle.ps_store.specs.Key.{same_key}
use Rattle.ps_store.specs.Entries.{value_at}
use Rattle.ps_store.specs.Operators.{operator_number}
use Rattle.ps_store.specs.StoreState.{StoreState}
use Rattle.ps_store.specs.Store.{entries_of}
use Rattle.ps_step.specs.Keys.{or_else, found_in, named}
use Rattle.ps_print.specs.Loaded.{loaded}
use Rattle.ps_tables.specs.Defined.{in_table}
use Rattle.ps_tables.specs.Pieces.{IsNoMark}
use Rattle.ps_tables.specs.Making.{IsMaking}
use Rattle.ps_tables.specs.Senses.{Knowing}
use Rattle.ps_tables.specs.WordsKnown.{AreNoMarks, printer_senses}
use Rattle.ps_tables.specs.Behind.{prelude_dict, or_null, printer_at, loaded_printers}

-- ---- names of operators that no dictionary has

abbrev is_free_key : Key → Bool
is_free_key (NameKey name) = is_none (operator_number name)
is_free_key other = true

abbrev are_free : List (Key × Pair) → Bool
are_free [] = true
are_free (e ∷ es) = is_free_key e.0 && are_free es

both : (a b : Bool) → (a && b) ≡ true → (a ≡ true) × (b ≡ true)
both true b e = (refl, e)
both false b e = absurd cc

key_free : (name : List ℕ) (n : ℕ) (k : Key) → operator_number name ≡ Some n → is_free_key k ≡ true → same_key (NameKey name) k ≡ false
key_free name n (NameKey other) op free = by (bytes_eq name other) refl
  where
    by : (b : Bool) → bytes_eq name other ≡ b → b ≡ false
    by false h = refl
    by true h =
        let same : name ≡ other = (bytes_decides name other).0 h in
        let some : operator_number other ≡ Some n = ap operator_number (sym same) ∙ op in
        absurd (let f : is_none (Some n) ≡ true = ap is_none (sym some) ∙ free in cc)
key_free name n (IntKey i) op free = refl
key_free name n (TruthKey b) op free = refl

none_free : (es : List (Key × Pair)) (name : List ℕ) (n : ℕ) → operator_number name ≡ Some n → are_free es ≡ true → value_at es (NameKey name) ≡ None
none_free [] name n op free = refl
none_free (e ∷ es) name n op free =
    let two = both (is_free_key e.0) (are_free es) free in
    let apart : same_key (NameKey name) e.0 ≡ false = key_free name n e.0 op two.0 in
    ap (λ (b : Bool). if b then Some e.1.value else value_at es (NameKey name)) apart ∙ none_free es name n op two.1

-- ---- what the prelude left

abbrev S : StoreState
S = loaded.store

abbrev all : List DictId
all = in_table 1 ∷ prelude_dict

below_free : are_free (entries_of S (in_table 0)) ≡ true
unfolding digits is_white is_special is_regular is_hexadecimal operator_number
below_free = refl

top_empty : entries_of S (in_table 1) ≡ []
unfolding digits is_white is_special is_regular is_hexadecimal operator_number
top_empty = refl

made_in : S.part ≡ Table
unfolding digits is_white is_special is_regular is_hexadecimal operator_number
made_in = refl

closed_first : nat_le S.closed.dicts 1 ≡ true
unfolding digits is_white is_special is_regular is_hexadecimal operator_number
closed_first = refl

all_there : nat_le 2 (length S.table.dicts) ≡ true
unfolding digits is_white is_special is_regular is_hexadecimal operator_number
all_there = refl

no_kind : named S all (codes "kind") ≡ None
unfolding digits is_white is_special is_regular is_hexadecimal operator_number
no_kind = refl

no_tag : named S all (codes "tag") ≡ None
unfolding digits is_white is_special is_regular is_hexadecimal operator_number
no_tag = refl

is_some_or : (o : Option PsObj) → is_some o ≡ true → o ≡ Some (or_null o)
is_some_or (Some x) h = refl
is_some_or None h = absurd cc

has_PrintInt : is_some (named S all (codes "PrintInt")) ≡ true
unfolding digits is_white is_special is_regular is_hexadecimal operator_number
has_PrintInt = refl

has_PrintUnsigned : is_some (named S all (codes "PrintUnsigned")) ≡ true
unfolding digits is_white is_special is_regular is_hexadecimal operator_number
has_PrintUnsigned = refl

has_PrintChar : is_some (named S all (codes "PrintChar")) ≡ true
unfolding digits is_white is_special is_regular is_hexadecimal operator_number
has_PrintChar = refl

has_PrintPointer : is_some (named S all (codes "PrintPointer")) ≡ true
unfolding digits is_white is_special is_regular is_hexadecimal operator_number
has_PrintPointer = refl

has_PrintArray : is_some (named S all (codes "PrintArray")) ≡ true
unfolding digits is_white is_special is_regular is_hexadecimal operator_number
has_PrintArray = refl

has_PrintStruct : is_some (named S all (codes "PrintStruct")) ≡ true
unfolding digits is_white is_special is_regular is_hexadecimal operator_number
has_PrintStruct = refl

pub no_marks : AreNoMarks loaded_printers
unfolding digits is_white is_special is_regular is_hexadecimal operator_number
no_marks = (tt, tt, tt, tt, tt, tt)

pub stacked : loaded.dictionaries ≡ all
unfolding digits is_white is_special is_regular is_hexadecimal operator_number
stacked = refl

pub no_operands : loaded.operands ≡ []
unfolding digits is_white is_special is_regular is_hexadecimal operator_number
no_operands = refl

operators_known : (name : List ℕ) (n : ℕ) → operator_number name ≡ Some n → named S all name ≡ Some (Op n)
operators_known name n op =
    let top : value_at (entries_of S (in_table 1)) (NameKey name) ≡ None = ap (λ (es : List (Key × Pair)). value_at es (NameKey name)) top_empty in
    let below : value_at (entries_of S (in_table 0)) (NameKey name) ≡ None = none_free (entries_of S (in_table 0)) name n op below_free in
    ap (λ (x : Option PsObj). or_else (or_else x (or_else (value_at (entries_of S (in_table 0)) (NameKey name)) None)) (option_map (λ m. Op m) (operator_number name))) top
    ∙ ap (λ (x : Option PsObj). or_else (or_else x None) (option_map (λ m. Op m) (operator_number name))) below
    ∙ ap (option_map (λ m. Op m)) op

pub prelude_known : Knowing S 1 prelude_dict 0 (printer_senses loaded_printers)
prelude_known =
    let first : S.closed.dicts ≤ 1 = leb-true S.closed.dicts 1 closed_first in
    let there : 2 ≤ length S.table.dicts = leb-true 2 (length S.table.dicts) all_there in
    record {
      making = record { part = made_in; closed = omega arith; there = (omega arith, (omega arith, tt)); operators = operators_known };
      unclosed = first;
      others = (refl, tt);
      small = let e : length (entries_of S (in_table 1)) ≡ 0 = ap length top_empty in omega arith;
      no_kind = no_kind;
      no_tag = no_tag;
      have = (
        (printer_at (codes "PrintInt"), is_some_or (named S all (codes "PrintInt")) has_PrintInt, refl),
        (
          (printer_at (codes "PrintUnsigned"), is_some_or (named S all (codes "PrintUnsigned")) has_PrintUnsigned, refl),
          (
            (printer_at (codes "PrintChar"), is_some_or (named S all (codes "PrintChar")) has_PrintChar, refl),
            (
              (printer_at (codes "PrintPointer"), is_some_or (named S all (codes "PrintPointer")) has_PrintPointer, refl),
              (
                (printer_at (codes "PrintArray"), is_some_or (named S all (codes "PrintArray")) has_PrintArray, refl),
                (
                  (printer_at (codes "PrintStruct"), is_some_or (named S all (codes "PrintStruct")) has_PrintStruct, refl),
                  tt,
                ),
              ),
            ),
          ),
        ),
      );
    }
