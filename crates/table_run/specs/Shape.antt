-- The shape of a table: what is asked of it before a session. The rest is checked when it is used.
use Rattle.std.specs.Prelude.{◌≡◌, ℕ, ℤ, pos, Bool, true, false, nat_eq, if◌then◌else◌, ◌&&◌, List, [], length, codes, Option, Some}
use Rattle.std.specs.Str.{bytes_eq}
use Rattle.std.specs.Ordering.{int_eq}
use Rattle.ps_store.specs.declared.object.PsObj.{PsObj}
use Rattle.ps_store.specs.declared.object.PsObj.TheVariants.{Int, Str, Array, Dict}
use Rattle.ps_store.specs.declared.object.DictId.{DictId}
use Rattle.ps_store.specs.declared.key.Key.TheVariants.{Name as NameKey}
use Rattle.ps_store.specs.Held.{Held}
use Rattle.ps_store.specs.StoreState.{StoreState}
use Rattle.ps_store.specs.Store.{entries_of, bytes_of}
use Rattle.ps_store.specs.Entries.{value_at}

-- the name of a target: of MIPS, whose byte is 1, or of SPARC
abbrev pub target_text : ℕ → List ℕ
target_text target = if nat_eq target 1 then codes "mips" else codes "sparc"

abbrev pub is_number : ℤ → Option PsObj → Bool
is_number n (Some (Int k)) = int_eq k n
is_number n o = false

abbrev pub is_text : StoreState → List ℕ → Option PsObj → Bool
is_text s text (Some (Str t x)) = bytes_eq (bytes_of s t) text
is_text s text o = false

abbrev pub is_dict : Option PsObj → Bool
is_dict (Some (Dict d)) = true
is_dict o = false

abbrev pub is_array : Option PsObj → Bool
is_array (Some (Array a x)) = true
is_array o = false

abbrev pub value_in : StoreState → DictId → List ℕ → Option PsObj
value_in s d name = value_at (entries_of s d) (NameKey name)

-- the version is 1, the target this one, and anchors, structs and units are there
abbrev pub has_entries : StoreState → (target : ℕ) → DictId → Bool
has_entries s target d =
    is_number (pos 1) (value_in s d (codes "ldb")) && (is_text s (target_text target) (value_in s d (codes "target"))
    && (is_dict (value_in s d (codes "anchors")) && (is_dict (value_in s d (codes "structs")) && is_array (value_in s d (codes "units")))))

-- nothing is in a part of a store
abbrev pub is_unused : Held → Bool
is_unused h = nat_eq (length h.arrays) 0 && (nat_eq (length h.dicts) 0 && (nat_eq (length h.strings) 0 && nat_eq h.units 0))

-- the dictionary is the top of a table for the target, and nothing is in the part of commands
abbrev pub is_table : StoreState → (target : ℕ) → DictId → Bool
is_table s target d = has_entries s target d && is_unused s.command

abbrev pub no_objects : Held
no_objects = record { arrays = []; dicts = []; strings = []; units = 0 }

-- the top of the table is set, and has these entries; the part of commands has nothing
pub record HasShape (s : StoreState) (target : ℕ) : Type 0 where
  pub top : DictId
  pub top_is : s.top ≡ Some top
  pub entries : has_entries s target top ≡ true
  pub nothing : s.command ≡ no_objects
