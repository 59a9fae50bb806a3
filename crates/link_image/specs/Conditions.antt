-- What a linker asks of objects, and what is wrong with those of which it makes no image.
use Rattle.std.specs.Prelude.{◌≡◌, ◌≤◌, ℕ, ◌+◌, ◌%◌, ◌^◌, Bool, true, false, not, ◌&&◌, ◌||◌, nat_eq, nat_lt, nat_le, if◌then◌else◌, List, [], ◌∷◌, length, Some, slice_get, bytes_eq}
use Rattle.std.specs.List.{AllByRecursion, list_all}
use Rattle.machine_state.specs.declared.layout.TheConstants.{MIPS, SPARC, DATA, DATA_SIZE}
use Rattle.obj_file.specs.declared.object.Form.{Form}
use Rattle.obj_file.specs.declared.object.Form.TheVariants.{Word}
use Rattle.obj_file.specs.declared.object.Name.{Name}
use Rattle.obj_file.specs.declared.object.StaticDef.{StaticDef}
use Rattle.obj_file.specs.declared.object.FunctionRow.{FunctionRow}
use Rattle.obj_file.specs.declared.object.Object.{Object}
use Rattle.obj_file.specs.declared.object.Use.{Use}
use Rattle.obj_placed.specs.Patched.{stands_in}
use Rattle.obj_placed.specs.Placed.{all_statics, joined, names_of}
use Rattle.link_image.specs.Linked.{room_of, linked_addresses, linked_text}
use Rattle.link_image.specs.declared.fault.LinkFault.{LinkFault}
use Rattle.link_image.specs.declared.fault.LinkFault.TheVariants as fault

-- ---- the target of all objects is that of the first, and known

abbrev pub is_known : (target : ℕ) → Bool
is_known target = nat_eq target MIPS || nat_eq target SPARC

abbrev pub is_for : (target : ℕ) → Object → Bool
is_for target o = nat_eq o.target target

abbrev pub are_for_one : List Object → Bool
are_for_one [] = true
are_for_one (o ∷ os) = is_known o.target && list_all (is_for o.target) (o ∷ os)

-- ---- texts are of whole words, and together of 4 to 16,777,216 bytes

abbrev pub has_whole_words : Object → Bool
has_whole_words o = nat_eq (length o.text % 4) 0

abbrev pub is_sized : (text : List ℕ) → Bool
is_sized text = nat_le 4 (length text) && nat_le (length text) (2 ^ 24)

-- ---- static objects, the first at this address, lie in the data region

abbrev pub are_fitting : (at : ℕ) → List StaticDef → Bool
are_fitting at [] = true
are_fitting at (s ∷ ss) = nat_le (at + length s.bytes) (DATA + DATA_SIZE) && are_fitting (at + room_of s) ss

-- ---- names and rows point into their text

abbrev pub name_lies : (size : ℕ) → Name → Bool
name_lies size n = nat_lt n.at size

abbrev pub point_lies : (size : ℕ) → ℕ → Bool
point_lies size at = nat_lt at size

abbrev pub row_lies : (size : ℕ) → FunctionRow → Bool
row_lies size r = nat_le r.entry r.end && (nat_le r.end size && list_all (point_lies size) r.points)

abbrev pub has_rows_inside : Object → Bool
has_rows_inside o = list_all (name_lies (length o.text)) o.names && list_all (row_lies (length o.text)) o.functions

-- ---- uses lie in the text, or are of words in the static objects

abbrev pub has_form : (in_text : Bool) → Form → Bool
has_form in_text Word = true
has_form in_text _ = in_text

-- one that stands there
abbrev pub use_lies : (in_text : Bool) → (size : ℕ) → Use → Bool
use_lies in_text size u = not (stands_in in_text u) || (nat_le (u.at + 4) size && has_form in_text u.form)

abbrev pub has_uses_inside : Object → Bool
has_uses_inside o = list_all (use_lies true (length o.text)) o.uses && list_all (use_lies false (length (joined o.statics))) o.uses

-- ---- each name that is used is defined once

-- how many of these names it is
abbrev pub definitions : List (List ℕ × ℕ) → List ℕ → ℕ
definitions [] name = 0
definitions (n ∷ ns) name = (if bytes_eq n.0 name then 1 else 0) + definitions ns name

abbrev pub definition_count : List Object → List ℕ → ℕ
definition_count objects name = definitions (names_of objects (linked_addresses objects)) name

abbrev pub IsDefinedOnce : List Object → Use → Type 0
IsDefinedOnce objects u = definition_count objects u.name ≡ 1

abbrev pub HasNamesOnce : List Object → Object → Type 0
HasNamesOnce objects o = AllByRecursion (IsDefinedOnce objects) o.uses

abbrev pub UsesName : Object → List ℕ → Type 0
UsesName o name = (k : ℕ) × (u : Use) × (slice_get o.uses k ≡ Some u) × (u.name ≡ name)

abbrev pub IsUsed : List Object → List ℕ → Type 0
IsUsed objects name = (i : ℕ) × (o : Object) × (slice_get objects i ≡ Some o) × UsesName o name

-- ---- all of it, and what is wrong

pub record AreLinkable (objects : List Object) : Type 0 where
  pub target : are_for_one objects ≡ true
  pub words : list_all has_whole_words objects ≡ true
  pub size : is_sized (linked_text objects) ≡ true
  pub statics : are_fitting DATA (all_statics objects) ≡ true
  pub rows : list_all has_rows_inside objects ≡ true
  pub uses : list_all has_uses_inside objects ≡ true
  pub names : AllByRecursion (HasNamesOnce objects) objects

abbrev pub IsFault : List Object → LinkFault → Type 0
IsFault objects fault.Target = are_for_one objects ≡ false
IsFault objects fault.Words = list_all has_whole_words objects ≡ false
IsFault objects fault.Size = is_sized (linked_text objects) ≡ false
IsFault objects fault.Statics = are_fitting DATA (all_statics objects) ≡ false
IsFault objects fault.Rows = list_all has_rows_inside objects ≡ false
IsFault objects fault.Uses = list_all has_uses_inside objects ≡ false
IsFault objects (fault.Unresolved name) = IsUsed objects name × (definition_count objects name ≡ 0)
IsFault objects (fault.Doubled name) = IsUsed objects name × (2 ≤ definition_count objects name)
IsFault objects fault.NoMemory = Unit {0}
