-- What is kept of structs. No type is more than 64 deep, so no member is more than 63.
use Rattle.std.specs.Prelude.{◌≡◌, ◌≤◌, ℕ, Bool, true, false, ◌||◌, nat_le, if◌then◌else◌, List, map, Option, Some, None, slice_get}
use Rattle.std.specs.Option.{is_some}
use Rattle.c_tree.specs.declared.types.StructDef.{StructDef}
use Rattle.c_tree.specs.declared.types.Member.{Member}
use Rattle.c_tree.specs.Layout.{members_of, alignment_within, alignment_of_members}
use Rattle.c_typing.specs.Plain.{Plain, Pointer, Array, Struct, is_struct, is_empty}
use Rattle.c_defs.specs.declared.rows.StructRow.{StructRow}
use Rattle.c_defs.specs.Numbers.{Finds}
use Rattle.c_defs.specs.Members.{name_of}
use Rattle.c_defs.specs.Depths.{is_within, are_within}
use Rattle.c_defs.specs.Leaves.{leaf_count, leaves_of_members}

abbrev pub row_in : Option (Option StructRow) → Option StructRow
row_in None = None
row_in (Some r) = r

-- the row of a struct by its number
abbrev pub row_at : List (Option StructRow) → ℕ → Option StructRow
row_at rows s = row_in (slice_get rows s)

-- whether each struct that a type holds, or points to through an array or another pointer, has a row
abbrev pub is_settled : List (Option StructRow) → Plain → Bool
is_settled rows (Pointer t) = is_struct t || is_settled rows t
is_settled rows (Array t n) = is_settled rows t
is_settled rows (Struct s) = is_some (row_at rows s)
is_settled rows _ = true

-- how many leaves members have, where that is kept
abbrev pub IsCount : Option ℕ → ℕ → Type 0
IsCount None n = Unit {0}
IsCount (Some k) n = n ≡ k

abbrev pub bytes_aligned : Bool → ℕ
bytes_aligned wide = if wide then 4 else 1

-- What a row says of a struct's members: their names, how deep the deepest is, how they are aligned, and how many leaves they have. What depends on how
-- deep one looks is the same from the deepest on.
abbrev pub Describes : List StructDef → List (Option StructRow) → List Member → StructRow → Type 0
Describes defs rows ms r = record {
  members : is_empty ms ≡ false;
  settled : are_within (is_settled rows) ms ≡ true;
  depth : (n : ℕ) → n ≤ 63 → are_within (is_within defs n) ms ≡ nat_le r.deepest n;
  aligned : (n : ℕ) → r.deepest ≤ n → n ≤ 63 → alignment_of_members (alignment_within defs n) ms ≡ bytes_aligned r.wide;
  counted : (n : ℕ) → r.deepest ≤ n → n ≤ 63 → IsCount r.leaves (leaves_of_members (leaf_count defs n) ms);
  numbers : Finds r.numbers (map name_of ms);
}

abbrev pub IsKept : List StructDef → List (Option StructRow) → List Member → Option StructRow → Type 0
IsKept defs rows ms None = Unit {0}
IsKept defs rows ms (Some r) = Describes defs rows ms r

-- each row describes its struct
unfoldable pub AreKept : List StructDef → List (Option StructRow) → Type 0
AreKept defs rows = (s : ℕ) → IsKept defs rows (members_of defs s) (row_at rows s)
