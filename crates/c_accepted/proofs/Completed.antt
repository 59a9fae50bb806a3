-- What is asked of a struct where its `}` stands (C90 6.5.2.1).
use Rattle.std.specs.Prelude.{◌≡◌, ◌≤◌, ℕ, true, false, List, length, map, Some, slice_get}
use Rattle.std.specs.List.{AllByRecursion}
use Rattle.c_tree.specs.declared.types.StructDef.{StructDef}
use Rattle.c_tree.specs.Layout.{members_of, IsLaidOut}
use Rattle.c_typing.specs.Plain.{is_empty}
use Rattle.c_typing.specs.Declarations.{Differ, member_name}
use Rattle.c_defs.specs.Depths.{is_within, are_within}
use Rattle.c_struct.specs.Structs.{written}
use Rattle.c_accepted.specs.Grown.{IsHeld}

-- It has at most 1,048,576 bytes, its members are at most 63 deep, have names that differ and complete types, and it stands as the layout has it.
pub record IsSound (defs : List StructDef) (d : StructDef) : Type 0 where
  pub small : d.size ≤ 1048576
  pub deep : are_within (is_within defs 63) d.members ≡ true
  pub differ : Differ (map (member_name defs) d.members)
  pub held : AllByRecursion (IsHeld defs) d.members
  pub laid : IsLaidOut defs d

abbrev pub AreSound : List StructDef → Type 0
AreSound defs = (s : ℕ) (d : StructDef) → slice_get defs s ≡ Some d → IsSound defs d

-- what is complete before stays as it is
pub record Extends (before behind : List StructDef) : Type 0 where
  pub count : length before ≡ length behind
  pub rows : (s : ℕ) → is_empty (members_of before s) ≡ false → slice_get behind s ≡ slice_get before s

-- structs that two lists complete have the same members in the same order
abbrev pub Agree : List StructDef → List StructDef → Type 0
Agree some others = (s : ℕ) → is_empty (members_of some s) ≡ false → is_empty (members_of others s) ≡ false → map written (members_of some s) ≡ map written (members_of others s)
