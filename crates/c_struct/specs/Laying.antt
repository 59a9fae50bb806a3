-- The layout of structs, member by member.
use Rattle.std.specs.Prelude.{◌≡◌, ◌≤◌, ◌<◌, ℕ, ◌+◌, List, map, Option, Some, None}
use Rattle.std.specs.Int.{next_multiple_of}
use Rattle.c_tree.specs.declared.types.CType.{CType}
use Rattle.c_tree.specs.declared.types.StructDef.{StructDef}
use Rattle.c_tree.specs.declared.types.Member.{Member}
use Rattle.c_tree.specs.Layout.{alignment_of, size_of, AreLaid}
use Rattle.c_typing.specs.Plain.{plain}
use Rattle.c_struct.specs.declared.members.WrittenMember.{WrittenMember}
use Rattle.c_struct.specs.declared.members.OpenStruct.{OpenStruct}
use Rattle.c_struct.specs.Structs.{Open, written, IsRow}
use Rattle.c_struct.specs.Opened.{written_member, members_in}

abbrev pub open_of : OpenStruct → Open
open_of o = record { at = o.at; tag = o.tag.now; members = members_in o }

-- where a member stands and where it ends, or that it ends behind the largest size
abbrev pub IsPlace : List StructDef → (from : ℕ) → CType → Option (ℕ × ℕ) → Type 0
IsPlace defs from t (Some p) = (p.0 ≡ next_multiple_of from (alignment_of defs t)) × (p.1 ≡ p.0 + size_of defs t) × (p.1 ≤ 1048576)
IsPlace defs from t None = 1048576 < next_multiple_of from (alignment_of defs t) + size_of defs t

abbrev pub IsMember : WrittenMember → (at : ℕ) → Member → Type 0
IsMember m at r = (r.name ≡ m.name.now) × (r.at ≡ at) × (plain r.ctype ≡ plain m.ctype)

-- so many members laid out up to an end
abbrev pub AreMembers : List StructDef → List WrittenMember → List Member → (end : ℕ) → Type 0
AreMembers defs ms ds end = (map written ds ≡ map written_member ms) × AreLaid defs 0 ds end

-- and that the end is within the largest size, or is not
abbrev pub AreLaidOrLarge : List StructDef → List WrittenMember → Option (List Member × ℕ) → Type 0
AreLaidOrLarge defs ms (Some p) = AreMembers defs ms p.0 p.1 × (p.1 ≤ 1048576)
AreLaidOrLarge defs ms None = (ds : List Member) × (end : ℕ) × AreMembers defs ms ds end × (1048576 < end)

-- the row of a struct, or that its size is above the largest
abbrev pub IsRowOrLarge : List StructDef → Open → Option StructDef → Type 0
IsRowOrLarge defs o (Some d) = IsRow defs o d
IsRowOrLarge defs o None = (d : StructDef) × IsRow defs o d × (1048576 < d.size)
