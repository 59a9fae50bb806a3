-- Size, alignment and leaves of a type.
use Rattle.std.specs.Prelude.{◌≡◌, ◌≤◌, ℕ, suc, zero, ◌+◌, ◌*◌, max, List, [], ◌∷◌, ◌++◌, length, Option, Some, None, slice_get, map}
use Rattle.std.specs.Int.{next_multiple_of}
use Rattle.std.specs.List.{AllByRecursion}
use Rattle.c_tree.specs.declared.types.CType.{CType}
use Rattle.c_tree.specs.declared.types.CType.TheVariants.{Char, Int, Unsigned, Void, Pointer', Array', Struct}
use Rattle.c_tree.specs.declared.types.StructDef.{StructDef}
use Rattle.c_tree.specs.declared.types.Member.{Member}
use Rattle.c_tree.specs.declared.types.Leaf.{Leaf}
use Rattle.ldb_words.specs.declared.kinds.Kind.TheVariants.{Byte, Word, Address}

abbrev pub members_in : Option StructDef → List Member
members_in None = []
members_in (Some d) = d.members

-- the members of a struct by its number; one that is not there has none
abbrev pub members_of : List StructDef → ℕ → List Member
members_of defs s = members_in (slice_get defs s)

abbrev pub size_in : Option StructDef → ℕ
size_in None = 0
size_in (Some d) = d.size

abbrev pub struct_size_of : List StructDef → ℕ → ℕ
struct_size_of defs s = size_in (slice_get defs s)

-- bytes of a type: 1 for a `char`, 4 for the other scalars
abbrev pub size_of : List StructDef → CType → ℕ
size_of defs Char = 1
size_of defs Int = 4
size_of defs Unsigned = 4
size_of defs Void = 0
size_of defs (Pointer' _ t) = 4
size_of defs (Array' _ t n) = n * size_of defs t
size_of defs (Struct s) = struct_size_of defs s

-- ---- depth and completeness

-- A type is at most `deep` deep. An integer, `void` and a pointer to a struct are 1 deep. Another pointer, an array and a struct are one deeper than what they point to or hold.
abbrev pub IsWithin : List StructDef → (deep : ℕ) → CType → Type 0
IsWithin defs zero t = ⊥
IsWithin defs (suc deep) Char = Unit {0}
IsWithin defs (suc deep) Int = Unit {0}
IsWithin defs (suc deep) Unsigned = Unit {0}
IsWithin defs (suc deep) Void = Unit {0}
IsWithin defs (suc deep) (Pointer' _ (Struct s)) = Unit {0}
IsWithin defs (suc deep) (Pointer' _ t) = IsWithin defs deep t
IsWithin defs (suc deep) (Array' _ t n) = IsWithin defs deep t
IsWithin defs (suc deep) (Struct s) = AllByRecursion (λ m. IsWithin defs deep m.ctype) (members_of defs s)

-- A complete type is not `void`, its arrays have bounds, and its structs have members (C90 6.1.2.5).
abbrev pub IsComplete : List StructDef → CType → Type 0
IsComplete defs Char = Unit {0}
IsComplete defs Int = Unit {0}
IsComplete defs Unsigned = Unit {0}
IsComplete defs Void = ⊥
IsComplete defs (Pointer' _ t) = Unit {0}
IsComplete defs (Array' _ t n) = (1 ≤ n) × IsComplete defs t
IsComplete defs (Struct s) = 1 ≤ length (members_of defs s)

-- ---- leaves

abbrev moved_leaf : ℕ → Leaf → Leaf
moved_leaf by l = record l { at = by + l.at }

-- the leaves of something that stands at an offset
abbrev pub leaves_at : ℕ → List Leaf → List Leaf
leaves_at by ls = map (moved_leaf by) ls

-- the leaves of n items of a size, the first of which stands at an offset
abbrev pub repeated : (n size at : ℕ) → List Leaf → List Leaf
repeated zero size at ls = []
repeated (suc n) size at ls = leaves_at at ls ++ repeated n size (at + size) ls

abbrev pub leaves_of_members : (CType → List Leaf) → List Member → List Leaf
leaves_of_members f [] = []
leaves_of_members f (m ∷ ms) = leaves_at m.at (f m.ctype) ++ leaves_of_members f ms

-- The leaves of a type that is at most `deep` deep: one for a scalar, and those of what it holds for an array and a struct.
abbrev pub leaves_within : List StructDef → (deep : ℕ) → CType → List Leaf
leaves_within defs zero t = []
leaves_within defs (suc deep) Char = record { at = 0; kind = Byte } ∷ []
leaves_within defs (suc deep) Int = record { at = 0; kind = Word } ∷ []
leaves_within defs (suc deep) Unsigned = record { at = 0; kind = Word } ∷ []
leaves_within defs (suc deep) Void = []
leaves_within defs (suc deep) (Pointer' _ t) = record { at = 0; kind = Address } ∷ []
leaves_within defs (suc deep) (Array' _ t n) = repeated n (size_of defs t) 0 (leaves_within defs deep t)
leaves_within defs (suc deep) (Struct s) = leaves_of_members (leaves_within defs deep) (members_of defs s)

-- the leaves of a type in order: no type is deeper than 64
abbrev pub leaves_of : List StructDef → CType → List Leaf
leaves_of defs t = leaves_within defs 64 t

-- ---- layout

abbrev pub alignment_of_members : (CType → ℕ) → List Member → ℕ
alignment_of_members f [] = 1
alignment_of_members f (m ∷ ms) = max (f m.ctype) (alignment_of_members f ms)

-- a scalar is aligned at its size, and an array and a struct at the largest alignment of what they hold
abbrev pub alignment_within : List StructDef → (deep : ℕ) → CType → ℕ
alignment_within defs zero t = 1
alignment_within defs (suc deep) Char = 1
alignment_within defs (suc deep) Int = 4
alignment_within defs (suc deep) Unsigned = 4
alignment_within defs (suc deep) Void = 1
alignment_within defs (suc deep) (Pointer' _ t) = 4
alignment_within defs (suc deep) (Array' _ t n) = alignment_within defs deep t
alignment_within defs (suc deep) (Struct s) = alignment_of_members (alignment_within defs deep) (members_of defs s)

abbrev pub alignment_of : List StructDef → CType → ℕ
alignment_of defs t = alignment_within defs 64 t

-- members from an offset on: each stands at the least fitting offset, and the last ends at `end`
abbrev pub AreLaid : List StructDef → (from : ℕ) → List Member → (end : ℕ) → Type 0
AreLaid defs from [] end = from ≡ end
AreLaid defs from (m ∷ ms) end = (m.at ≡ next_multiple_of from (alignment_of defs m.ctype)) × AreLaid defs (m.at + size_of defs m.ctype) ms end

-- a struct's size is the least multiple of its largest alignment that holds its members
abbrev pub IsLaidOut : List StructDef → StructDef → Type 0
IsLaidOut defs d = (end : ℕ) × AreLaid defs 0 d.members end × (d.size ≡ next_multiple_of end (alignment_of_members (alignment_of defs) d.members))
