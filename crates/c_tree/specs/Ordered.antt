-- Leaves stand one behind the other, and aligned.
use Rattle.std.specs.Prelude.{◌≡◌, ◌≤◌, ℕ, ◌+◌, ◌%◌, List, [], ◌∷◌, Some, slice_get}
use Rattle.c_tree.specs.declared.types.StructDef.{StructDef}
use Rattle.c_tree.specs.declared.types.Leaf.{Leaf}
use Rattle.c_tree.specs.Layout.{IsLaidOut}
use Rattle.ldb_words.specs.declared.kinds.Kind.{Kind}
use Rattle.ldb_words.specs.declared.kinds.Kind.TheVariants.{Byte, Word, Address}

-- the bytes of a leaf
abbrev pub width_of : Kind → ℕ
width_of Byte = 1
width_of Word = 4
width_of Address = 4

-- a leaf stands at a multiple of its width
abbrev pub IsAligned : Leaf → Type 0
IsAligned l = l.at % width_of l.kind ≡ 0

-- leaves lie in order of offset between two places, and none begins before the one in front has ended
abbrev pub LieIn : ℕ → List Leaf → ℕ → Type 0
LieIn from [] end = from ≤ end
LieIn from (l ∷ ls) end = (from ≤ l.at) × LieIn (l.at + width_of l.kind) ls end

-- each struct stands as the layout has it
abbrev pub AllLaidOut : List StructDef → Type 0
AllLaidOut defs = (s : ℕ) (d : StructDef) → slice_get defs s ≡ Some d → IsLaidOut defs d
