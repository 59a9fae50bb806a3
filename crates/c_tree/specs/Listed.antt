-- What the calls on layout answer.
use Rattle.std.specs.Prelude.{◌≡◌, ◌≤◌, ◌<◌, ℕ, ◌+◌, ◌%◌, ◌^◌, List, map, Result, Ok, Err, Vec}
use Rattle.std.specs.declared.alloc.Global.{Global}
use Rattle.c_tree.specs.declared.types.CType.{CType}
use Rattle.c_tree.specs.declared.types.StructDef.{StructDef}
use Rattle.c_tree.specs.declared.types.Leaf.{Leaf}
use Rattle.c_tree.specs.declared.layout.TooBig.{TooBig as Excess}
use Rattle.c_tree.specs.declared.layout.LeafFault.{LeafFault}
use Rattle.c_tree.specs.declared.layout.LeafFault.TheVariants.{TooBig, NoMemory}
use Rattle.c_tree.specs.Layout.{size_of, leaves_of}

-- the size where it is at most 1,048,576, and TooBig where it is more
abbrev pub IsSize : ℕ → Result ℕ Excess → Type 0
IsSize size (Ok n) = (n ≡ size) × (size ≤ 1048576)
IsSize size (Err e) = 1048576 < size

-- the leaves of something that stands at an offset; offsets are kept modulo 2^32
abbrev pub kept : ℕ → Leaf → Leaf
kept by l = record l { at = (by + l.at) % 2 ^ 32 }

abbrev pub kept_at : ℕ → List Leaf → List Leaf
kept_at by ls = map (kept by) ls

-- the leaves of a type of at most 1,048,576 bytes, and TooBig of a larger one
abbrev pub AreLeaves : List StructDef → CType → Result (Vec Leaf Global) LeafFault → Type 0
AreLeaves defs t (Ok ls) = (size_of defs t ≤ 1048576) × (ls.items ≡ kept_at 0 (leaves_of defs t))
AreLeaves defs t (Err TooBig) = 1048576 < size_of defs t
AreLeaves defs t (Err NoMemory) = size_of defs t ≤ 1048576
