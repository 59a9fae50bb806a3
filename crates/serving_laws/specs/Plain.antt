-- Expressions that need no memory of the target: constants, sizes, conversions, the operators on numbers, whether pointers are equal, and places behind pointers that aren't read.
use Rattle.std.specs.Prelude.{◌≡◌, ◌⊎◌, true, ℕ, suc, ◌+◌, ◌<◌, ◌≤◌, ◌^◌, List, None}
use Rattle.c_tree.specs.declared.types.StructDef.{StructDef}
use Rattle.c_tree.specs.declared.types.CType.{CType}
use Rattle.c_tree.specs.declared.typed.BinaryOp.{BinaryOp}
use Rattle.c_tree.specs.declared.typed.BinaryOp.TheVariants.{Equal, Unequal}
use Rattle.c_tree.specs.declared.typed.Typed.{Typed}
use Rattle.c_tree.specs.declared.typed.Typed.TheVariants.{Comma', Choice', Or', And', Binary', Cast', Address', Follow', Unary', SizeOf', SizeOfType, Index', Dot', Arrow', Constant, Parens'}
use Rattle.c_tree.specs.Types.{type_of, target_of, is_array}
use Rattle.c_tree.specs.Layout.{size_of}

-- numbers, or of any scalars whether they are equal
abbrev pub AreTaken : BinaryOp → CType → CType → Type 0
AreTaken op s t = ((target_of s ≡ None) × (target_of t ≡ None)) ⊎ ((op ≡ Equal) ⊎ (op ≡ Unequal))

abbrev mutual
  -- No part reads a place, asks for that of a name or moves a pointer, and constants and sizes are those of the language. An array behind a pointer is its place.
  pub IsPlain : List StructDef → Typed → Type 0
  IsPlain defs (Comma' _ _ a _ b) = IsPlain defs a × IsPlain defs b
  IsPlain defs (Choice' _ _ c _ a _ b) = IsPlain defs c × IsPlain defs a × IsPlain defs b
  IsPlain defs (Or' _ _ a _ b) = IsPlain defs a × IsPlain defs b
  IsPlain defs (And' _ _ a _ b) = IsPlain defs a × IsPlain defs b
  IsPlain defs (Binary' _ _ a op _ b) = AreTaken op (type_of a) (type_of b) × IsPlain defs a × IsPlain defs b
  IsPlain defs (Cast' _ _ a) = IsPlain defs a
  IsPlain defs (Address' _ _ a) = IsLed defs a
  IsPlain defs (Follow' h _ a) = (is_array h.ctype ≡ true) × IsPlain defs a
  IsPlain defs (Unary' _ op _ a) = IsPlain defs a
  IsPlain defs (SizeOf' _ _ a) = size_of defs (type_of a) ≤ 1048576
  IsPlain defs (SizeOfType _ t) = size_of defs t ≤ 1048576
  IsPlain defs (Constant _ n) = n < 2 ^ 32
  IsPlain defs (Parens' _ _ a) = IsPlain defs a
  IsPlain defs _ = ⊥

  -- where a pointer leads
  pub IsLed : List StructDef → Typed → Type 0
  IsLed defs (Follow' _ _ a) = IsPlain defs a
  IsLed defs (Parens' _ _ a) = IsLed defs a
  IsLed defs _ = ⊥

-- Where so many operands and so many items of the execution stack are below, the stacks have room: a right operand has one more operand below it, and
-- a part of a choice one more item.
abbrev pub RoomFor : Typed → (operands items : ℕ) → Type 0
RoomFor (Comma' _ _ a _ b) o i = RoomFor a o i × RoomFor b o i
RoomFor (Choice' _ _ c _ a _ b) o i = RoomFor c o i × RoomFor a o (suc i) × RoomFor b o (suc i)
RoomFor (Or' _ _ a _ b) o i = RoomFor a o i × RoomFor b o (suc i)
RoomFor (And' _ _ a _ b) o i = RoomFor a o i × RoomFor b o (suc i)
RoomFor (Binary' _ _ a op _ b) o i = RoomFor a o i × RoomFor b (suc o) i
RoomFor (Cast' _ _ a) o i = RoomFor a o i
RoomFor (Address' _ _ a) o i = RoomFor a o i
RoomFor (Follow' _ _ a) o i = RoomFor a o i
RoomFor (Unary' _ op _ a) o i = RoomFor a o i
RoomFor (Index' _ _ a _ b) o i = RoomFor a o i × RoomFor b (suc o) i
RoomFor (Dot' _ _ a m) o i = RoomFor a o i
RoomFor (Arrow' _ _ a m) o i = RoomFor a o i
RoomFor (Parens' _ _ a) o i = RoomFor a o i
RoomFor _ o i = (o + 5 ≤ 100000) × (i + 3 ≤ 1000)
