-- The types of expressions, and what the operators make of them.
use Rattle.std.specs.Prelude.{Bool, true, false, ◌||◌, if◌then◌else◌, Option, Some, None}
use Rattle.c_tree.specs.declared.typed.Typed.{Typed}
use Rattle.c_tree.specs.declared.typed.Typed.TheVariants.{Comma', Assign', Choice', Or', And', Binary', Cast', Before', Address', Follow', Unary', SizeOf', SizeOfType, Index', Call', Dot', Arrow', After', Name, Constant, Literal, Parens'}
use Rattle.c_tree.specs.declared.typed.Head.{Head}
use Rattle.c_tree.specs.declared.types.CType.{CType}
use Rattle.c_tree.specs.declared.types.CType.TheVariants.{Char, Int, Unsigned, Void, Pointer', Array', Struct}
use Rattle.ldb_words.specs.declared.kinds.Kind.{Kind}
use Rattle.ldb_words.specs.declared.kinds.Kind.TheVariants.{Byte, Word, Address}

abbrev pub head_of : Typed → Head
head_of (Comma' h _ a _ b) = h
head_of (Assign' h _ a op _ b) = h
head_of (Choice' h _ c _ a _ b) = h
head_of (Or' h _ a _ b) = h
head_of (And' h _ a _ b) = h
head_of (Binary' h _ a op _ b) = h
head_of (Cast' h _ a) = h
head_of (Before' h op _ a) = h
head_of (Address' h _ a) = h
head_of (Follow' h _ a) = h
head_of (Unary' h op _ a) = h
head_of (SizeOf' h _ a) = h
head_of (SizeOfType h t) = h
head_of (Index' h _ a _ b) = h
head_of (Call' h f _ row) = h
head_of (Dot' h _ a m) = h
head_of (Arrow' h _ a m) = h
head_of (After' h _ a op) = h
head_of (Name h n) = h
head_of (Constant h n) = h
head_of (Literal h n) = h
head_of (Parens' h _ a) = h

abbrev pub type_of : Typed → CType
type_of e = (head_of e).ctype

-- what a pointer points to; an array is a pointer to its first item (C90 6.2.2.1)
abbrev pub target_of : CType → Option CType
target_of Char = None
target_of Int = None
target_of Unsigned = None
target_of Void = None
target_of (Pointer' _ t) = Some t
target_of (Array' _ t n) = Some t
target_of (Struct s) = None

abbrev pub is_unsigned : CType → Bool
is_unsigned Unsigned = true
is_unsigned _ = false

abbrev pub is_array : CType → Bool
is_array (Array' _ t n) = true
is_array _ = false

abbrev pub is_struct : CType → Bool
is_struct (Struct s) = true
is_struct _ = false

-- the integral promotions (C90 6.2.1.1)
abbrev pub promoted : CType → CType
promoted t = if is_unsigned t then Unsigned else Int

-- the usual arithmetic conversions (C90 6.2.1.5)
abbrev pub common : CType → CType → CType
common s t = if is_unsigned s || is_unsigned t then Unsigned else Int

-- what a scalar's leaf holds
abbrev pub kind_of : CType → Kind
kind_of Char = Byte
kind_of Int = Word
kind_of Unsigned = Word
kind_of Void = Word
kind_of (Pointer' _ t) = Address
kind_of (Array' _ t n) = Address
kind_of (Struct s) = Word
