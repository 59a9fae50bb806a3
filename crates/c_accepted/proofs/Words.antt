-- Typed trees as memory holds them, where each constant has 32 bits.
use Rattle.std.specs.Prelude.{◌<◌, ◌^◌}
use Rattle.c_tree.specs.declared.typed.Typed.{Typed, Row_of-Typed, end_of-Typed, more_of-Typed}
use Rattle.c_tree.specs.declared.typed.Typed.TheVariants.{Comma', Assign', Choice', Or', And', Binary', Cast', Before', Address', Follow', Unary', SizeOf', SizeOfType, Index', Call', Dot', Arrow', After', Name, Constant, Literal, Parens'}

abbrev mutual
  -- each constant of an expression is a word
  pub HasWords : Typed → Type 0
  HasWords (Comma' h _ a _ b) = HasWords a × HasWords b
  HasWords (Assign' h _ a op _ b) = HasWords a × HasWords b
  HasWords (Choice' h _ c _ a _ b) = HasWords c × HasWords a × HasWords b
  HasWords (Or' h _ a _ b) = HasWords a × HasWords b
  HasWords (And' h _ a _ b) = HasWords a × HasWords b
  HasWords (Binary' h _ a op _ b) = HasWords a × HasWords b
  HasWords (Cast' h _ a) = HasWords a
  HasWords (Before' h op _ a) = HasWords a
  HasWords (Address' h _ a) = HasWords a
  HasWords (Follow' h _ a) = HasWords a
  HasWords (Unary' h op _ a) = HasWords a
  HasWords (SizeOf' h _ a) = HasWords a
  HasWords (SizeOfType h t) = Unit {0}
  HasWords (Index' h _ a _ b) = HasWords a × HasWords b
  HasWords (Call' h f _ row) = AllHaveWords row
  HasWords (Dot' h _ a m) = HasWords a
  HasWords (Arrow' h _ a m) = HasWords a
  HasWords (After' h _ a op) = HasWords a
  HasWords (Name h n) = Unit {0}
  HasWords (Constant h n) = n < 2 ^ 32
  HasWords (Literal h n) = Unit {0}
  HasWords (Parens' h _ a) = HasWords a

  pub AllHaveWords : {m : _} → Row_of-Typed m → Type 0
  AllHaveWords end_of-Typed = Unit {0}
  AllHaveWords (more_of-Typed e rest) = HasWords e × AllHaveWords rest
