use Rattle.std.proofs.Common.{refl}
use Rattle.std.specs.Fmt.{digits}
use Rattle.expr_serve.proofs.emit.pointed_leaf.Goals as goal

pub returns-in-Char : goal.returns-in-Char
unfolding digits
returns-in-Char c = rw c.in-Char.is refl

pub returns-in-Pointer : goal.returns-in-Pointer
unfolding digits
returns-in-Pointer c = rw c.in-Pointer.is refl

pub returns-in-Array : goal.returns-in-Array
unfolding digits
returns-in-Array c = rw c.in-Array.is refl

pub returns-in-Int : goal.returns-in-Int
unfolding digits
returns-in-Int c = rw c.in-Int.is refl

pub returns-in-Unsigned : goal.returns-in-Unsigned
unfolding digits
returns-in-Unsigned c = rw c.in-Unsigned.is refl

pub returns-in-Void : goal.returns-in-Void
unfolding digits
returns-in-Void c = rw c.in-Void.is refl

pub returns-in-Struct : goal.returns-in-Struct
unfolding digits
returns-in-Struct c = rw c.in-Struct.is refl
