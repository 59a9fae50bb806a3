use Rattle.std.proofs.Common.{refl}
use Rattle.std.specs.Fmt.{digits}
use Rattle.expr_serve.proofs.operators.on_ints.Goals as goal

pub returns-in-Equal : goal.returns-in-Equal
unfolding digits
returns-in-Equal c = rw c.in-Equal.is refl

pub returns-in-Unequal : goal.returns-in-Unequal
unfolding digits
returns-in-Unequal c = rw c.in-Unequal.is refl

pub returns-in-Less : goal.returns-in-Less
unfolding digits
returns-in-Less c = rw c.in-Less.is refl

pub returns-in-Greater : goal.returns-in-Greater
unfolding digits
returns-in-Greater c = rw c.in-Greater.is refl

pub returns-in-LessEqual : goal.returns-in-LessEqual
unfolding digits
returns-in-LessEqual c = rw c.in-LessEqual.is refl

pub returns-in-GreaterEqual : goal.returns-in-GreaterEqual
unfolding digits
returns-in-GreaterEqual c = rw c.in-GreaterEqual.is refl
