use Rattle.std.proofs.Common.{refl}
use Rattle.std.specs.Fmt.{digits}
use Rattle.expr_serve.proofs.operators.conversion.Goals as goal

pub returns-in-Char : goal.returns-in-Char
unfolding digits
returns-in-Char c = rw c.in-Char.is refl
