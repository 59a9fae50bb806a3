use Rattle.std.proofs.Common.{refl}
use Rattle.std.specs.Fmt.{digits}
use Rattle.expr_serve.proofs.operators.negation.Goals as goal

pub returns-then-is_unsigned : goal.returns-then-is_unsigned
unfolding digits
returns-then-is_unsigned c = rw (← c.is_unsigned.ensures, c.if-is_unsigned.true) refl
