use Rattle.std.proofs.Common.{refl}
use Rattle.std.specs.Fmt.{digits}
use Rattle.expr_serve.proofs.coder.brought.Goals as goal

pub returns-then-is_below : goal.returns-then-is_below
unfolding digits
returns-then-is_below c = rw c.if-is_below.true refl
