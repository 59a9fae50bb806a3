use Rattle.std.proofs.Common.{refl}
use Rattle.std.specs.Fmt.{digits}
use Rattle.expr_serve.proofs.operators.on_one.Goals as goal

pub returns-in-Not : goal.returns-in-Not
unfolding digits
returns-in-Not c = rw c.in-Not.is refl
