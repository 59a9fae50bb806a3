use Rattle.expr_serve.proofs.Asked.{scope_answered}
use Rattle.expr_serve.proofs.laws.scope_is_answered.Goals as goal

pub returns : goal.returns
returns c = λ s m e. scope_answered s m e
