use Rattle.expr_serve.proofs.Texts.{none_by_grammar, none_by_depth}
use Rattle.expr_serve.proofs.serving.tree_of.Goals as goal

pub returns-in-Err-Syntax-clause-none : goal.returns-in-Err-Syntax-clause-none
returns-in-Err-Syntax-clause-none c = λ q. none_by_grammar _ _ _ c.in-Err-Syntax.field-0-is c.in-Err-Syntax.ensures

pub returns-in-Err-Deep-clause-none : goal.returns-in-Err-Deep-clause-none
returns-in-Err-Deep-clause-none c = λ q. none_by_depth _ _ _ c.in-Err-Deep.field-0-is c.in-Err-Deep.ensures
