use Rattle.std.proofs.Common.{sym, ◌∙◌}
use Rattle.c_symbol.specs.Terminals.{terminals}
use Rattle.c_expr.specs.declared.frame.Least.TheVariants.{Expression}
use Rattle.c_expr.proofs.Fed.{read_is}
use Rattle.c_expr.proofs.Exact.{is_tree, is_deep, of_fault}
use Rattle.c_expr.proofs.read.parse_expr.Goals as goal

pub returns-in-Some : goal.returns-in-Some
returns-in-Some c =
    rw (c.into_inner.ensures, c.in-Some.built-is) (is_tree (terminals c.args.text.now c.args.tokens.now) c.in-Ok.g c.in-Some.built (sym (read_is Expression c.args.text.now c.args.tokens.now) ∙ c.in-Ok.ensures) c.in-Some.is)

pub returns-in-None : goal.returns-in-None
returns-in-None c = is_deep (terminals c.args.text.now c.args.tokens.now) c.in-Ok.g (sym (read_is Expression c.args.text.now c.args.tokens.now) ∙ c.in-Ok.ensures) c.in-None.is

pub returns-in-Err : goal.returns-in-Err
returns-in-Err c = of_fault c.args.text.now c.args.tokens.now c.in-Err.fault c.in-Err.ensures
