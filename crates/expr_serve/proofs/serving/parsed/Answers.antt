use Rattle.std.proofs.Common.{sym, subst}
use Rattle.c_lex.specs.Grammar.{HasTokens}
use Rattle.expr_serve.proofs.Refusing.{parsed_tree}
use Rattle.expr_serve.proofs.serving.parsed.Goals as goal

pub returns-in-Ok : goal.returns-in-Ok
returns-in-Ok c =
    parsed_tree c.args.text.now c.as_slice.result.now c.tree_of.result (subst (HasTokens c.args.text.now) (sym c.as_slice.ensures.value) c.in-Ok.ensures.tokens) c.tree_of.ensures.read c.tree_of.ensures.none
    c.tree_of.ensures.reasons
