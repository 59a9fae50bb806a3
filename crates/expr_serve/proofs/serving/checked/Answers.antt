use Rattle.std.proofs.Common.{sym, subst}
use Rattle.expr_serve.specs.Serving.{IsRefused}
use Rattle.expr_serve.proofs.Refusing.{refused_by}
use Rattle.expr_serve.proofs.serving.checked.Goals as goal

pub returns-in-Err-result : goal.returns-in-Err-result
returns-in-Err-result c =
    subst (IsRefused c.args.text.now c.args.mode c.args.symbols.now c.args.defs.now) (sym c.refused_by.ensures)
    (refused_by c.args.text.now c.args.mode c.args.symbols.now c.args.defs.now c.in-Ok.expr c.in-Err-result.fault c.in-Ok.ensures c.in-Err-result.ensures)
