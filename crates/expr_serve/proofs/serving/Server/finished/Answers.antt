use Rattle.expr_serve.proofs.Refusing.{held_refused, held_served}
use Rattle.expr_serve.proofs.serving.Server.finished.Goals as goal

pub returns-in-Err : goal.returns-in-Err
returns-in-Err c = held_refused c.args.self.now.mode c.as_bytes.ensures c.as_slice-symbols.ensures.value c.as_slice-defs.ensures.value c.in-Err.refused c.in-Err.ensures

pub returns-in-Ok-result : goal.returns-in-Ok-result
returns-in-Ok-result c =
    held_served c.args.self.now.mode c.as_bytes.ensures c.as_slice-symbols.ensures.value c.as_slice-defs.ensures.value c.in-Ok.typed c.in-Ok-result.told.0 c.in-Ok-result.told.1 c.in-Ok.ensures
    c.in-Ok-result.ensures.text c.in-Ok-result.ensures.ctype
