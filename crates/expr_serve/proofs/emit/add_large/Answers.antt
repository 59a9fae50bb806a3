use Rattle.std.proofs.Common.{arith}
use Rattle.std.proofs.lemmas.Result.{on_ok_weaker}
use Rattle.expr_serve.proofs.Growing.{beyond_grown, further_grown, back_grown}
use Rattle.expr_serve.proofs.emit.add_large.Goals as goal

pub returns-then-size-ne1 : goal.returns-then-size-ne1
returns-then-size-ne1 c = on_ok_weaker c.append.result (λ e. beyond_grown c.args.is_back c.args.size (λ one. omega (arith, one, c.if-size-ne1.true)) e) c.append.ensures.ok

pub returns-then-is_back : goal.returns-then-is_back
returns-then-is_back c =
    on_ok_weaker c.append-then-is_back.result (λ e. back_grown c.args.is_back c.args.size (omega (arith, c.if-size-ne1.false)) c.if-is_back.true e) c.append-then-is_back.ensures.ok

pub returns-else-is_back : goal.returns-else-is_back
returns-else-is_back c =
    on_ok_weaker c.append-else-is_back.result (λ e. further_grown c.args.is_back c.args.size (omega (arith, c.if-size-ne1.false)) c.if-is_back.false e) c.append-else-is_back.ensures.ok
