use Rattle.std.proofs.lemmas.Result.{on_ok_weaker}
use Rattle.expr_serve.proofs.Growing.{in_items}
use Rattle.expr_serve.proofs.emit.add_unsigned_items.Goals as goal

pub returns : goal.returns
returns c =
    on_ok_weaker c.append-3.result
    (λ e. in_items {f = c.append-3.new.self} c.args.is_back c.args.size c.in_ok-append.ensures.ok c.in_ok-add_large.ensures c.in_ok-append-2.ensures.ok c.in_ok-add_counted.ensures e)
    c.append-3.ensures.ok
