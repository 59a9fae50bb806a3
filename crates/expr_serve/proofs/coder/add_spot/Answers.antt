use Rattle.std.proofs.lemmas.Result.{on_ok_weaker}
use Rattle.expr_serve.proofs.Arms.{spot_at}
use Rattle.expr_serve.proofs.coder.add_spot.Goals as goal

pub returns : goal.returns
returns c =
    on_ok_weaker c.append.result
    (λ q. spot_at c.args.names.now c.args.defs.now c.args.e.now _ _ {c = c.append.new.self} c.standing_of.ensures c.spot.ensures c.in_ok-add_location.ensures q)
    c.append.ensures.ok
