use Rattle.std.proofs.lemmas.Result.{on_ok_weaker}
use Rattle.expr_serve.proofs.Arms.{copying_arm}
use Rattle.expr_serve.proofs.coder.add_copying.Goals as goal

pub returns : goal.returns
returns c =
    on_ok_weaker c.add_live-2.result
    (λ q. copying_arm c.args.names.now c.args.defs.now c.args.a.now c.args.b.now _ _ _ _ {e = c.add_live-2.new.text} c.standing_of.ensures c.type_of.ensures c.standing_of-2.ensures c.type_of-2.ensures
    c.in_ok-add_spot.ensures c.in_ok-add_spot-2.ensures c.in_ok-add_live.ensures q)
    c.add_live-2.ensures
