use Rattle.std.proofs.lemmas.Result.{on_ok_weaker}
use Rattle.expr_serve.proofs.Arms.{setting_arm}
use Rattle.expr_serve.proofs.coder.add_setting.Goals as goal

pub returns : goal.returns
returns c =
    on_ok_weaker c.append-2.result
    (λ q. setting_arm c.args.names.now c.args.defs.now c.args.a.now c.args.b.now _ _ _ _ _ {e = c.append-2.new.self} c.type_of.ensures c.conversion.ensures c.standing_of.ensures c.type_of-2.ensures c.live_leaf.ensures
    c.in_ok-add_spot.ensures c.in_ok-add_value.ensures c.in_ok-append.ensures.ok q)
    c.append-2.ensures.ok
