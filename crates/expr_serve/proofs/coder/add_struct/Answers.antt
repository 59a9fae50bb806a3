use Rattle.std.proofs.lemmas.Result.{on_ok_weaker}
use Rattle.expr_serve.proofs.Arms.{struct_named, struct_pointed}
use Rattle.expr_serve.proofs.coder.add_struct.Goals as goal

pub returns-in-Named : goal.returns-in-Named
returns-in-Named c = struct_named c.args.names.now c.args.defs.now c.args.e.now _ c.standing_of.ensures c.in-Named.is c.in_ok-add_location.ensures

pub returns-in-Pointed : goal.returns-in-Pointed
returns-in-Pointed c =
    on_ok_weaker c.add_leaves.result
    (λ q. struct_pointed c.args.names.now c.args.defs.now c.args.e.now _ _ c.standing_of.ensures c.in-Pointed.is c.type_of.ensures c.in_ok-add_location.ensures q)
    c.add_leaves.ensures
