use Rattle.std.proofs.lemmas.Result.{on_ok_weaker}
use Rattle.expr_serve.proofs.Making.{leaves_grown}
use Rattle.expr_serve.proofs.types.add_struct_leaves.Goals as goal

pub returns : goal.returns
returns c =
    on_ok_weaker c.append-3.result
    (λ e. leaves_grown c.args.defs.now c.args.s {g = c.append-3.new.self} c.in_ok-append.ensures.ok c.in_ok-add_count.ensures c.in_ok-append-2.ensures.ok c.in_ok-fill_structs.ensures c.in_ok-add_number.ensures e)
    c.append-3.ensures.ok
