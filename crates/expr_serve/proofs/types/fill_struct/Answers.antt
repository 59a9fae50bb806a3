use Rattle.std.proofs.lemmas.Result.{on_ok_weaker}
use Rattle.expr_serve.proofs.Making.{struct_grown}
use Rattle.expr_serve.proofs.types.fill_struct.Goals as goal

pub returns : goal.returns
returns c =
    let rows = rw c.as_slice.ensures at c.in_ok-add_rows.ensures in
    on_ok_weaker c.append-3.result
    (λ e. struct_grown c.args.defs.now c.args.s c.args.def.now {h = c.append-3.new.self} c.in_ok-add_number.ensures c.in_ok-append.ensures.ok c.in_ok-add_number-2.ensures c.in_ok-append-2.ensures.ok rows e)
    c.append-3.ensures.ok
