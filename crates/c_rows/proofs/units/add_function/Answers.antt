use Rattle.std.proofs.lemmas.Result.{on_ok_weaker}
use Rattle.c_rows.proofs.Filed.{file_kept, functions_added}
use Rattle.c_rows.proofs.units.add_function.Goals as goal

pub returns-in-Some-clause-files : goal.returns-in-Some-clause-files
returns-in-Some-clause-files c =
    on_ok_weaker c.push.result (λ e. file_kept c.args.units.now.items c.args.unit c.in-Some.row.now _ c.in-Some.ensures.value) c.push.ensures.ok

pub returns-in-Some-clause-functions : goal.returns-in-Some-clause-functions
returns-in-Some-clause-functions c =
    on_ok_weaker c.push.result (λ e u h. functions_added c.args.units.now.items c.args.unit u c.in-Some.row.now c.push.new.self c.args.number h c.in-Some.ensures.value e) c.push.ensures.ok
