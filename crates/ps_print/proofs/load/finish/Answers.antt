use Rattle.std.proofs.lemmas.Result.{err_from_is_err_and}
use Rattle.ps_print.proofs.Loading.{dict_refused}
use Rattle.ps_print.proofs.load.finish.Goals as goal

pub returns-in_err-d : goal.returns-in_err-d
returns-in_err-d c =
    let p = err_from_is_err_and c.from_residual.result c.from_residual.ensures.1 in
    rw (p.1, p.2) (dict_refused c.args.core.now c.requires c.in_err-d.field-0.0 c.close_all.new.self c.make_dict.new.self _ c.close_all.ensures.all c.in_err-d.ensures.does)
