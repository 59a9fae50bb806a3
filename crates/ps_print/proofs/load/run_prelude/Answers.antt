use Rattle.std.proofs.Common.{ap}
use Rattle.std.proofs.lemmas.Result.{err_from_is_err_and}
use Rattle.ps_step.specs.declared.machine.PsCore.{PsCore}
use Rattle.ps_print.proofs.Loading.{prepare_refused, ran_after, taken_after}
use Rattle.ps_print.proofs.load.run_prelude.Goals as goal

pub returns-in_err-text-clause-ran : goal.returns-in_err-text-clause-ran
returns-in_err-text-clause-ran c =
    let p = err_from_is_err_and c.from_residual.result c.from_residual.ensures.1 in
    rw (p.1, p.2) (prepare_refused c.in_err-text.field-0.0 c.args.core.now.store c.prepare.new.store _ (ap (λ (o : PsCore). o.store) c.requires.new) c.in_err-text.ensures)

pub returns-clause-ran : goal.returns-clause-ran
returns-clause-ran c =
    ran_after _ c.args.core.now c.run.new.core c.in_ok-text.text c.prepare.new.store _ _ c.run.result c.args.steps.now.taken c.args.steps.now.limit c.run.new.steps.taken c.run.new.steps.limit
    c.requires.new c.in_ok-text.ensures c.requires.enough c.run.ensures.limit c.run.ensures.within c.run.ensures.runs c.run.ensures.kept

pub returns-clause-steps : goal.returns-clause-steps
returns-clause-steps c =
    taken_after _ c.args.core.now c.run.new.core c.in_ok-text.text c.prepare.new.store _ _ c.run.result c.args.steps.now.taken c.args.steps.now.limit c.run.new.steps.taken c.run.new.steps.limit
    c.requires.new c.in_ok-text.ensures c.requires.enough c.run.ensures.limit c.run.ensures.within c.run.ensures.runs c.run.ensures.kept
