use Rattle.std.proofs.Common.{None, ◌∙◌, sym}
use Rattle.ps_pointers.specs.Pointers as pointers
use Rattle.ps_leaves.specs.Leaves as leaves
use Rattle.ps_bare.proofs.Acting.{did, failed, run_bare, run_failed}
use Rattle.ps_bare.proofs.objects.measure_run.Goals as goal

pub returns-in-Ok-clause-acts : goal.returns-in-Ok-clause-acts
returns-in-Ok-clause-acts c =
    let core = c.args.core.now in
    λ cell. did 32 cell core c.leave_run.new.core c.leave_run.result (leaves.leaving_run None core) (run_bare cell core _ (sym c.top_word.ensures.word ∙ c.in-Ok.is)) c.leave_run.ensures.does

pub returns-in-Err-clause-acts : goal.returns-in-Err-clause-acts
returns-in-Err-clause-acts c =
    let core = c.args.core.now in
    λ cell. failed cell core 32 c.in-Err.error (run_failed cell core c.in-Err.error (sym c.top_word.ensures.word ∙ c.in-Err.is))
