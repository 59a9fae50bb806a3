use Rattle.std.proofs.Common.{None, ◌∙◌, sym}
use Rattle.ps_pointers.specs.Pointers as pointers
use Rattle.ps_leaves.specs.Leaves as leaves
use Rattle.ps_bare.proofs.Acting.{did, failed, sum_bare, sum_failed}
use Rattle.ps_bare.proofs.objects.add.Goals as goal

pub returns-in-Ok-clause-acts : goal.returns-in-Ok-clause-acts
returns-in-Ok-clause-acts c =
    let core = c.args.core.now in
    λ cell. did 23 cell core c.leave_sum.new.core c.leave_sum.result (pointers.leaving_sum None c.in-Ok.count c.in-Ok.size core) (sum_bare cell core _ (sym c.sum_operands.ensures.asked ∙ c.in-Ok.is)) c.leave_sum.ensures.does

pub returns-in-Err-clause-acts : goal.returns-in-Err-clause-acts
returns-in-Err-clause-acts c =
    let core = c.args.core.now in
    λ cell. failed cell core 23 c.in-Err.error (sum_failed cell core c.in-Err.error (sym c.sum_operands.ensures.asked ∙ c.in-Err.is))
