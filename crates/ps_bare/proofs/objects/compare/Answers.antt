use Rattle.std.proofs.Common.{None, ◌∙◌, sym}
use Rattle.ps_pointers.specs.Pointers as pointers
use Rattle.ps_leaves.specs.Leaves as leaves
use Rattle.ps_bare.proofs.Acting.{did, failed, comparison_bare, comparison_failed}
use Rattle.ps_bare.proofs.objects.compare.Goals as goal

pub returns-in-Ok-clause-acts : goal.returns-in-Ok-clause-acts
returns-in-Ok-clause-acts c =
    let core = c.args.core.now in
    λ cell. did 25 cell core c.leave_order.new.core c.leave_order.result (pointers.leaving_order None None core) (comparison_bare cell core _ (sym c.comparison_operands.ensures.asked ∙ c.in-Ok.is)) c.leave_order.ensures.does

pub returns-in-Err-clause-acts : goal.returns-in-Err-clause-acts
returns-in-Err-clause-acts c =
    let core = c.args.core.now in
    λ cell. failed cell core 25 c.in-Err.error (comparison_failed cell core c.in-Err.error (sym c.comparison_operands.ensures.asked ∙ c.in-Err.is))
